-- What a writer leaves in the caller's buffer and returns.
use Rattle.std.specs.Prelude.{◌≡◌, ℕ, ◌-◌, ◌^◌, ◌==◌, List, ◌++◌, length, drop, nat_le, if◌then◌else◌, Some, None, Ok}
use Rattle.std.specs.Prelude.{Err}
use Rattle.pg_base.specs.Appending.{Wire}
use Rattle.pg_base.specs.Bits.{bytes_for, first_bits, wire_bits}
use Rattle.pg_types.specs.Faults.{transmit}

-- a buffer with bytes at its front; if there is no room for them, it is unchanged
abbrev pub with_front : List ℕ → List ℕ → List ℕ
with_front b old = if nat_le (length b) (length old) then b ++ drop (length b) old else old

-- the bytes were written to the front of the buffer if there was room for them, and nothing else of it changed; the
-- result is their number
unfoldable pub WritesInto : List ℕ → List ℕ → List ℕ → ℕ → Type 0
WritesInto b old new len = (new ≡ with_front b old) × (len ≡ length b)

-- the result for a value that has no cell
abbrev pub no_cell : ℕ
no_cell = 2 ^ 64 - 1

-- the cell was written; or the value has none, and the buffer is unchanged
unfoldable pub WritesCell : Wire → List ℕ → List ℕ → ℕ → Type 0
WritesCell (Ok None) old new len = ⊥
WritesCell (Ok (Some b)) old new len = WritesInto b old new len
WritesCell (Err r) old new len = (new ≡ old) × (len ≡ no_cell)

-- the cell of the first n bits of bytes; if there are not exactly as many bytes as the bits take, there is none
abbrev pub wire_first_bits : ℕ → List ℕ → Wire
wire_first_bits n b = if length b == bytes_for n then wire_bits (first_bits n b) else Err transmit
