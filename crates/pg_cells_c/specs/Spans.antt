-- Parts of a cell, as offsets and lengths.
use Rattle.std.specs.Prelude.{◌≡◌, ℕ, ◌+◌, List, length, take, drop, Bool}
use Rattle.pg_base.specs.Bits.{SpellsBits, bytes_for, first_bits}
use Rattle.pg_base.specs.Texts.{FormText}
use Rattle.pg_cells_c.specs.declared.spans.Span.{Span}
use Rattle.pg_cells_c.specs.declared.bits.Bits.{Bits}

-- the bytes of a span in a cell
abbrev pub bytes_at : List ℕ → Span → List ℕ
bytes_at b span = take span.len (drop span.offset b)

-- the span ends with the cell
abbrev pub EndsWith : List ℕ → Span → Type 0
EndsWith b span = span.offset + span.len ≡ length b

-- the span is the text of the cell, after a version if the cells of the type have one
abbrev pub FormTextSpan : Bool → List ℕ → Span → Type 0
FormTextSpan versioned b span = FormText (bytes_at b) versioned b span × EndsWith b span

-- the span is the whole cell
abbrev pub FormWhole : List ℕ → Span → Type 0
FormWhole b span = (span.offset ≡ 0) × (span.len ≡ length b)

-- the bits of a cell: their number is the one of the cell, and they are the first bits of the bytes, which are as many
-- as the bits take
abbrev pub FormBitsSpan : List ℕ → Bits → Type 0
FormBitsSpan b v =
    SpellsBits b (first_bits v.bit_len (bytes_at b v.bytes)) × (v.bytes.len ≡ bytes_for v.bit_len)
    × EndsWith b v.bytes
