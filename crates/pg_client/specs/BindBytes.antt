-- The bytes of the parameters of a Bind message ("Message Formats" in PostgreSQL's documentation): the number of their
-- format codes and the codes, the number of the parameters and the frame of the cell of each, the number of the format
-- codes of the result columns and the codes.
use Rattle.std.specs.Prelude.{◌+◌, ◌++◌, ℕ, List, [], ◌∷◌, drop, length, take, Option, option_map}
use Rattle.std.specs.Int.{to_be_bytes, w16}
use Rattle.pg_base.specs.Cells.{Cell, frames}

-- one format code for all, that of the binary format
abbrev pub all_binary : List ℕ
all_binary = 0 ∷ 1 ∷ 0 ∷ 1 ∷ []

-- the parameters with these cells, if each has a frame
abbrev pub bind_bytes : List Cell → Option (List ℕ)
bind_bytes cells =
    option_map (λ b. (all_binary ++ to_be_bytes w16 (length cells)) ++ (b ++ all_binary)) (frames cells)

-- the bytes with the two from a place on replaced by a number
abbrev pub with_count : ℕ → ℕ → List ℕ → List ℕ
with_count at count s = take at s ++ (to_be_bytes w16 count ++ drop (at + 2) s)
