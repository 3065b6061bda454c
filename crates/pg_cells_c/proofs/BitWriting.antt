-- Steps of writing bits.
use Rattle.std.specs.Prelude.{◌≡◌, ◌≢◌, ◌==◌, ◌∷◌, [], ◌++◌, ℕ, ◌<◌, ◌≤◌, List, length, pos, true, false}
use Rattle.std.specs.Int.{w32}
use Rattle.std.proofs.Common.{arith, ap, sym, subst, ◌∙◌, append_assoc, get_or}
use Rattle.std.proofs.lemmas.Bool.Decides.{nat_tests}
use Rattle.pg_base.specs.Bits.{bytes_for, first_bits, packed, pad_of, without_low}
use Rattle.pg_base.specs.Cells.{be, max_length}
use Rattle.pg_base.proofs.BitCells.{cell_past, cell_within}
use Rattle.pg_base.proofs.PadLemmas.{packed_none, packed_parts}
use Rattle.pg_cells_c.specs.Writings.{WritesCell, WritesInto, no_cell, wire_first_bits}

-- there are not as many bytes as the bits take
pub odd_bits : (n : ℕ) (p old new : List ℕ) (len : ℕ) → length p ≢ bytes_for n → new ≡ old → len ≡ no_cell
    → WritesCell (wire_first_bits n p) old new len
unfolding WritesCell
odd_bits n p old new len odd is count =
    let other : (length p == bytes_for n) ≡ false = grind (arith, nat_tests) in rw other (is, count)

-- there are more bits than the number can say
pub many_bits : (n : ℕ) (p old new : List ℕ) (len : ℕ) → length p ≡ bytes_for n → max_length < n → new ≡ old
    → len ≡ no_cell → WritesCell (wire_first_bits n p) old new len
unfolding WritesCell
many_bits n p old new len whole past is count =
    let same : (length p == bytes_for n) ≡ true = grind (arith, nat_tests) in rw (same, cell_past n p past) (is, count)

bits_written : (n : ℕ) (p old new : List ℕ) (len : ℕ) → length p ≡ bytes_for n → n ≤ max_length
    → WritesInto (be w32 (pos n) ++ packed (first_bits n p)) old new len
    → WritesCell (wire_first_bits n p) old new len
unfolding WritesCell
bits_written n p old new len whole few h =
    let same : (length p == bytes_for n) ≡ true = grind (arith, nat_tests) in rw (same, cell_within n p few) h

-- no bits are written
pub no_bits_written : (n : ℕ) (p head old new : List ℕ) (len : ℕ) → length p ≡ bytes_for n → n ≤ max_length
    → length p ≡ 0 → head ≡ be w32 (pos n) → WritesInto head old new len → WritesCell (wire_first_bits n p) old new len
no_bits_written n p head old new len whole few none number h =
    let cell : head ≡ be w32 (pos n) ++ packed (first_bits n p) = number
    ∙ ap (λ b. be w32 (pos n) ++ b) (sym (packed_none n p whole none)) in
    bits_written n p old new len whole few (subst (λ b. WritesInto b old new len) cell h)

-- the bytes of bits are written, and the last one without its pad
pub packed_written : (n : ℕ) (p head front : List ℕ) (last byte : ℕ) (old new : List ℕ) (len : ℕ)
    → length p ≡ bytes_for n → n ≤ max_length → ((k : ℕ) → get_or p k 0 < 256) → p ≡ front ++ last ∷ []
    → byte ≡ without_low (pad_of n) last → head ≡ be w32 (pos n)
    → WritesInto (head ++ front ++ byte ∷ []) old new len → WritesCell (wire_first_bits n p) old new len
packed_written n p head front last byte old new len whole few below parts pad number h =
    let packed_is = packed_parts n p front last whole below parts in
    let cell : head ++ front ++ byte ∷ [] ≡ be w32 (pos n) ++ packed (first_bits n p) =
    append_assoc head front (byte ∷ []) ∙ ap (λ b. b ++ (front ++ byte ∷ [])) number
    ∙ ap (λ b. be w32 (pos n) ++ (front ++ b ∷ [])) pad ∙ ap (λ b. be w32 (pos n) ++ b) (sym packed_is) in
    bits_written n p old new len whole few (subst (λ b. WritesInto b old new len) cell h)
