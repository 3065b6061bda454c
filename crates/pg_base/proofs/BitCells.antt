-- Lemmas on cells of bits.
use Rattle.std.proofs.Common.{◌≡◌, ℕ, ◌+◌, ◌<◌, ◌≤◌, pos, true, false, Some, None, List, ◌++◌, length, refl}
use Rattle.std.proofs.Common.{ap, sym, subst, ◌∙◌, arith, Result, Ok, Err, IsErr}
use Rattle.std.specs.Prelude.{⊤}
use Rattle.std.specs.Result.{IsErrAnd}
use Rattle.std.specs.Int.{w32}
use Rattle.std.proofs.lemmas.Bool.Decides.{nat_tests}
use Rattle.bytes.specs.Filled.{Filled}
use Rattle.pg_types.specs.declared.fault.Fault.{Fault}
use Rattle.pg_types.specs.declared.fault.Fault.TheVariants.{Memory}
use Rattle.pg_base.specs.Appending.{Appends}
use Rattle.pg_base.specs.Bits.{FormBits, bits_cell, bytes_for, first_bits, packed}
use Rattle.pg_base.specs.Cells.{be, fits_prefix, max_length}
use Rattle.pg_base.specs.Counts.{IsCount, number_width}
use Rattle.pg_base.proofs.BitLemmas.{first_bits_len, packed_len}

-- ---- reading
-- a count, and as many bytes as so many bits take, spell the first bits
pub spells_first_bits : (b head rest : List ℕ) (n : ℕ) → b ≡ head ++ rest → IsCount head n → length rest ≡ bytes_for n
    → FormBits (λ v. v) b (first_bits n rest)
spells_first_bits b head rest n e is whole =
    let m : n ≡ length (first_bits n rest) = sym (first_bits_len n rest) in
    record {
      count_prefix = head;
      bits_bytes = rest;
      is = e;
      counts = subst (λ x. IsCount head x) m is;
      width = whole ∙ ap bytes_for m;
      first = ap (λ x. first_bits x rest) m;
    }

-- ---- writing
-- the bytes of a cell
pub cell_within : (n : ℕ) (p : List ℕ) → n ≤ max_length → bits_cell (first_bits n p)
    ≡ Some (be w32 (pos n) ++ packed (first_bits n p))
cell_within n p h =
    let within : fits_prefix n ≡ true = grind (arith, nat_tests) in
    rw (first_bits_len n p, within) refl

pub cell_past : (n : ℕ) (p : List ℕ) → max_length < n → bits_cell (first_bits n p) ≡ None
cell_past n p h =
    let past : fits_prefix n ≡ false = grind (arith, nat_tests) in
    rw (first_bits_len n p, past) refl

packed_as_many : (n : ℕ) (p : List ℕ) → length p ≡ bytes_for n → length (packed (first_bits n p)) ≡ length p
packed_as_many n p whole = packed_len (first_bits n p) ∙ ap bytes_for (first_bits_len n p) ∙ sym whole

-- the cell was appended
pub appends_cell : (n : ℕ) (p : List ℕ) (old new : Filled) → n ≤ max_length → length p ≡ bytes_for n → new.items
    ≡ old.items ++ (be w32 (pos n) ++ packed (first_bits n p)) → old.spare ≤ new.spare + (number_width + length p)
    → Appends (bits_cell (first_bits n p)) old new (Ok tt)
appends_cell n p old new h whole items spare =
    let many = packed_as_many n p whole in
    rw (cell_within n p h) (items, omega arith)

-- there was no room for it
pub appends_nothing : (n : ℕ) (p : List ℕ) (old new : Filled) (r : Result ⊤ Fault) → n ≤ max_length
    → length p ≡ bytes_for n
    → IsErr r → IsErrAnd r (λ f. f ≡ Memory) → new.items ≡ old.items → old.spare < number_width + length p
    → old.spare ≤ new.spare → Appends (bits_cell (first_bits n p)) old new r
appends_nothing n p old new (Ok done) h whole is and items room more = absurd (cc)
appends_nothing n p old new (Err f) h whole is and items room more =
    let many = packed_as_many n p whole in
    rw (cell_within n p h) (items, and, omega arith, more)
