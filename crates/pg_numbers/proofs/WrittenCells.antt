-- Lemmas on the cells that numbers are written as.
use Rattle.std.specs.Prelude.{◌≡◌, ℕ, zero, suc, ◌+◌, ◌*◌, ◌<◌, ◌≤◌, List, [], ◌∷◌, ◌++◌, length, take, Some, Result}
use Rattle.std.specs.Prelude.{Ok, Err, IsErr, IsErrAnd, ⊤, refl, true}
use Rattle.std.proofs.Common.{ap, arith, get_or, add-one}
use Rattle.std.proofs.lemmas.Bool.{and_parts, leb-true}
use Rattle.std.specs.Int.{w16, to_be_bytes}
use Rattle.bytes.specs.Filled.{Filled}
use Rattle.pg_base.specs.Appending.{Appends}
use Rattle.pg_types.specs.declared.fault.Fault.{Fault}
use Rattle.pg_types.specs.declared.fault.Fault.TheVariants.{Memory}
use Rattle.pg_numbers.specs.Laws.Numeric.{digit_bytes_length}
use Rattle.pg_numbers.specs.Numeric.{Parts, is_number, max_digits}
use Rattle.pg_numbers.specs.NumericCells.{digit_bytes, number_bytes}

-- the bytes of one digit more
digit_bytes_next : (digits : List ℕ) (i : ℕ) → i < length digits
    → digit_bytes (take (suc i) digits) ≡ digit_bytes (take i digits) ++ to_be_bytes w16 (get_or digits i 0)
digit_bytes_next [] i h = absurd (omega (arith, h))
digit_bytes_next (d ∷ ds) zero h = refl
digit_bytes_next (d ∷ ds) (suc i) h = ap (λ b. to_be_bytes w16 d ++ b) (digit_bytes_next ds i (omega (arith, h)))

pub digit_bytes_more : (digits : List ℕ) (i : ℕ) → i < length digits
    → digit_bytes (take (i + 1) digits) ≡ digit_bytes (take i digits) ++ to_be_bytes w16 (get_or digits i 0)
digit_bytes_more digits i h = rw add-one (digit_bytes_next digits i h)

-- a number has no more digits than a cell states
pub number_short : (p : Parts) → is_number p ≡ true → length p.digits ≤ max_digits
number_short p h = leb-true (length p.digits) max_digits (and_parts _ _ h).1

-- there was no room for the bytes of a number
pub appends_no_number : (p : Parts) (old new : Filled) (r : Result ⊤ Fault) → IsErr r → IsErrAnd r (λ f. f ≡ Memory)
    → new.items ≡ old.items → old.spare < 8 + 2 * length p.digits → old.spare ≤ new.spare
    → Appends (Some (number_bytes p)) old new r
appends_no_number p old new (Ok done) is and items room more = absurd (cc)
appends_no_number p old new (Err f) is and items room more =
    (items, and, omega (arith, room, digit_bytes_length p.digits), more)
