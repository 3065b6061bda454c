-- Lemmas on what the numbers of cells count for.
use Rattle.std.specs.Prelude.{◌≡◌, ℕ, ◌==◌, Bool, true, false, if◌then◌else◌, List, Result, Ok, Err, IfOk}
use Rattle.std.proofs.Common.{sym, subst}
use Rattle.pg_base.specs.Formats.{Decodes}
use Rattle.pg_types.specs.Faults.{Answers}
use Rattle.pg_types.specs.declared.fault.Fault.{Fault}
use Rattle.pg_numbers.specs.Numeric.{Parts, canonical}
use Rattle.pg_numbers.specs.NumericCells.{FormNumeric, first_fault_numeric, sign_in, stated}
use Rattle.pg_numbers.specs.NumericCells.{CountsAsStated, infinity_sign, nan_sign, negative_infinity_sign, value_of}
use Rattle.pg_numbers.specs.declared.numeric.Numeric.{Numeric}
use Rattle.pg_numbers.specs.declared.numeric.Numeric.TheVariants.{NaN, Infinity, NegativeInfinity, Finite}
use Rattle.pg_numbers.proofs.Units.{canonical_scale, canonical_units}

one_counts : (nan infinity negative : Bool) (p : Parts) → CountsAsStated p (if nan then NaN else if infinity then Infinity
    else if negative then NegativeInfinity else Finite (canonical p))
one_counts true infinity negative p = tt
one_counts false true negative p = tt
one_counts false false true p = tt
one_counts false false false p = (canonical_scale p, canonical_units p)

-- the value of parts counts for as much as they do
pub value_counts : (sign : ℕ) (p : Parts) (v : Numeric) → v ≡ value_of sign p → CountsAsStated p v
value_counts sign p v e =
    subst (CountsAsStated p) (sym e)
    (one_counts (sign == nan_sign) (sign == infinity_sign) (sign == negative_infinity_sign) p)

-- so the number that is read counts for as much as its cell states
pub read_counts : (b : List ℕ) (r : Result Numeric Fault) → Answers (Decodes FormNumeric first_fault_numeric b) r
    → IfOk r (CountsAsStated (stated b))
read_counts b (Ok v) h = value_counts (sign_in b) (stated b) v h.1
read_counts b (Err f) h = tt
