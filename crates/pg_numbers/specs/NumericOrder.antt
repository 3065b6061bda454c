-- The order of NUMERIC (cmp_numerics): by value, without the scale. -Infinity is the least value; then come the
-- numbers, Infinity, and NaN, which equals itself.
use Rattle.std.specs.Prelude.{ℕ, List, [], ◌∷◌, if◌then◌else◌}
use Rattle.std.specs.Cmp.Lexicographic.{slice_cmp}
use Rattle.std.specs.Ordering.{flip_args, int_cmp, nat_cmp, on, then_cmp}
use Rattle.std.specs.declared.cmp.Ordering.{Ordering}
use Rattle.pg_numbers.specs.Numeric.{Parts, zero_of}
use Rattle.pg_numbers.specs.declared.numeric.Numeric.{Numeric}
use Rattle.pg_numbers.specs.declared.numeric.Numeric.TheVariants.{NaN, Infinity, NegativeInfinity, Finite}

-- the rank of a number's sign: 0 for negative numbers, 1 for zero, 2 for positive ones
abbrev pub digits_rank : List ℕ → ℕ
digits_rank [] = 1
digits_rank (digit ∷ digits) = 2

abbrev pub sign_rank : Parts → ℕ
sign_rank p = if p.negative then 0 else digits_rank p.digits

-- the order of absolute values: by the weight of the first digit, and then digit by digit
abbrev pub magnitude_cmp : Parts → Parts → Ordering
magnitude_cmp = then_cmp (on (λ p. p.weight) int_cmp) (on (λ p. p.digits) (slice_cmp nat_cmp))

-- the number if it is negative, or if it is not; otherwise 0
abbrev pub negative_part : Parts → Parts
negative_part p = if p.negative then p else zero_of 0

abbrev pub positive_part : Parts → Parts
positive_part p = if p.negative then zero_of 0 else p

-- the order of numbers: by their signs; then negative ones by decreasing absolute value, and others by increasing
abbrev pub number_cmp : Parts → Parts → Ordering
number_cmp =
    then_cmp (on sign_rank nat_cmp) (then_cmp (on negative_part (flip_args magnitude_cmp))
    (on positive_part magnitude_cmp))

-- the rank of a value; that of a number is 1
abbrev pub value_rank : Numeric → ℕ
value_rank NegativeInfinity = 0
value_rank (Finite p) = 1
value_rank Infinity = 2
value_rank NaN = 3

-- the number of a value; otherwise 0
abbrev pub number_part : Numeric → Parts
number_part (Finite p) = p
number_part NegativeInfinity = zero_of 0
number_part Infinity = zero_of 0
number_part NaN = zero_of 0

-- the order of values: by their ranks, and numbers among themselves
abbrev pub numeric_cmp : Numeric → Numeric → Ordering
numeric_cmp = then_cmp (on value_rank nat_cmp) (on number_part number_cmp)
