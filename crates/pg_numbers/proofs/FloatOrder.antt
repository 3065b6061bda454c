-- The order of the two zeros.
use Rattle.std.specs.Prelude.{◌≡◌, true, refl}
use Rattle.std.specs.Float.{binary64}
use Rattle.std.specs.Float.Ieee.{is_nan, lt, of_bits}
use Rattle.std.specs.Ordering.{is_eq}
use Rattle.pg_numbers.specs.Floats.{float_cmp}

-- -0 equals 0
pub zeros : is_eq (float_cmp binary64 0x8000_0000_0000_0000 0) ≡ true
unfolding of_bits is_nan lt
zeros = refl
