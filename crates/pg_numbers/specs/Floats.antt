-- FLOAT4 and FLOAT8 (float4send, float8send): the bits of IEEE 754's binary32 and binary64, big-endian.
use Rattle.std.specs.Prelude.{ℕ, Bool, Option, Some, None, from_bits, is_nan, if◌then◌else◌}
use Rattle.std.specs.Float.{Float, Format}
use Rattle.std.specs.Ordering.{nan_last_cmp}
use Rattle.std.specs.declared.cmp.Ordering.{Ordering}
use Rattle.pg_types.specs.Content.{Content}
use Rattle.pg_numbers.specs.CatalogTypes.{has_oid}

-- the type is FLOAT4
abbrev pub is_float4 : Content → Bool
is_float4 = has_oid 700

-- the type is FLOAT8
abbrev pub is_float8 : Content → Bool
is_float8 = has_oid 701

-- the number of these bits, if it is not NaN
abbrev pub number_of : Format → ℕ → Option Float
number_of f bits = if is_nan (from_bits f bits) then None else Some (from_bits f bits)

-- the order of two values (float8_cmp_internal): that of their numbers, where -0 equals 0; NaN equals NaN, and is
-- greater than each number
abbrev pub float_cmp : Format → ℕ → ℕ → Ordering
float_cmp f v w = nan_last_cmp (from_bits f v) (from_bits f w)
