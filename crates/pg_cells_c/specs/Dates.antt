-- Dates, timestamps and intervals as C has them.
use Rattle.std.specs.Prelude.{◌≡◌, ℕ, ℤ, pos, negsuc, int_le, List, if◌then◌else◌}
use Rattle.std.specs.Int.{Width, w32, w64}
use Rattle.pg_base.specs.Interval.{SpellsInterval}
use Rattle.pg_base.specs.Numbers.{FormSigned}
use Rattle.pg_base.specs.Special.{infinity_number, minus_infinity_number}
use Rattle.pg_cells_c.specs.declared.dates.Date.{Date}
use Rattle.pg_cells_c.specs.declared.dates.Interval.{Interval}
use Rattle.pg_cells_c.specs.declared.dates.Timestamp.{Timestamp}

-- whether a number of a width is an infinity: 1 for infinity, -1 for -infinity, and 0 for any other number
abbrev pub infinity_of : Width → ℤ → ℤ
infinity_of w z =
    if int_le (infinity_number w) z then pos 1 else if int_le z (minus_infinity_number w) then negsuc 0 else pos 0

-- DATE: the days of the bytes, and whether they are an infinity
abbrev pub FormDateParts : List ℕ → Date → Type 0
FormDateParts b v = FormSigned w32 b v.days × (v.infinity ≡ infinity_of w32 v.days)

-- TIMESTAMP and TIMESTAMPTZ: the microseconds of the bytes, and whether they are an infinity
abbrev pub FormTimestampParts : List ℕ → Timestamp → Type 0
FormTimestampParts b v = FormSigned w64 b v.microseconds × (v.infinity ≡ infinity_of w64 v.microseconds)

-- INTERVAL: the parts of the bytes
abbrev pub FormIntervalParts : List ℕ → Interval → Type 0
FormIntervalParts b v = SpellsInterval b v.microseconds v.days v.months
