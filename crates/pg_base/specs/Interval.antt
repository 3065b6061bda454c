-- Intervals: INTERVAL (interval_send, interval_recv).
use Rattle.std.specs.Prelude.{◌≡◌, ◌&&◌, ℕ, ℤ, List, ◌++◌, Bool, FitsSigned, Some, Ok, Err, if◌then◌else◌}
use Rattle.std.specs.Int.{w32, w64}
use Rattle.pg_base.specs.declared.interval.Interval.{Interval}
use Rattle.pg_base.specs.Cells.{Cell, be}
use Rattle.pg_types.specs.Faults.{Outcome, transmit}
use Rattle.pg_base.specs.Formats.{ReadsPlain}
use Rattle.pg_base.specs.Numbers.{first_fault_number, fits_signed}
use Rattle.pg_base.specs.Appending.{Wire}

-- the number of bytes of an interval: 8 for the microseconds, 4 for the days and 4 for the months
abbrev pub interval_width : ℕ
interval_width = 16

-- the bytes of an interval: its microseconds in 8 bytes, then its days and its months in 4 bytes each, big-endian, in
-- two's complement
abbrev pub interval_bytes : ℤ → ℤ → ℤ → List ℕ
interval_bytes microseconds days months = be w64 microseconds ++ be w32 days ++ be w32 months

-- b spells these microseconds, days and months: each is in the range of its width, and b is their bytes
abbrev pub SpellsInterval : List ℕ → ℤ → ℤ → ℤ → Type 0
SpellsInterval b microseconds days months =
    FitsSigned w64 microseconds × FitsSigned w32 days × FitsSigned w32 months
    × (b ≡ interval_bytes microseconds days months)

-- the parts of an interval: its microseconds, its days and its months
abbrev pub Parts : Type 0
Parts = ℤ × ℤ × ℤ

-- INTERVAL: the bytes spell these parts
abbrev pub FormParts : List ℕ → Parts → Type 0
FormParts b parts = SpellsInterval b parts.0 parts.1 parts.2

-- INTERVAL: the bytes spell the interval's parts
abbrev pub FormInterval : List ℕ → Interval → Type 0
FormInterval b v = SpellsInterval b v.microseconds v.days v.months

-- what a cell reads as
abbrev pub ReadsInterval : Cell → Outcome Interval → Type 0
ReadsInterval = ReadsPlain FormInterval (first_fault_number interval_width)

-- whether each part is in the range of its width
abbrev pub fits_interval : Interval → Bool
fits_interval v = fits_signed w64 v.microseconds && fits_signed w32 v.days && fits_signed w32 v.months

-- the cell of an interval: its bytes, or Transmit if a part is out of the range of its width
abbrev pub wire_interval : Interval → Wire
wire_interval v = if fits_interval v then Ok (Some (interval_bytes v.microseconds v.days v.months)) else Err transmit
