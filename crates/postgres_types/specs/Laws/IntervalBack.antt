-- Laws of intervals.
use Rattle.std.specs.Prelude.{◌≡◌, refl}
use Rattle.std.proofs.lemmas.Bool.{and_parts}
use Rattle.std.specs.Int.{w32, w64}
use Rattle.pg_base.proofs.FormatLaws.{has_fitted}
use Rattle.pg_base.specs.declared.interval.Interval.{Interval}
use Rattle.pg_base.specs.Interval.{FormInterval, ReadsInterval, fits_interval, interval_width, wire_interval}
use Rattle.pg_base.proofs.IntervalLaws.{interval_grammar}
use Rattle.pg_base.specs.Numbers.{first_fault_number}
use Rattle.postgres_types.specs.Laws.Plain.{plain_lawful, written_if}
use Rattle.postgres_types.specs.ReadingBack.{BackKept, IsLawful, WrittenAsBytes}

interval_written : (v : Interval) → WrittenAsBytes ReadsInterval v (wire_interval v)
interval_written v = written_if ReadsInterval v (fits_interval v) _ _
    (λ h. let both = and_parts _ _ h in
    let first = and_parts _ _ both.0 in
    (has_fitted w64 _ first.0, has_fitted w32 _ first.1, has_fitted w32 _ both.1, refl))

pub interval_lawful : IsLawful (λ v w. v ≡ w) ReadsInterval wire_interval (BackKept (λ v w. v ≡ w))
interval_lawful = plain_lawful (λ v. v) FormInterval (first_fault_number interval_width) interval_grammar wire_interval
    interval_written
