-- What the proof of `from_text` answers by hand.
use Rattle.pg_text.proofs.Refusals.{value_or_fault}
use Rattle.pg_text.proofs.dates.CivilTimeFromText.from_text.Goals as goal

pub returns : goal.returns
returns c =
    value_or_fault c.parse_civil_time.result c.ok_or_else.result _ _ _ _ c.ok_or_else.ensures.cases (rw c.trimmed.ensures at c.parse_civil_time.ensures)
    (λ none fault made never. absurd never)
