-- What the proof of `numeric_from_text` answers by hand.
use Rattle.std.specs.Prelude.{◌≡◌, ℕ, List, Option, None, Some, Result, Ok, Err, IfSome, true}
use Rattle.std.proofs.Common.{sym, ◌∙◌, subst}
use Rattle.pg_types.specs.Faults.{Answers, Refusal, refusal_of}
use Rattle.pg_types.specs.declared.fault.Fault.{Fault}
use Rattle.pg_numbers.specs.NumericCells.{is_numeric}
use Rattle.pg_numbers.specs.NumericTexts.{ParsesNumeric, numeric_text}
use Rattle.pg_numbers.specs.declared.numeric.Numeric.{Numeric}
use Rattle.pg_numbers.proofs.ValueTexts.{value_back, value_once}
use Rattle.pg_numbers.proofs.numeric.laws.numeric_from_text.Goals as goal

one_outcome : (v : Numeric) (text : List ℕ) (r : Result Numeric Fault) → is_numeric v ≡ true
    → text ≡ numeric_text v → Answers (ParsesNumeric text) r → Answers (λ outcome. outcome ≡ Ok v) r
one_outcome v text r h e = answers r
  where
    back : ParsesNumeric text (Ok v)
    back = subst (λ xs. ParsesNumeric xs (Ok v)) (sym e) (value_back v h)

    refusal : (fault : Option Refusal) → IfSome fault (λ r. ParsesNumeric text (Err r))
        → IfSome fault (λ r. Err r ≡ Ok v)
    refusal None k = k
    refusal (Some r) k = value_once text (Ok v) (Err r) back k

    answers : (r : Result Numeric Fault) → Answers (ParsesNumeric text) r → Answers (λ outcome. outcome ≡ Ok v) r
    answers (Ok w) k = value_once text (Ok v) (Ok w) back k
    answers (Err f) k = refusal (refusal_of f) k

pub returns : goal.returns
returns c =
    one_outcome c.args.v.now c.as_str.result.now c.parse.result c.has_number.ensures
    (c.as_str.ensures.value ∙ c.in_ok-text.ensures.ok) c.parse.ensures
