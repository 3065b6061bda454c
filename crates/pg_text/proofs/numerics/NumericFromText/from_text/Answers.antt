-- What the proof of `from_text` answers by hand.
use Rattle.pg_types.specs.Faults.{refusal_of}
use Rattle.pg_text.proofs.ReadBack.{numeric_parsed}
use Rattle.pg_text.proofs.numerics.NumericFromText.from_text.Goals as goal

pub returns-in-Err : goal.returns-in-Err
returns-in-Err c = λ says.
    numeric_parsed c.args.text.now (refusal_of c.in-Err.fault) _ _ says c.in-Err.ensures c.memory_or_no_value.ensures
