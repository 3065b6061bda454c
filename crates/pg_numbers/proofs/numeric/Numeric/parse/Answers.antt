-- What the proof of `Numeric::parse` answers by hand.
use Rattle.std.proofs.lemmas.Result.{err_from_is_err_and}
use Rattle.pg_types.specs.Faults.{refusal_of}
use Rattle.pg_numbers.proofs.ValueTexts.{fault_back}
use Rattle.pg_numbers.proofs.numeric.Numeric.parse.Goals as goal

pub returns-in_err-parse_number : goal.returns-in_err-parse_number
returns-in_err-parse_number c =
    let p = err_from_is_err_and c.from_residual.result c.from_residual.ensures.1 in
    rw (p.1, p.2) (fault_back c.args.text.now c.as_bytes.result.now c.trimmed-text.result.now
    c.split_sign-negative.result.1.now c.split_sign-negative.result.0 c.word_value.result
    (refusal_of c.in_err-parse_number.field-0.0) c.as_bytes.ensures.value c.trimmed-text.ensures c.word_value.ensures
    c.in_default.is c.split_sign-negative.ensures.sign c.split_sign-negative.ensures.unsigned
    c.in_err-parse_number.ensures)
