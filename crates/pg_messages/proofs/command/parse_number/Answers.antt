-- What the proof of `parse_number` answers by hand.
use Rattle.std.proofs.lemmas.Fmt.{IsAscii-from_digits}
use Rattle.std.proofs.lemmas.Str.{IsUtf8-from_ascii}
use Rattle.pg_messages.proofs.command.parse_number.Goals as goal

pub returns-in-Err : goal.returns-in-Err
returns-in-Err c = λ n number.
    c.in-Err.ensures.cases.0 (IsUtf8-from_ascii _ (IsAscii-from_digits c.args.word.now number.0.1))
