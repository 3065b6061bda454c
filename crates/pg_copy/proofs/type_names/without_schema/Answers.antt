-- What the proof of `without_schema` answers by hand.
use Rattle.std.proofs.Common.{arith}
use Rattle.pg_copy.proofs.TypeTexts.{last_cut, no_last}
use Rattle.pg_copy.proofs.type_names.without_schema.Goals as goal

pub returns-in-Some : goal.returns-in-Some
returns-in-Some c =
    last_cut 46 c.args.name.now (c.in-Some.field-0-0, c.in-Some.name) c.in-Some.ensures.cases (omega arith)

pub returns-in-None : goal.returns-in-None
returns-in-None c = no_last 46 c.args.name.now c.in-None.ensures.cases (omega arith)
