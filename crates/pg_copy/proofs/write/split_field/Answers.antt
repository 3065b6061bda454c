-- What the proof of `split_field` answers by hand.
use Rattle.std.proofs.Common.{◌∙◌, ap}
use Rattle.pg_copy.specs.TextLines.{fields_of}
use Rattle.pg_copy.proofs.TextLaws.{first_field, last_field}
use Rattle.pg_copy.proofs.write.split_field.Goals as goal

pub returns-in-Some : goal.returns-in-Some
returns-in-Some c =
    ap fields_of c.in-Some.ensures.some.1
    ∙ first_field c.in-Some.field.now c.in-Some.after.now c.in-Some.ensures.some.0

pub returns-in-None : goal.returns-in-None
returns-in-None c = last_field c.args.fields.now c.in-None.ensures.none
