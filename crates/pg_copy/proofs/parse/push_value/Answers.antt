-- What the proof of `push_value` answers by hand.
use Rattle.pg_copy.proofs.WrittenRecords.{null_frame}
use Rattle.pg_copy.specs.Values.{in_form, values_of}
use Rattle.postgres_types.specs.Content.{content}
use Rattle.pg_copy.proofs.parse.push_value.Goals as goal

pub returns-in-None-clause-ok : goal.returns-in-None-clause-ok
returns-in-None-clause-ok c =
    rw c.in-None.is (null_frame (in_form c.args.is_array (values_of c.args.base.now).1) (content c.args.ty.now)
    c.args.out.now.items c.push_null.new.out.items c.push_null.result c.push_null.ensures.ok)

pub returns-in-Some-clause-ok : goal.returns-in-Some-clause-ok
returns-in-Some-clause-ok c = rw c.in-Some.is c.push_by_type.ensures.ok
