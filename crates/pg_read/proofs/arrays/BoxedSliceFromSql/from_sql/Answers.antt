-- What the proof of `BoxedSliceFromSql::from_sql` answers by hand.
use Rattle.std.proofs.Common.{Some, Vec, Global}
use Rattle.std.specs.Box.{boxed_slice_items}
use Rattle.pg_base.specs.ArrayTypes.{element_of}
use Rattle.pg_types.specs.Content.{content}
use Rattle.pg_read.proofs.ArrayCellSteps.{same_items}
use Rattle.pg_read.proofs.arrays.BoxedSliceFromSql.from_sql.Goals as goal

pub returns-in-Ok-clause-outcome : goal.returns-in-Ok-clause-outcome
returns-in-Ok-clause-outcome g c =
    same_items (λ (v : Vec g.row.T.Denot Global). v.items) boxed_slice_items g.T.FromSql.reads
    (element_of (content c.args.ty.now)) (Some c.args.raw.now)
    c.in-Ok.values c.into_boxed_slice.result c.into_boxed_slice.ensures.items c.in-Ok.ensures.outcome
