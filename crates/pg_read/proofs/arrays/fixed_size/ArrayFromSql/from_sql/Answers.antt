-- What the proof of `ArrayFromSql::from_sql` answers by hand.
use Rattle.std.proofs.Common.{◌≡◌, ◌∙◌, Some, ap, sym}
use Rattle.pg_base.specs.ArrayTypes.{element_of}
use Rattle.pg_types.specs.Content.{content}
use Rattle.pg_read.proofs.arrays.fixed_size.ArrayFromSql.from_sql.Goals as goal

pub returns-clause-outcome : goal.returns-clause-outcome
returns-clause-outcome g c =
    let element : element_of (content c.args.ty.now) ≡ Some (content c.deref.result.now)
    = sym c.in-Some.ensures ∙ ap (λ ty. Some (content ty)) (sym c.deref.ensures) in
    rw element c.read_array.ensures.outcome
