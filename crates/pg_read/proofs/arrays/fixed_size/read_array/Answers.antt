-- What the proof of `read_array` answers by hand.
use Rattle.std.proofs.Common.{refl, ap}
use Rattle.pg_types.specs.declared.fault.Fault.TheVariants.{TooFew}
use Rattle.pg_read.proofs.ElementSteps.{never_memory, reads_fixed}
use Rattle.pg_read.proofs.arrays.fixed_size.read_array.Goals as goal

pub returns-clause-outcome : goal.returns-clause-outcome
returns-clause-outcome g c =
    reads_fixed g.T.FromSql.reads g.T.FromSql.memory_free g.row.N c.args.raw.now _ c.in_ok-cells.ensures.outcome
    (λ i. (c.type_inv.raw i).fits) refl (ap (TooFew g.row.N) c.len-got.ensures) c.try_from_source.result
    c.try_from_source.ensures

pub returns-clause-never_memory : goal.returns-clause-never_memory
returns-clause-never_memory g c =
    never_memory g.T.FromSql.reads g.T.FromSql.memory_free g.row.N c.args.raw.now _ c.in_ok-cells.ensures.outcome
    (λ i. (c.type_inv.raw i).fits) refl (ap (TooFew g.row.N) c.len-got.ensures) c.try_from_source.result
    c.try_from_source.ensures
