-- What the proof of `rewrite` answers by hand.
use Rattle.std.specs.Prelude.{refl}
use Rattle.std.proofs.Common.{sym, ◌∙◌}
use Rattle.pg_cells_c.proofs.TypeSteps.{array_type_written, none_written, plain_written}
use Rattle.pg_cells_c.proofs.rewrite.rewrite.Goals as goal
use Rattle.pg_cells_c.specs.Rewriting.{no_type}

pub returns-in-Some-kind_of : goal.returns-in-Some-kind_of
returns-in-Some-kind_of c =
    array_type_written c.args.oid c.in-Some.array c.in-Some-kind_of.kind c.args.cell.now c.args.out.now
    c.rewrite_array.new.out c.rewrite_array.result (λ i. (c.type_inv.cell i).fits)
    (sym c.array_of.ensures ∙ c.in-Some.is) (sym c.kind_of.ensures ∙ c.in-Some-kind_of.is) c.rewrite_array.ensures

pub returns-in-Some-kind_of-2 : goal.returns-in-Some-kind_of-2
returns-in-Some-kind_of-2 c =
    plain_written c.args.oid c.in-Some-kind_of-2.kind c.args.cell.now c.args.out.now c.rewrite_cell.new.out
    c.rewrite_cell.result (λ i. (c.type_inv.cell i).fits) (sym c.array_of.ensures ∙ c.in-None.is)
    (sym c.kind_of-in-None.ensures ∙ c.in-Some-kind_of-2.is) c.rewrite_cell.ensures

pub returns-in-None-kind_of-2 : goal.returns-in-None-kind_of-2
returns-in-None-kind_of-2 c =
    let out = c.args.out.now in
    none_written c.args.oid c.args.cell.now out out no_type (sym c.array_of.ensures ∙ c.in-None.is)
    (sym c.kind_of-in-None.ensures ∙ c.in-None-kind_of-2.is) refl refl
