-- What the proof of `rewrite_cidr` answers by hand.
use Rattle.pg_base.proofs.NetworkLaws.{cidr_grammar}
use Rattle.pg_base.specs.Formats.{Decodes}
use Rattle.pg_base.specs.Network.{first_fault_cidr}
use Rattle.pg_cells_c.proofs.KindSteps.{has_head, kind_written, read_refused, read_value}
use Rattle.pg_cells_c.proofs.rewrite.cells.rewrite_cidr.Goals as goal
use Rattle.pg_cells_c.specs.Networks.{FormCidrParts}
use Rattle.pg_cells_c.specs.declared.rewrite.kinds.Kind.TheVariants as kind

pub returns-then-fault-ne0 : goal.returns-then-fault-ne0
returns-then-fault-ne0 c =
    read_refused kind.Cidr FormCidrParts c.args.cell.now c.args.out.now _ _ c.pgc_cidr_read-fault.result c.pgc_cidr_read-fault.ensures c.if-fault-ne0.true

pub write_without_flag-requires : goal.write_without_flag-requires
write_without_flag-requires c =
    let b = c.args.cell.now in
    let form = read_value (Decodes FormCidrParts first_fault_cidr b) _ _ c.pgc_cidr_read-fault.result c.pgc_cidr_read-fault.ensures c.if-fault-ne0.false in
    has_head b form.0 form.1.0

pub returns : goal.returns
returns c =
    let b = c.args.cell.now in
    let form = read_value (Decodes FormCidrParts first_fault_cidr b) _ _ c.pgc_cidr_read-fault.result c.pgc_cidr_read-fault.ensures c.if-fault-ne0.false in
    kind_written kind.Cidr b c.args.out.now c.write_without_flag.new.out c.write_without_flag.result
    (cidr_grammar.passes b form.0 form.1) c.write_without_flag.ensures
