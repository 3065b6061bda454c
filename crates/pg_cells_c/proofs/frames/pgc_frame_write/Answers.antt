-- What the proof of `pgc_frame_write` answers by hand.
use Rattle.std.specs.Prelude.{length, refl}
use Rattle.std.specs.Int.{w32, to_be_bytes}
use Rattle.std.proofs.Common.{arith, ap, ◌∙◌}
use Rattle.std.proofs.lemmas.Int.{of_z-to_z}
use Rattle.pg_cells_c.proofs.WritingSteps.{framed, not_framed}
use Rattle.pg_cells_c.specs.Writings.{no_cell}
use Rattle.pg_cells_c.proofs.frames.pgc_frame_write.Goals as goal

pub returns-then-cell-gt-MAX_LEN : goal.returns-then-cell-gt-MAX_LEN
returns-then-cell-gt-MAX_LEN c =
    not_framed c.args.cell.now c.args.out.now c.args.out.now no_cell c.if-cell-gt-MAX_LEN.true refl refl

pub returns : goal.returns
returns c =
    let b = c.args.cell.now in
    framed b c.to_be_bytes-len.result c.args.out.now c.write_parts.new.out c.write_parts.result (omega arith)
    (c.to_be_bytes-len.ensures ∙ ap (to_be_bytes w32) (of_z-to_z w32 (length b) (omega arith))) c.write_parts.ensures
