-- What the proof of `pgc_varbit_write` answers by hand.
use Rattle.std.specs.Prelude.{refl}
use Rattle.std.specs.Int.{w32, to_be_bytes}
use Rattle.std.proofs.Common.{arith, ap, sym, ◌∙◌}
use Rattle.std.proofs.lemmas.Int.{of_z-to_z}
use Rattle.pg_cells_c.proofs.BitWriting.{many_bits, no_bits_written, odd_bits, packed_written}
use Rattle.pg_cells_c.specs.Writings.{no_cell}
use Rattle.pg_cells_c.proofs.bits.pgc_varbit_write.Goals as goal

pub returns-then-bytes-div_ceil : goal.returns-then-bytes-div_ceil
returns-then-bytes-div_ceil c =
    odd_bits c.args.bit_len c.args.bytes.now c.args.out.now c.args.out.now no_cell
    (λ e. c.if-bytes-div_ceil.true (e ∙ sym c.div_ceil.ensures)) refl refl

pub returns-then-bit_len-gt-MAX_LEN : goal.returns-then-bit_len-gt-MAX_LEN
returns-then-bit_len-gt-MAX_LEN c =
    many_bits c.args.bit_len c.args.bytes.now c.args.out.now c.args.out.now no_cell
    (c.if-bytes-div_ceil.false ∙ c.div_ceil.ensures) c.if-bit_len-gt-MAX_LEN.true refl
    refl

pub returns-in-Some : goal.returns-in-Some
returns-in-Some c =
    let n = c.args.bit_len in
    packed_written n c.args.bytes.now c.to_be_bytes-count.result c.in-Some.whole.now c.in-Some.last.now
    c.without_pad.result c.args.out.now c.write_parts.new.out c.write_parts.result (c.if-bytes-div_ceil.false ∙ c.div_ceil.ensures) (omega arith)
    (λ k. (c.type_inv.bytes k).fits) c.in-Some.ensures.cases.0 c.without_pad.ensures
    (c.to_be_bytes-count.ensures ∙ ap (to_be_bytes w32) (of_z-to_z w32 n (omega arith))) c.write_parts.ensures

pub returns-in-None : goal.returns-in-None
returns-in-None c =
    let n = c.args.bit_len in
    no_bits_written n c.args.bytes.now c.to_be_bytes-count.result c.args.out.now c.write.new.out c.write.result
    (c.if-bytes-div_ceil.false ∙ c.div_ceil.ensures) (omega arith) c.in-None.ensures.cases (c.to_be_bytes-count.ensures ∙ ap (to_be_bytes w32) (of_z-to_z w32 n (omega arith))) c.write.ensures
