-- What the proof of `write_head` answers by hand.
use Rattle.std.specs.Prelude.{◌≡◌, pos, not, [], refl}
use Rattle.std.specs.Int.{w32, to_be_bytes}
use Rattle.std.proofs.Common.{arith, ap, sym, ◌∙◌, rules}
use Rattle.std.proofs.lemmas.Int.{ints, of_z-to_z}
use Rattle.pg_base.specs.Cells.{be}
use Rattle.pg_cells_c.proofs.ArraySteps.{flag_is, head_joined, parts_are}
use Rattle.pg_cells_c.proofs.rewrite.arrays.write_head.Goals as goal
use Rattle.pg_cells_c.specs.ArrayRewriting.{flag_if}

pub returns : goal.returns
returns c =
    let front = c.split_at_mut-front.result.0.now in
    let dimension = c.split_at_mut-front.result.1.now in
    let parts = c.split_at_mut-front.ensures in
    let one = be w32 (pos 1) in
    let flags = be w32 (flag_if c.args.frames.has_null) in
    let oid = to_be_bytes w32 c.args.array.element in
    let count = be w32 (pos c.args.frames.count) in
    let lower_bound = be w32 (flag_if (not c.args.array.is_vector)) in
    let first : c.to_be_bytes.result ≡ one = search rules in
    let flags_bytes : c.to_be_bytes-2.result ≡ be w32 c.from-flags.result = search rules in
    let second : c.to_be_bytes-2.result ≡ flags = flags_bytes
    ∙ ap (be w32) (c.from-flags.ensures ∙ flag_is c.args.frames.has_null) in
    let third : c.to_be_bytes-3.result ≡ oid = search rules in
    let fourth : c.to_be_bytes-4.result ≡ count = c.to_be_bytes-4.ensures
    ∙ ap (to_be_bytes w32) (of_z-to_z w32 c.args.frames.count (omega (arith, ints, c.requires.few))) in
    let bound_bytes : c.to_be_bytes-5.result ≡ be w32 c.from-lower_bound.result = search rules in
    let fifth : c.to_be_bytes-5.result ≡ lower_bound = bound_bytes
    ∙ ap (be w32) (c.from-lower_bound.ensures ∙ flag_is (not c.args.array.is_vector)) in
    head_joined one flags oid count lower_bound front dimension c.write_parts.new.out c.write_parts-2.new.out
    c.write_parts.result c.write_parts-2.result (sym parts.front_len)
    (omega (arith, parts.back_len, c.requires.whole))
    (parts_are c.to_be_bytes.result c.to_be_bytes-2.result c.to_be_bytes-3.result one flags oid front
    c.write_parts.new.out c.write_parts.result c.write_parts.ensures first second third)
    (parts_are c.to_be_bytes-4.result c.to_be_bytes-5.result [] count lower_bound [] dimension c.write_parts-2.new.out
    c.write_parts-2.result c.write_parts-2.ensures fourth fifth refl)
