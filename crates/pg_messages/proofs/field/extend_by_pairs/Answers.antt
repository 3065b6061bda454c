-- What the proof of `extend_by_pairs` answers by hand.
use Rattle.std.proofs.Common.{ℕ, List, [], get_or, subst, sym}
use Rattle.std.specs.Borrow.{Bor}
use Rattle.pg_messages.specs.Fields.{Extends, HasRoomFor, name_form, pair_form, string}
use Rattle.pg_messages.proofs.Forms.{both_extended, named, none_extended, one_extended, room, room_first}
use Rattle.pg_messages.proofs.field.extend_by_pairs.Goals as goal

abbrev no_pair : Bor (List ℕ) × Bor (List ℕ)
no_pair = (record { ref_ptr = (0, 0); now = [] }, record { ref_ptr = (0, 0); now = [] })

pub loop-name-init : goal.loop-name-init
loop-name-init c = none_extended pair_form c.args.pairs.now c.args.out.now

pub extend_by_string-requires : goal.extend_by_string-requires
extend_by_string-requires c =
    let pair = get_or c.args.pairs.now c.loop-name.name-index no_pair in
    let enough : HasRoomFor (name_form pair.0.now) c.loop-name.out.spare =
    room_first _ (string pair.1.now) c.loop-name.out.spare (
    room pair_form c.args.pairs.now c.loop-name.name-index no_pair c.args.out.now c.loop-name.out c.loop-name-test.true
    c.requires c.loop-name.invariant
    ) in
    subst (λ f. HasRoomFor f c.loop-name.out.spare) (named pair.0.now c.loop-name.out.spare enough) enough

pub loop-name-preserved : goal.loop-name-preserved
loop-name-preserved c =
    let pair = get_or c.args.pairs.now c.loop-name.name-index no_pair in
    let mid = c.extend_by_string.new.out in
    let enough : HasRoomFor (name_form pair.0.now) c.loop-name.out.spare =
    room_first _ (string pair.1.now) c.loop-name.out.spare (
    room pair_form c.args.pairs.now c.loop-name.name-index no_pair c.args.out.now c.loop-name.out c.loop-name-test.true
    c.requires c.loop-name.invariant
    ) in
    let first : Extends (name_form pair.0.now) c.loop-name.out mid =
    subst (λ f. Extends f c.loop-name.out mid) (sym (named pair.0.now c.loop-name.out.spare enough))
    c.extend_by_string.ensures in
    one_extended pair_form c.args.pairs.now c.loop-name.name-index no_pair c.args.out.now c.loop-name.out
    c.extend_by_string-in-loop-name.new.out c.loop-name-test.true c.loop-name.invariant (
    both_extended (name_form pair.0.now) (string pair.1.now) c.loop-name.out mid c.extend_by_string-in-loop-name.new.out
    first c.extend_by_string-in-loop-name.ensures
    )
