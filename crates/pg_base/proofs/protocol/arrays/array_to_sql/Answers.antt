-- What the proof of `array_to_sql` answers by hand.
use Rattle.std.proofs.Common.{◌≡◌, ◌+◌, ◌++◌, ℕ, List, Option, None, Some, Bool, true, false, cond, pos, length, take, drop}
use Rattle.std.proofs.Common.{refl, sym, ap, ap₂, subst, arith, length-append, ◌∙◌}
use mir.Val.{bool_byte}
use Rattle.std.proofs.lemmas.Int.{to_z-of_z}
use Rattle.std.proofs.lemmas.Result.{err_from_is_err_and}
use Rattle.std.specs.Int.{w32, to_be_bytes}
use Rattle.pg_base.specs.Appending.{Extends, HasRoomFor}
use Rattle.pg_base.specs.Arrays.{array_bytes, cells_of, flags_of, has_none, head_bytes}
use Rattle.pg_base.specs.Cells.{be, concat}
use Rattle.pg_base.proofs.Concat.{extends_both}
use Rattle.pg_base.proofs.CellsByLength.{array_by_length, framed_by_length, short_head, long_cell, long_count, null_by_length, put_right}
use Rattle.pg_base.proofs.protocol.arrays.array_to_sql.Goals.{then-lens-gt-MAX_LEN-via-then-lens-gt-MAX_LEN}
use Rattle.pg_base.proofs.protocol.arrays.array_to_sql.Goals.{then-lens-gt-MAX_LEN-via-else-lens-gt-MAX_LEN+then-has_long}
use Rattle.pg_base.proofs.protocol.arrays.array_to_sql.Goals as goal

pub returns-then-lens-gt-MAX_LEN : goal.returns-then-lens-gt-MAX_LEN
returns-then-lens-gt-MAX_LEN c =
    let lower_bound = c.args.lower_bound in
    let scratch = c.args.scratch.now in
    let lens = c.args.lens.now in
    let none : array_bytes lower_bound c.args.oid (cells_of scratch lens) ≡ None = (elim c.then-lens-gt-MAX_LEN.branch [
      | then-lens-gt-MAX_LEN-via-then-lens-gt-MAX_LEN w ↦
          long_count lower_bound c.args.oid scratch lens w.if-lens-gt-MAX_LEN.true
      | then-lens-gt-MAX_LEN-via-else-lens-gt-MAX_LEN+then-has_long w ↦
          long_cell lower_bound c.args.oid scratch lens c.requires (sym w.has_long.ensures ∙ w.if-has_long.true)
    ]) in
    rw none (refl, refl)

pub returns-in_err-reserve : goal.returns-in_err-reserve
returns-in_err-reserve c =
    let whole = array_by_length c.args.lower_bound c.args.oid c.args.scratch.now c.args.lens.now
    c.if-lens-gt-MAX_LEN.false c.requires (sym c.has_long.ensures ∙ c.if-has_long.false) in
    let fault = err_from_is_err_and c.from_residual.result c.from_residual.ensures.1 in
    rw (fault.1, fault.2, whole.1) (
      c.in_err-reserve.ensures.items,
      refl,
      omega (arith, whole.2, c.in_err-reserve.ensures.spare),
      c.in_err-reserve.ensures.spare.0,
    )

pub extend_by_frames-has_null-requires-clause-room : goal.extend_by_frames-has_null-requires-clause-room
extend_by_frames-has_null-requires-clause-room c =
    let scratch = c.args.scratch.now in
    let lens = c.args.lens.now in
    let f = framed_by_length scratch lens c.requires (sym c.has_long.ensures ∙ c.if-has_long.false) in
    subst (λ b. HasRoomFor b c.extend_by_head.new.out.spare) (sym f.1)
    (omega (arith, c.extend_by_head.ensures, f.2, c.in_ok-reserve.ensures.spare))

-- the flags, by whether a cell is NULL
flags_number : (bytes : List ℕ) (lens : List (Option ℕ)) (t : Bool) → t ≡ has_none lens
    → to_be_bytes w32 (bool_byte t) ≡ be w32 (flags_of (cells_of bytes lens))
flags_number bytes lens true is = ap (λ b. be w32 (cond b (pos 1) (pos 0))) (is ∙ sym (null_by_length bytes lens))
flags_number bytes lens false is = ap (λ b. be w32 (cond b (pos 1) (pos 0))) (is ∙ sym (null_by_length bytes lens))

pub returns : goal.returns
returns c =
    let scratch = c.args.scratch.now in
    let lens = c.args.lens.now in
    let with_room = c.reserve.new.self in
    let after_head = c.extend_by_head.new.out in
    let framed = c.extend_by_frames-has_null.new.out in
    let one : List ℕ = be w32 (pos 1) in
    let zero : List ℕ = be w32 (pos 0) in
    let number : List ℕ = be w32 (pos (length lens)) in
    let rest : List ℕ = to_be_bytes w32 c.args.oid ++ number ++ be w32 c.args.lower_bound in
    let flags : List ℕ = to_be_bytes w32 c.from.result in
    let start : List ℕ = head_bytes (pos 0) c.args.lower_bound c.args.oid number in
    let f = framed_by_length scratch lens c.requires (sym c.has_long.ensures ∙ c.if-has_long.false) in
    let whole : List ℕ = head_bytes (flags_of (cells_of scratch lens)) c.args.lower_bound c.args.oid number in
    let head = subst (λ z. Extends (Some (head_bytes (pos 0) z c.args.oid number)) with_room after_head)
    (to_z-of_z w32 c.args.lower_bound c.ranges.lower_bound) c.extend_by_head.ensures in
    let frames_follow = subst (λ b. Extends b after_head framed) f.1 c.extend_by_frames-has_null.ensures.frames in
    let both = extends_both (Some start) (Some f.0) with_room after_head framed head frames_follow in
    let right : flags ≡ be w32 (flags_of (cells_of scratch lens)) = ap (to_be_bytes w32) c.from.ensures
    ∙ flags_number scratch lens _ c.extend_by_frames-has_null.ensures.null in
    let is = c.set_number.ensures.items
    ∙ ap (λ n. take (n + 4) framed.items ++ (flags ++ drop (n + 4 + 4) framed.items)) c.len-start.ensures.value
    ∙ put_right with_room.items one zero flags (rest ++ f.0) framed.items refl refl both.0
    ∙ ap (λ y. with_room.items ++ (one ++ (y ++ (rest ++ f.0)))) right
    ∙ ap (λ s. s ++ (whole ++ f.0)) c.in_ok-reserve.ensures.items in
    subst (λ b. Extends b c.args.out.now c.set_number.new.out)
    (sym (ap₂ concat (short_head c.args.lower_bound c.args.oid scratch lens c.if-lens-gt-MAX_LEN.false) f.1)) (
      is,
      omega (
        arith,
        both.1,
        c.set_number.ensures.spare,
        c.in_ok-reserve.ensures.spare.0,
        length-append start f.0,
        length-append whole f.0,
      ),
    )
