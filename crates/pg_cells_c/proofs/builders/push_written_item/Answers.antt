-- What the proof of `push_written_item` answers by hand.
use Rattle.std.specs.Prelude.{◌≡◌, ◌+◌, [], ◌++◌, length, Some, false}
use Rattle.std.proofs.Common.{ap, sym, subst, ◌∙◌}
use Rattle.std.proofs.lemmas.List.{append-nil, length-append}
use Rattle.pg_cells_c.proofs.PushSteps.{cell_at, none_put, pushed_written, put_before, uncounted_written}
use Rattle.pg_cells_c.specs.Builders.{StandsAt, goes_on, has_room, with_bytes_at}
use Rattle.pg_cells_c.proofs.builders.push_written_item.Goals as goal
use Rattle.pg_cells_c.proofs.builders.push_written_item.Goals.{then-has_room, else-has_room}

pub returns-then-builder-ge-MAX_LEN : goal.returns-then-builder-ge-MAX_LEN
returns-then-builder-ge-MAX_LEN c =
    let p = c.args.first.now in
    let q = c.args.second.now in
    uncounted_written (λ cell. Some (p ++ q ++ cell)) (length p + length q) c.args.len c.args.builder.now c.args.out.now
    c.if-builder-ge-MAX_LEN.true

pub returns : goal.returns
returns c =
    let p = c.args.first.now in
    let q = c.args.second.now in
    let b = c.args.builder.now in
    let n = c.args.len in
    let old = c.args.out.now in
    let cell = cell_at (b.len + (length p + length q)) n old in
    let len : length (p ++ q) ≡ length p + length q = length-append p q in
    let bytes : p ++ q ++ [] ++ [] ≡ p ++ q = append-nil (p ++ q ++ []) ∙ append-nil (p ++ q) in
    let stands : StandsAt (b.len + length (p ++ q)) n old cell.0 =
    subst (λ k. StandsAt (b.len + k) n old cell.0) (sym len) cell.1 in
    let room = ap (λ k. has_room b.len (k + n) (length old)) len in
    let is : c.if-has_room.out ≡ with_bytes_at b.len ((p ++ q) ++ cell.0) old =
    elim c.if-has_room.branch [
      | then-has_room w ↦
          w.out-is ∙ w.write_at.ensures ∙ ap (λ s. with_bytes_at b.len s old) bytes
          ∙ put_before b.len n (p ++ q) cell.0 old (room ∙ sym (w.if-has_room.ensures)) stands
      | else-has_room w ↦
          w.out-is ∙ none_put b.len n (p ++ q) cell.0 old (room ∙ sym (w.if-has_room.ensures)) cell.1.0
    ] in
    pushed_written p q cell.0 b c.go_on.new.builder n old c.if-has_room.out c.if-builder-ge-MAX_LEN.false cell.1 is
    (c.go_on.ensures ∙ ap (λ k. goes_on (length p + length q + n) false k b) c.if-has_room.auto.out)
