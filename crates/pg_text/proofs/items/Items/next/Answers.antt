-- What the proof of `next` answers by hand: the item that ends at a comma or with the text, or none.
use Rattle.std.proofs.Common.{◌+◌, List, [], ◌∷◌, ◌++◌, ℕ, true, false, refl, sym, ap, subst, take, drop, get_or, ◌∙◌}
use Rattle.std.proofs.lemmas.List.{take_all, take_rest}
use Rattle.pg_text.proofs.ItemEnds.{ends_within, item_ends, refused}
use Rattle.pg_text.proofs.ItemTexts.{SoFar, byte_passed, byte_taken, parted}
use Rattle.pg_text.proofs.items.Items.next.Goals as goal
use Rattle.pg_text.proofs.items.Items.next.Goals.{in-Take+in_ok-push-in-Take, in-Pass}

pub returns-in-End : goal.returns-in-End
returns-in-End c =
    let bytes = c.args.text.now.now in
    let i = c.loop-at.at in
    item_ends c.args.self c.loop-at.place (take i bytes) c.loop-at.out.items c.loop-at.invariant bytes _ true
    c.in-End.ensures.ends.1
    (parted bytes i _ c.loop-at-test.true c.in-End.ensures.ends.0
    ∙ ap (λ (rest : List ℕ). take i bytes ++ 44 ∷ rest) (sym (take_rest bytes (i + 1)))) c.item.result c.item.ensures

pub returns-then-may_end : goal.returns-then-may_end
returns-then-may_end c =
    let bytes = c.args.text.now.now in
    item_ends c.args.self c.loop-at.place bytes c.loop-at.out.items
    (subst (λ (front : List ℕ). SoFar c.args.self c.loop-at.place front c.loop-at.out.items)
    (take_all c.loop-at.at bytes c.loop-at-test.false) c.loop-at.invariant)
    bytes [] false (sym c.may_end.ensures ∙ c.if-may_end.true) (refl, refl) c.item-then-may_end.result
    c.item-then-may_end.ensures

pub returns-in-Refuse : goal.returns-in-Refuse
returns-in-Refuse c =
    let bytes = c.args.text.now.now in
    let i = c.loop-at.at in
    refused c.args.self c.loop-at.place (take i bytes) c.loop-at.out.items c.loop-at.invariant (get_or bytes i 0)
    (drop (i + 1) bytes) bytes (parted bytes i _ c.loop-at-test.true refl) c.in-Refuse.ensures.said
    c.in-Refuse.ensures.ends

pub returns-else-may_end : goal.returns-else-may_end
returns-else-may_end c =
    let bytes = c.args.text.now.now in
    ends_within c.args.self c.loop-at.place (take c.loop-at.at bytes) c.loop-at.out.items c.loop-at.invariant bytes
    (sym (take_all c.loop-at.at bytes c.loop-at-test.false)) (sym c.may_end.ensures ∙ c.if-may_end.false)

pub loop-at-preserved : goal.loop-at-preserved
loop-at-preserved c =
    elim c.match-step.branch [
      | in-Take+in_ok-push-in-Take w ↦
          rw (w.place-is, w.out-is) (byte_taken c.args.self c.loop-at.place _ c.args.text.now.now c.loop-at.at
          c.loop-at.out.items _ c.loop-at-test.true c.loop-at.invariant w.in-Take.ensures.said
          w.in_ok-push-in-Take.ensures.items)
      | in-Pass w ↦
          rw (w.place-is, w.out-is) (byte_passed c.args.self c.loop-at.place _ c.args.text.now.now c.loop-at.at
          c.loop-at.out.items c.loop-at.out.items c.loop-at-test.true c.loop-at.invariant w.in-Pass.ensures.said)
    ]
