-- What the proof of `take_block` answers by hand.
use Rattle.std.proofs.Common.{◌++◌, List, ℕ, [], ◌∷◌, ◌∙◌, subst, inl, inr}
use Rattle.streams.specs.Answers.{Answering, GainsAnswers, TakesLines}
use Rattle.streams.proofs.Answers.{gains-within}
use Rattle.streams.proofs.LineLaws.{takes_some, takes_next, takes_before}
use Rattle.streams.proofs.Outcomes.{err_known, on_err}
use Rattle.streams.proofs.lines.take_block.Goals as goal

pub returns-in_err-end_line-clause-err : goal.returns-in_err-end_line-clause-err
returns-in_err-end_line-clause-err g c =
    let t = takes_some _ _ _ _ _ c.lines.invariant.1 in
    on_err c.from_residual.result _ (t.0, t.1, (t.2.0, t.2.1, c.in_err-end_line.ensures.err ∙ t.2.2))

pub returns-in_err-end_line-clause-refused : goal.returns-in_err-end_line-clause-refused
returns-in_err-end_line-clause-refused g c =
    let line : List ℕ = c.lines.line.items in
    let A : Answering = g.A.AnswerLine.answers c.args.answerer.now in
    let R = g.A.AnswerLine.refuses c.args.answerer.now in
    let xs : List ℕ = c.args.line.now.items ++ c.args.block.now in
    let p = c.in-Some.ensures.some in
    let t : TakesLines A xs (line ++ (c.in-Some.last.now ++ 10 ∷ c.in-Some.after.now)) c.args.pending.now.items
    c.lines.pending.items
    = subst (λ (r : List ℕ). TakesLines A xs (line ++ r) c.args.pending.now.items c.lines.pending.items) p.1
    c.lines.invariant.1 in
    err_known c.from_residual.result (λ fault is. rw is
    (elim c.in_err-end_line.ensures.refused [
      | inl memory ↦ inl memory
      | inr refused ↦ inr (takes_before A R c.in_err-end_line.field-0.0 xs line c.in-Some.last.now c.in-Some.after.now
          c.args.pending.now.items c.lines.pending.items c.end_line.new.pending.items c.lines.invariant.0 p.0 t
          c.in_err-end_line.ensures.err (c.lines.invariant.3 _ _ refused))
    ])) c.from_residual.ensures.1

pub lines-preserved : goal.lines-preserved
lines-preserved g c =
    let line : List ℕ = c.lines.line.items in
    let mid : List ℕ = c.lines.pending.items in
    let A : Answering = g.A.AnswerLine.answers c.args.answerer.now in
    let p = c.in-Some.ensures.some in
    let t : TakesLines A (c.args.line.now.items ++ c.args.block.now)
    (line ++ (c.in-Some.last.now ++ 10 ∷ c.in-Some.after.now)) c.args.pending.now.items mid
    = subst (λ (r : List ℕ). TakesLines A (c.args.line.now.items ++ c.args.block.now)
    (line ++ r) c.args.pending.now.items mid) p.1 c.lines.invariant.1 in
    let gained : GainsAnswers A ((line ++ c.in-Some.last.now) ∷ []) mid c.end_line.new.pending.items =
    gains-within (g.A.AnswerLine.answers c.lines.answerer) A ((line ++ c.in-Some.last.now) ∷ []) mid
    c.end_line.new.pending.items c.lines.invariant.2 c.in_ok-end_line.ensures.ok in
    rw c.in_ok-end_line.ensures.forgets (
      tt,
      takes_next _ _ _ _ _ _ _ _ c.lines.invariant.0 p.0 t gained,
      (λ line text a. c.lines.invariant.2 line text (c.end_line.ensures.same_answers line text a)),
      (λ line fault r. c.lines.invariant.3 line fault (c.end_line.ensures.same_refusals line fault r)),
    )

pub returns-in_err-extend_from_slice-clause-err : goal.returns-in_err-extend_from_slice-clause-err
returns-in_err-extend_from_slice-clause-err g c =
    on_err c.from_residual-in_err-extend_from_slice.result _ (takes_some _ _ _ _ _ c.lines.invariant.1)
