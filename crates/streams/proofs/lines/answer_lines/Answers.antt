-- What the proof of `answer_lines` answers by hand.
use Rattle.std.proofs.Common.{[], List, ℕ, arith, inl, inr}
use Rattle.std.specs.Io.KnownBytes.{Appends, Consumes, IsAtEnd}
use Rattle.streams.specs.Answers.{Answering, EndsBy}
use Rattle.streams.specs.Lines.{lines_of}
use Rattle.streams.proofs.Answers.{part-within, writes-within}
use Rattle.streams.proofs.Outcomes.{err_of, err_weaker, ok_of, ok_weaker}
use Rattle.streams.proofs.Steps.{takes_either, takes_before-within, takes_lines-within, takes_some-within}
use Rattle.streams.proofs.Steps.{under_way-kept, under_way-some}
use Rattle.streams.proofs.Steps.{under_way-all, under_way-taken, under_way-before, under_way-last, ends_kept}
use Rattle.streams.proofs.Steps.{ends_unread, ends_part, ends_refused}
use Rattle.streams.proofs.Steps.{under_way-stopped, under_way-partial, under_way-unfinished, under_way-end_partial}
use Rattle.streams.proofs.lines.answer_lines.Goals as goal

pub returns-in_default-clause-whole : goal.returns-in_default-clause-whole
returns-in_default-clause-whole g c = λ _. under_way-some _ _ _ _ _ _ c.reads.invariant.2

pub returns-in_default-clause-read : goal.returns-in_default-clause-read
returns-in_default-clause-read g c =
    λ _. (
      c.reads.line.items,
      c.reads.invariant.0,
      under_way-kept _ _ _ _ _ _ _ c.reads.invariant.2
          c.in_default.ensures.bytes,
    )

pub returns-then-n-eq0-clause-ok : goal.returns-then-n-eq0-clause-ok
returns-then-n-eq0-clause-ok g c =
    let b = g.R.Read.remaining c.reads.input in
    let d = g.R.Read.remaining c.read_block.new.input in
    let nothing : Consumes b d [] = rw c.if-n-eq0.true at c.in-Ok.ensures.bytes.0 in
    let end : IsAtEnd d = c.in-Ok.ensures.bytes.1 c.if-n-eq0.true (omega arith) in
    ok_weaker c.finish.result (λ p.
    let all = rw c.as_slice.ensures.value at p in
    under_way-all _ _ b d _ _ _ _ c.reads.invariant.2 nothing end
    (writes-within _ _ (lines_of c.reads.line.items) _ _ c.reads.invariant.3 all)) c.finish.ensures.ok

pub returns-then-n-eq0-clause-whole : goal.returns-then-n-eq0-clause-whole
returns-then-n-eq0-clause-whole g c =
    err_weaker c.finish.result (λ e p not_write. under_way-unfinished _ _ _ _ _ _ _ c.reads.invariant.2
    (ends_kept (g.A.AnswerLine.refuses c.reads.answerer) (g.A.AnswerLine.answers c.reads.answerer) _ _ _ e p
    not_write))
    c.finish.ensures.err

pub returns-then-n-eq0-clause-refused : goal.returns-then-n-eq0-clause-refused
returns-then-n-eq0-clause-refused g c =
    let b = g.R.Read.remaining c.reads.input in
    let d = g.R.Read.remaining c.read_block.new.input in
    let line : List ℕ = c.reads.line.items in
    let nothing : Consumes b d [] = rw c.if-n-eq0.true at c.in-Ok.ensures.bytes.0 in
    let end : IsAtEnd d = c.in-Ok.ensures.bytes.1 c.if-n-eq0.true (omega arith) in
    let R = g.A.AnswerLine.refuses c.reads.answerer in
    let A : Answering = g.A.AnswerLine.answers c.reads.answerer in
    err_weaker c.finish.result (λ e p.
    let q : EndsBy A R line (g.W.Write.contents c.reads.output) (g.W.Write.contents c.finish.new.output) e
    = rw c.as_slice.ensures.value at p in
    ends_refused R A _ line _ _ e q (λ fault one kept refused.
    inr (under_way-last (g.A.AnswerLine.refuses c.args.answerer.now) (g.A.AnswerLine.answers c.args.answerer.now) fault
    _ b d _ _ _ line c.reads.invariant.2 nothing end one kept (c.reads.invariant.4 line fault refused))))
    c.finish.ensures.err

pub returns-then-n-eq0-clause-read : goal.returns-then-n-eq0-clause-read
returns-then-n-eq0-clause-read g c =
    err_weaker c.finish.result (λ e p is. absurd (ends_unread (g.A.AnswerLine.refuses c.reads.answerer)
    (g.A.AnswerLine.answers c.reads.answerer) _ _ _ e p is)) c.finish.ensures.err

pub returns-then-n-eq0-clause-partial : goal.returns-then-n-eq0-clause-partial
returns-then-n-eq0-clause-partial g c =
    let b = g.R.Read.remaining c.reads.input in
    let d = g.R.Read.remaining c.read_block.new.input in
    let line : List ℕ = c.reads.line.items in
    let nothing : Consumes b d [] = rw c.if-n-eq0.true at c.in-Ok.ensures.bytes.0 in
    let end : IsAtEnd d = c.in-Ok.ensures.bytes.1 c.if-n-eq0.true (omega arith) in
    let R = g.A.AnswerLine.refuses c.reads.answerer in
    let A : Answering = g.A.AnswerLine.answers c.reads.answerer in
    err_weaker c.finish.result (λ e p is.
    let q : EndsBy A R line (g.W.Write.contents c.reads.output) (g.W.Write.contents c.finish.new.output) e
    = rw c.as_slice.ensures.value at p in
    under_way-end_partial _ _ b d _ _ _ _ c.reads.invariant.2 nothing end
    (part-within A _ (lines_of line) _ _ c.reads.invariant.3 (ends_part R A line _ _ e q is))) c.finish.ensures.err

pub returns-then-is_err-clause-partial : goal.returns-then-is_err-clause-partial
returns-then-is_err-clause-partial g c =
    let t = takes_either _ c.take_block-taken.result _ _ _ _ c.take_block-taken.ensures.ok
    c.take_block-taken.ensures.err in
    let failed = rw c.as_slice-in-reads.ensures at c.write_whole.ensures.err in
    let w = err_of c.write_whole.result _ failed c.if-is_err.ensures.value in
    λ is. under_way-partial _ _ _ _ _ _ _ _ _ _ _ _ c.reads.invariant.2 c.in-Ok.ensures.bytes.0
    (takes_some-within _ _ _ _ _ c.reads.invariant.3 t) c.reads.invariant.1 w.2

pub returns-in-Err-clause-whole : goal.returns-in-Err-clause-whole
returns-in-Err-clause-whole g c =
    let whole = ok_of c.write_whole.result _ c.write_whole.ensures.ok c.if-is_err.ensures.value in
    let w : Appends (g.W.Write.contents c.reads.output)
    (g.W.Write.contents c.write_whole.new.output) c.take_block-taken.new.pending.items
    = rw c.as_slice-in-reads.ensures at whole in
    λ _. under_way-stopped _ _ _ _ _ _ _ _ _ _ _ c.reads.invariant.2 c.in-Ok.ensures.bytes.0
    (takes_some-within _ _ _ _ _ c.reads.invariant.3 c.in-Err.ensures.err) c.reads.invariant.1 w

pub returns-in-Err-clause-refused : goal.returns-in-Err-clause-refused
returns-in-Err-clause-refused g c =
    let whole = ok_of c.write_whole.result _ c.write_whole.ensures.ok c.if-is_err.ensures.value in
    let w : Appends (g.W.Write.contents c.reads.output)
    (g.W.Write.contents c.write_whole.new.output) c.take_block-taken.new.pending.items
    = rw c.as_slice-in-reads.ensures at whole in
    elim c.in-Err.ensures.refused [
      | inl memory ↦ inl memory
      | inr taken ↦ inr (under_way-before (g.A.AnswerLine.refuses c.args.answerer.now)
          (g.A.AnswerLine.answers c.args.answerer.now) c.in-Err.fault _ _ _ _ _ _ _ _ _ _ c.reads.invariant.2
          c.in-Ok.ensures.bytes.0
          (takes_before-within _ _ _ _ c.in-Err.fault _ _ _ c.reads.invariant.3 c.reads.invariant.4 taken)
          c.reads.invariant.1 w)
    ]

pub reads-preserved : goal.reads-preserved
reads-preserved g c =
    let whole = ok_of c.write_whole.result _ c.write_whole.ensures.ok c.if-is_err.ensures.value in
    let w : Appends (g.W.Write.contents c.reads.output)
    (g.W.Write.contents c.write_whole.new.output) c.take_block-taken.new.pending.items
    = rw c.as_slice-in-reads.ensures at whole in (
      c.in_default-taken.ensures.one_line,
      c.clear.ensures.items,
      under_way-taken _ _ _ _ _ _ _ _ _ _ _ _ c.reads.invariant.2 c.in-Ok.ensures.bytes.0
          (takes_lines-within _ _ _ _ _ _ c.reads.invariant.3 c.in_default-taken.ensures.ok) c.reads.invariant.1 w,
      (λ line text a. c.reads.invariant.3 line text (c.take_block-taken.ensures.same_answers line text a)),
      (λ line fault r. c.reads.invariant.4 line fault (c.take_block-taken.ensures.same_refusals line fault r)),
    )

pub returns-clause-whole : goal.returns-clause-whole
returns-clause-whole g c = λ _. under_way-some _ _ _ _ _ _ c.reads.invariant.2
