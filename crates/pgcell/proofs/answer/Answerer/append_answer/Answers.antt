-- What the proof of `Answerer::append_answer` answers by hand.
use Rattle.std.proofs.Common.{◌≡◌, ◌++◌, ℕ, List, None, Some, refl, codes}
use Rattle.postgres_types.specs.Lsn.{lsn_of}
use Rattle.streams.proofs.Outcomes.{ok_weaker}
use Rattle.pgcell.proofs.Requests.{answers_line}
use Rattle.pgcell.specs.Answer.{AnswersType, lsn_answer}
use Rattle.pgcell.specs.Norm.{AnswersNorm}
use Rattle.postgres_types.specs.Cells.{cell_of}
use Rattle.pgcell.specs.Request.{norm, type_of, lsn}
use Rattle.pgcell.proofs.answer.Answerer.append_answer.Goals as goal

pub returns-in-None-clause-ok : goal.returns-in-None-clause-ok
returns-in-None-clause-ok c =
    let old = c.args.pending.now.items in
    let new = c.extend_from_slice.new.self.items in
    let asked = rw c.in-None.is at c.in_ok-parse.ensures in
    ok_weaker {P = new ≡ old ++ codes "bad line"} c.extend_from_slice.result
    (λ answer_text. (codes "bad line", answers_line c.args.line.now None _ asked refl, answer_text))
    c.extend_from_slice.ensures.ok

pub returns-in-Some-Norm-clause-ok : goal.returns-in-Some-Norm-clause-ok
returns-in-Some-Norm-clause-ok c =
    let name = c.in-Some-Norm.name in
    let cell = cell_of c.in-Some-Norm.cell in
    let old = c.args.pending.now.items in
    let new = c.norm.new.pending.items in
    let asked = rw c.in-Some-Norm.field-0-is at (rw c.in-Some-Norm.is at c.in_ok-parse.ensures) in
    ok_weaker {P = (text : List ℕ) × AnswersNorm name cell text × (new ≡ old ++ text)} c.norm.result
    (λ answer. (
      answer.0,
      answers_line c.args.line.now
          (Some (norm name cell)) answer.0 asked answer.1,
      answer.2,
    )) c.norm.ensures.ok

pub returns-in-Some-TypeOf-clause-ok : goal.returns-in-Some-TypeOf-clause-ok
returns-in-Some-TypeOf-clause-ok c =
    let oid = c.in-Some-TypeOf.oid in
    let old = c.args.pending.now.items in
    let new = c.append_type.new.pending.items in
    let asked = rw c.in-Some-TypeOf.field-0-is at (rw c.in-Some-TypeOf.is at c.in_ok-parse.ensures) in
    ok_weaker {P = (text : List ℕ) × AnswersType oid text × (new ≡ old ++ text)} c.append_type.result
    (λ answer. (answer.0, answers_line c.args.line.now (Some (type_of oid)) answer.0 asked answer.1, answer.2))
    c.append_type.ensures.ok

pub returns-in-Some-Lsn-clause-ok : goal.returns-in-Some-Lsn-clause-ok
returns-in-Some-Lsn-clause-ok c =
    let position = c.in-Some-Lsn.lsn.now in
    let answer = lsn_answer (lsn_of position) in
    let asked = rw c.in-Some-Lsn.field-0-is at (rw c.in-Some-Lsn.is at c.in_ok-parse.ensures) in
    ok_weaker {P = c.append_lsn.new.pending.items ≡ c.args.pending.now.items ++ answer} c.append_lsn.result
    (λ answer_text. (answer, answers_line c.args.line.now (Some (lsn position)) answer asked refl, answer_text))
    c.append_lsn.ensures.ok
