-- What the proof of `Rewriter::norm_as` answers by hand.
use Rattle.std.proofs.Common.{◌≡◌, ◌++◌, ℕ, List, Option, OnOk, option_map, subst}
use Rattle.postgres_types.specs.Cells.{cell_of}
use Rattle.postgres_types.specs.Content.{Content, content}
use Rattle.postgres_types.specs.Faults.{refusal_of}
use Rattle.named_types.specs.Names.{picked}
use Rattle.pgcell.specs.Norm.{AnswersAt}
use Rattle.pgcell.specs.Rewritten.{RewrittenAs}
use Rattle.streams.proofs.Outcomes.{ok_weaker}
use Rattle.pgcell.proofs.Printing.{refusal_answers}
use Rattle.pgcell.proofs.norm.Rewriter.norm_as.Goals as goal

pub returns-in-Err-clause-ok : goal.returns-in-Err-clause-ok
returns-in-Err-clause-ok g c =
    let typed = c.args.typed.now in
    let cell = cell_of typed.cell in
    let old = c.args.pending.now.items in
    let new = c.append_fault.new.pending.items in
    let rewritten = RewrittenAs g.T.FromSql.reads g.T.ToSql.wire typed.form in
    let gives = rewritten (content c.in-Some.ty.now) cell in
    let Printed = λ (ty : Option Content). OnOk c.append_fault.result
    ((text : List ℕ) × AnswersAt ty rewritten cell text × (new ≡ old ++ text)) in
    let ty = picked typed.form (content typed.own) (option_map content typed.arrays) in
    let is = rw c.in-Some.is at c.ty.ensures in
    subst Printed {y = ty} is
    (ok_weaker c.append_fault.result (refusal_answers gives (refusal_of c.in-Err.fault) old new c.in-Err.ensures.1)
    c.append_fault.ensures.ok)
