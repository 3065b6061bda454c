-- What the proof of `take_block` answers by hand.
use Rattle.std.proofs.Common.{◌++◌, ◌∙◌, ℕ, List, subst}
use Rattle.streams.proofs.Outcomes.{on_err}
use Rattle.pg_copy.proofs.ReadingLaws.{advances_none}
use Rattle.pg_copy.proofs.RefusalLaws.{unless_weaker}
use Rattle.pg_tuples.proofs.HeaderLaws.{answered}
use Rattle.pg_copy.specs.ReadingSteps.{Advances, StopsAt}
use Rattle.pg_copy.specs.Refusals.{UnlessMemory}
use Rattle.pg_copy.specs.declared.copy_fault.CopyFault.{CopyFault}
use Rattle.pg_copy.proofs.read.Reading.take_block.Goals as goal

pub returns-in_err-extend_from_slice-clause-err : goal.returns-in_err-extend_from_slice-clause-err
returns-in_err-extend_from_slice-clause-err c =
    on_err c.from_residual.result _ (_, advances_none _ _ _ (c.args.held.now.items ++ c.args.block.now) _)

pub returns-in_err-take-clause-err : goal.returns-in_err-take-clause-err
returns-in_err-take-clause-err c =
    let held = c.as_slice-rest.ensures.value ∙ c.in_ok-extend_from_slice.ensures.items in
    on_err c.from_residual-in_err-take.result _ (
      c.take.new.bytes.now,
      subst (λ s. Advances c.args.self.now.columns.now c.args.self.now.place c.args.self.now.row s
          c.args.self.now.lines.items c.take.new.self.place c.take.new.self.row c.take.new.bytes.now
          c.take.new.self.lines.items) held
          c.take.ensures.steps,
    )

pub returns-in_err-extend_from_slice-2-clause-err : goal.returns-in_err-extend_from_slice-2-clause-err
returns-in_err-extend_from_slice-2-clause-err c =
    let held = c.as_slice-rest.ensures.value ∙ c.in_ok-extend_from_slice.ensures.items in
    on_err c.from_residual-in_err-extend_from_slice-2.result _ (
      c.take.new.bytes.now,
      subst (λ s. Advances c.args.self.now.columns.now c.args.self.now.place c.args.self.now.row s
          c.args.self.now.lines.items c.take.new.self.place c.take.new.self.row c.take.new.bytes.now
          c.take.new.self.lines.items) held
          c.take.ensures.steps,
    )

pub returns-in_err-take-clause-refused : goal.returns-in_err-take-clause-refused
returns-in_err-take-clause-refused c =
    let held = c.as_slice-rest.ensures.value ∙ c.in_ok-extend_from_slice.ensures.items in
    let columns = c.args.self.now.columns.now in
    let place = c.args.self.now.place in
    let count = c.args.self.now.row in
    let old = c.args.held.now.items ++ c.args.block.now in
    let lines = c.args.self.now.lines.items in
    let next = c.take.new.self in
    let f = c.in_err-take.field-0.0 in
    let stops = λ (e : CopyFault). (rest : List ℕ) × Advances columns place count old lines next.place next.row rest
    next.lines.items × StopsAt columns next.place next.row rest e in
    answered (UnlessMemory stops) c.from_residual-in_err-take.result f c.from_residual-in_err-take.ensures.1
    (unless_weaker (StopsAt columns next.place next.row c.take.new.bytes.now) stops f
    (λ e refused. (
      c.take.new.bytes.now,
      subst (λ s. Advances columns place count s lines next.place next.row c.take.new.bytes.now next.lines.items) held
          c.take.ensures.steps,
      refused,
    )) c.in_err-take.ensures.refused)
