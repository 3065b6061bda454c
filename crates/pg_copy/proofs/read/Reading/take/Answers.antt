-- What the proof of `take` answers by hand.
use Rattle.std.proofs.Common.{◌∙◌, ap, length, refl, subst, sym}
use Rattle.std.proofs.lemmas.Bool.Decides.{Decides-eqb}
use Rattle.std.proofs.lemmas.List.{nil_from_length}
use Rattle.pg_copy.proofs.ReadingLaws.{advances_three}
use Rattle.pg_copy.proofs.RefusalLaws.{unless}
use Rattle.pg_tuples.proofs.HeaderLaws.{answered}
use Rattle.pg_copy.specs.ReadingSteps.{Awaits, StopsAt}
use Rattle.pg_copy.specs.Refusals.{UnlessMemory}
use Rattle.pg_copy.specs.declared.copy_fault.CopyFault.TheVariants.{Trailing}
use Rattle.pg_copy.proofs.read.Reading.take.Goals as goal

pub returns-in_err-take_tuples-clause-steps : goal.returns-in_err-take_tuples-clause-steps
returns-in_err-take_tuples-clause-steps c =
    advances_three _ _ _ _ _ _ _ _ _ _ _ _ _ _ _ _ _ _ _ c.take_head.ensures.columns
    c.take_extension.ensures.columns c.take_head.ensures.steps
    c.take_extension.ensures.steps c.take_tuples.ensures.steps

pub returns-in_default : goal.returns-in_default
returns-in_default c = record {
  columns = c.take_tuples.ensures.columns ∙ c.take_extension.ensures.columns ∙ c.take_head.ensures.columns;
  steps = advances_three _ _ _ _ _ _ _ _ _ _ _ _ _ _ _ _ _ _ _ c.take_head.ensures.columns
      c.take_extension.ensures.columns c.take_head.ensures.steps
      c.take_extension.ensures.steps c.take_tuples.ensures.steps;
  end = λ e. absurd (c.in_default.not-End e);
  awaits = subst (λ x. Awaits x c.take_tuples.new.self.place c.take_tuples.new.bytes.now)
      (c.take_extension.ensures.columns ∙ c.take_head.ensures.columns)
      (c.in_ok-take_tuples.ensures.awaits (c.take_extension.ensures.awaits c.in_ok-take_head.ensures.awaits)
      c.in_default.not-End);
  refused = tt;
}

pub returns-then-is_empty-clause-steps : goal.returns-then-is_empty-clause-steps
returns-then-is_empty-clause-steps c =
    advances_three _ _ _ _ _ _ _ _ _ _ _ _ _ _ _ _ _ _ _ c.take_head.ensures.columns
    c.take_extension.ensures.columns c.take_head.ensures.steps
    c.take_extension.ensures.steps c.take_tuples.ensures.steps

pub returns-else-is_empty-clause-steps : goal.returns-else-is_empty-clause-steps
returns-else-is_empty-clause-steps c =
    advances_three _ _ _ _ _ _ _ _ _ _ _ _ _ _ _ _ _ _ _ c.take_head.ensures.columns
    c.take_extension.ensures.columns c.take_head.ensures.steps
    c.take_extension.ensures.steps c.take_tuples.ensures.steps

pub returns-in_err-take_head-clause-refused : goal.returns-in_err-take_head-clause-refused
returns-in_err-take_head-clause-refused c =
    let stops = StopsAt c.args.self.now.columns.now c.take_head.new.self.place c.take_head.new.self.row
    c.take_head.new.bytes.now in
    answered (UnlessMemory stops) c.from_residual.result c.in_err-take_head.field-0.0 c.from_residual.ensures.1
    (unless stops c.in_err-take_head.field-0.0 c.in_err-take_head.ensures.refused)

pub returns-in_err-take_tuples-clause-refused : goal.returns-in_err-take_tuples-clause-refused
returns-in_err-take_tuples-clause-refused c =
    let f = c.in_err-take_tuples.field-0.0 in
    let next = c.take_tuples.new.self in
    let bytes = c.take_tuples.new.bytes.now in
    answered (UnlessMemory (StopsAt c.args.self.now.columns.now next.place next.row bytes))
    c.from_residual-in_err-take_tuples.result f c.from_residual-in_err-take_tuples.ensures.1
    (subst (λ x. UnlessMemory (StopsAt x next.place next.row bytes) f)
    (c.take_extension.ensures.columns ∙ c.take_head.ensures.columns) c.in_err-take_tuples.ensures.refused)

pub returns-then-is_empty-clause-awaits : goal.returns-then-is_empty-clause-awaits
returns-then-is_empty-clause-awaits c =
    let bytes = c.take_tuples.new.bytes.now in
    let none = (Decides-eqb (length bytes) 0).0 (sym c.is_empty.ensures ∙ c.if-is_empty.true) in
    subst (λ p. Awaits c.args.self.now.columns.now p bytes) (sym c.in-End.is) (nil_from_length bytes none)

pub returns-else-is_empty-clause-refused : goal.returns-else-is_empty-clause-refused
returns-else-is_empty-clause-refused c =
    let bytes = c.take_tuples.new.bytes.now in
    subst (λ p. StopsAt c.args.self.now.columns.now p c.take_tuples.new.self.row bytes Trailing) (sym c.in-End.is) (
      refl,
      λ e. let empty = (Decides-eqb (length bytes) 0).1 (ap length e) in
          let bad : ⊥ = cc (empty, c.is_empty.ensures, c.if-is_empty.false) in bad,
    )
