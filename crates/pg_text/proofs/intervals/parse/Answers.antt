-- What the proof of `parse` answers by hand.
use Rattle.std.proofs.Common.{◌≡◌, ◌-◌, suc, inl, inr, refl, subst, sym, arith}
use Rattle.std.proofs.lemmas.Bool.{eqb-true}
use Rattle.std.proofs.lemmas.List.{nil_from_length}
use Rattle.std.proofs.lemmas.Option.{IfSome_then}
use Rattle.pg_text.specs.Intervals.{TakesParts, no_parts}
use Rattle.pg_text.proofs.intervals.parse.Goals as goal

pub loop-count-init : goal.loop-count-init
loop-count-init c = λ more parts e said.
    let four : more ≡ 4 = omega arith in
    subst (λ n. TakesParts n no_parts c.args.text.now parts) four
    (subst (λ text. TakesParts more no_parts text parts) c.new-scanner.ensures said)

pub loop-count-preserved : goal.loop-count-preserved
loop-count-preserved c = λ more parts e said.
    c.loop-count.invariant (suc more) parts (omega arith) (
      c.take_part.new.self,
      c.take_part.new.scanner.rest.now,
      c.in_ok-take_part.ensures,
      inr (c.expect.new.self.rest.now, c.in_ok-expect.ensures, said),
    )

pub returns-then-is_done : goal.returns-then-is_done
returns-then-is_done c =
    let rest = c.take_part.new.scanner.rest.now in
    let end = nil_from_length rest (eqb-true _ _ (sym c.if-is_done.ensures)) in
    let read = c.loop-count.invariant (suc (3 - c.loop-count.count)) c.take_part.new.self (omega arith)
    (c.take_part.new.self, rest, c.in_ok-take_part.ensures, inl (end, refl)) in
    IfSome_then c.interval.result c.interval.ensures (λ v sum. (c.take_part.new.self, read, sum))
