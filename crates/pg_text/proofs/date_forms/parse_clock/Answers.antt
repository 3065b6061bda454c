-- What the proof of `parse_clock` answers by hand.
use Rattle.std.proofs.Common.{sym, subst}
use Rattle.std.proofs.lemmas.Bool.{eqb-true}
use Rattle.std.proofs.lemmas.List.{nil_from_length}
use Rattle.pg_text.specs.Scans.{TakesClock}
use Rattle.pg_text.proofs.date_forms.parse_clock.Goals as goal

pub returns-then-is_done : goal.returns-then-is_done
returns-then-is_done c =
    let rest = c.take_clock.new.scanner.rest.now in
    let end = nil_from_length rest (eqb-true _ _ (sym c.if-is_done.ensures)) in
    let k = c.in_ok-clock.clock in
    subst (λ r. TakesClock c.args.text.now k.hour k.minute k.second k.micros r) end
    (subst (λ t. TakesClock t k.hour k.minute k.second k.micros rest) c.new-scanner.ensures c.in_ok-clock.ensures)
