-- What the proof of `Items::next` answers by hand.
use Rattle.std.proofs.Common.{refl}
use Rattle.std.proofs.lemmas.Option.{IfSome_then}
use Rattle.pg_types.specs.Faults.{refusal_of}
use Rattle.pg_base.proofs.ItemSteps.{item_fault_next}
use Rattle.pg_base.proofs.protocol.counts.Items.next.Goals as goal

pub returns-in-Err : goal.returns-in-Err
returns-in-Err g c =
    let fault = c.in-Err.ensures.outcome in (
      IfSome_then (refusal_of c.in-Err.fault) fault
          (λ r e. item_fault_next _ c.args.self.now _ _ r c.self.view_is c.if-self-eq0.false e),
      c.in-Err.ensures.never_memory,
      refl,
    )
