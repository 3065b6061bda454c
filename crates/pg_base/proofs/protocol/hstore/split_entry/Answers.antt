-- What the proof of `split_entry` answers by hand.
use Rattle.std.proofs.Common.{◌≡◌, ◌∙◌, ◌++◌, ap, append_assoc, refl, sym}
use Rattle.std.proofs.lemmas.Option.{IfSome_then}
use Rattle.std.proofs.lemmas.Result.{err_from_is_err_and}
use Rattle.pg_types.specs.Faults.{refusal_of}
use Rattle.pg_base.proofs.HstoreLaws.{key_fault, value_fault}
use Rattle.pg_base.proofs.protocol.hstore.split_entry.Goals as goal

pub returns-in_err-key-clause-outcome : goal.returns-in_err-key-clause-outcome
returns-in_err-key-clause-outcome c =
    let p = err_from_is_err_and c.from_residual.result c.from_residual.ensures.1 in
    rw (p.1, p.2) (IfSome_then (refusal_of c.in_err-key.field-0.0) c.in_err-key.ensures.outcome
    (λ r e. key_fault c.args.bytes.now r e))

pub returns-in_err-value-clause-outcome : goal.returns-in_err-value-clause-outcome
returns-in_err-value-clause-outcome c =
    let p = err_from_is_err_and c.from_residual-in_err-value.result c.from_residual-in_err-value.ensures.1 in
    let key = rw c.in-Some.is at c.in_ok-key.ensures.outcome in
    rw (p.1, p.2) (IfSome_then (refusal_of c.in_err-value.field-0.0) c.in_err-value.ensures.outcome
    (λ r e. rw key.1 (value_fault key.0 c.in_ok-key.bytes.now c.in-Some.key.now r key.2 e)))

pub returns-clause-outcome : goal.returns-clause-outcome
returns-clause-outcome c =
    let key = rw c.in-Some.is at c.in_ok-key.ensures.outcome in
    let value = c.in_ok-value.ensures.outcome in
    let parts : c.args.bytes.now ≡ (key.0 ++ value.0) ++ c.in_ok-value.bytes.now
    = key.1 ∙ ap (λ s. key.0 ++ s) value.1 ∙ sym (append_assoc key.0 value.0 c.in_ok-value.bytes.now) in (
      key.0 ++ value.0,
      parts,
      record { front = key.0; rest = value.0; is = refl; spells = key.2; rest_spells = value.2 },
    )
