-- What the proof of `address_and_netmask` answers by hand.
use Rattle.std.proofs.Common.{arith, rules, sym}
use Rattle.std.proofs.lemmas.Result.{err_from_is_err_and}
use Rattle.pg_base.proofs.NetworkParses.{refuses_long, refuses_network}
use Rattle.pg_types.specs.Faults.{refusal_of}
use Rattle.pg_base.proofs.network.text.address_and_netmask.Goals as goal

pub returns-in_err-bits-clause-refused : goal.returns-in_err-bits-clause-refused
returns-in_err-bits-clause-refused c =
    let split = c.in-Some.ensures.byte (omega arith) (λ w o h. h) in
    let p = err_from_is_err_and c.from_residual-in_err-bits.result c.from_residual-in_err-bits.ensures.1 in
    rw (p.1, p.2) (refuses_network c.args.text.now c.in-Some.host.now c.in-Some.len.now c.in_ok-address-2.address
    (refusal_of c.in_err-bits.field-0.0) split.1 split.2 (sym split.0) (search rules) c.in_err-bits.ensures.refused)

pub returns-in_err-bits-clause-long : goal.returns-in_err-bits-clause-long
returns-in_err-bits-clause-long c =
    let split = c.in-Some.ensures.byte (omega arith) (λ w o h. h) in
    let p = err_from_is_err_and c.from_residual-in_err-bits.result c.from_residual-in_err-bits.ensures.1 in
    rw (p.1) (refuses_long c.args.text.now c.in-Some.len.now (refusal_of c.in_err-bits.field-0.0) split.1 split.2 c.in_err-bits.ensures.refused)
