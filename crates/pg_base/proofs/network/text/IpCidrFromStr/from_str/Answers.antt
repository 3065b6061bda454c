-- What the proof of `from_str` answers by hand.
use Rattle.std.proofs.Common.{rules}
use Rattle.std.proofs.lemmas.Result.{err_from_is_err_and}
use Rattle.pg_base.proofs.NetworkParses.{long_network, network_passes, parses, parses_none, too_long}
use Rattle.pg_base.specs.Network.{NetmaskFits, NoHostBits, first_fault_network, with_netmask}
use Rattle.pg_base.proofs.network.text.IpCidrFromStr.from_str.Goals as goal

pub returns : goal.returns
returns c =
    parses (λ n. NetmaskFits n × NoHostBits n) first_fault_network network_passes c.args.text.now
    (with_netmask c.in_ok-address.address c.in_ok-address.len) c.new.result (search rules) c.new.ensures.outcome
    c.new.ensures.never_memory

pub returns-in_err-address : goal.returns-in_err-address
returns-in_err-address c =
    let p = err_from_is_err_and c.from_residual.result c.from_residual.ensures.1 in
    rw (p.1, p.2) (parses_none (λ n. NetmaskFits n × NoHostBits n) first_fault_network
    (λ n long. (λ fits. too_long n long fits.0, long_network n long)) c.args.text.now c.in_err-address.field-0.0
    c.in_err-address.ensures.long c.in_err-address.ensures.refused)
