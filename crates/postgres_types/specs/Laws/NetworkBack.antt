-- Laws of addresses and networks.
use Rattle.std.specs.Prelude.{◌≡◌, true, refl}
use Rattle.std.proofs.lemmas.Bool.{and_parts, eqb-true, leb-true}
use Rattle.std.specs.declared.net.ip_addr.IpAddr.{IpAddr}
use Rattle.pg_base.specs.Network.{FormAddress, FormCidr, FormInet, Network, ReadsAddress, ReadsCidr, ReadsInet}
use Rattle.pg_base.specs.Network.{address_bits, first_fault_cidr, first_fault_inet, is_network, network_bytes}
use Rattle.pg_base.specs.Network.{with_netmask, wire_address, wire_cidr, wire_inet}
use Rattle.pg_base.proofs.NetworkLaws.{address_grammar, cidr_grammar, inet_grammar}
use Rattle.postgres_types.specs.Laws.Plain.{plain_lawful, written_if}
use Rattle.postgres_types.specs.ReadingBack.{BackKept, IsLawful, WrittenAsBytes}

-- what is a network is spelt by its bytes
is_spelt : (n : Network) → is_network n ≡ true → FormInet (network_bytes 0 n) n
is_spelt n h =
    let k = and_parts _ _ h in
    record { flag = 0; is = refl; len = eqb-true _ _ k.0; fits = leb-true _ _ k.1 }

inet_written : (n : Network) → WrittenAsBytes ReadsInet n (wire_inet n)
inet_written n = written_if ReadsInet n (is_network n) _ _ (is_spelt n)

cidr_written : (n : Network) → WrittenAsBytes ReadsCidr n (wire_cidr n)
cidr_written n = written_if ReadsCidr n _ _ _ (λ h. let k = and_parts _ _ h in (is_spelt n k.0, eqb-true _ _ k.1))

address_written : (a : IpAddr) → WrittenAsBytes ReadsAddress a (wire_address a)
address_written a = written_if ReadsAddress a _ _ _
    (λ h. (address_bits a, is_spelt (with_netmask a (address_bits a)) h))

pub inet_lawful : IsLawful (λ v w. v ≡ w) ReadsInet wire_inet (BackKept (λ v w. v ≡ w))
inet_lawful = plain_lawful (λ v. v) FormInet first_fault_inet inet_grammar wire_inet inet_written

pub cidr_lawful : IsLawful (λ v w. v ≡ w) ReadsCidr wire_cidr (BackKept (λ v w. v ≡ w))
cidr_lawful = plain_lawful (λ v. v) FormCidr first_fault_cidr cidr_grammar wire_cidr cidr_written

pub address_lawful : IsLawful (λ v w. v ≡ w) ReadsAddress wire_address (BackKept (λ v w. v ≡ w))
address_lawful = plain_lawful (λ v. v) FormAddress first_fault_inet address_grammar wire_address address_written
