-- Network addresses: INET (inet_send, inet_recv) and CIDR (cidr_send, cidr_recv).
use Rattle.std.specs.Prelude.{◌≡◌, ℕ, ◌-◌, ◌*◌, ◌%◌, ◌^◌, ◌≤◌, ◌==◌, ◌&&◌, ◌||◌, nat_le, List, [], ◌∷◌, ◌++◌}
use Rattle.std.specs.Prelude.{length, drop, slice_index, Bool, Option, Some, None, if◌then◌else◌, Ok, Err}
use Rattle.std.specs.Int.Digits.{number_from_digits}
use Rattle.std.specs.Net.Addr.{ipv4_octets, ipv6_octets}
use Rattle.std.specs.declared.net.ip_addr.IpAddr.{IpAddr}
use Rattle.std.specs.declared.net.ip_addr.IpAddr.TheVariants.{V4, V6}
use Rattle.pg_base.specs.Cells.{Cell}
use Rattle.pg_base.specs.Counts.{length_check}
use Rattle.pg_types.specs.Faults.{Refusal, Outcome, size, family, netmask, address_length, host_bits, transmit}
use Rattle.pg_base.specs.Formats.{Checks, first_fault_of, ReadsPlain}
use Rattle.pg_base.specs.Appending.{Wire}

-- the number of bytes before the octets: the family, the length of the netmask, a flag, and the number of octets
abbrev pub head_len : ℕ
head_len = 4

-- the octets of an address, big-endian
abbrev pub address_octets : IpAddr → List ℕ
address_octets (V4 a) = ipv4_octets a
address_octets (V6 a) = ipv6_octets a

-- the number of an address's family: 2 for IPv4 (PGSQL_AF_INET), 3 for IPv6 (PGSQL_AF_INET6)
abbrev pub family_of : IpAddr → ℕ
family_of (V4 a) = 2
family_of (V6 a) = 3

-- how many octets the addresses of a family have
abbrev pub family_len : ℕ → ℕ
family_len number = if number == 2 then 4 else 16

-- how many bits the addresses of a family have
abbrev pub family_bits : ℕ → ℕ
family_bits number = 8 * family_len number

-- how many octets an address has
abbrev pub address_len : IpAddr → ℕ
address_len a = family_len (family_of a)

-- how many bits an address has
abbrev pub address_bits : IpAddr → ℕ
address_bits a = family_bits (family_of a)

-- whether a netmask of that length is no longer than the addresses of a family
abbrev pub netmask_fits : ℕ → ℕ → Bool
netmask_fits number masklen = nat_le masklen (family_bits number)

-- an address and the length of its netmask: the number of leading bits that name the network
pub record Network : Type 0 where
  pub address : IpAddr
  pub masklen : ℕ

-- the address with a netmask of that length
abbrev pub with_netmask : IpAddr → ℕ → Network
with_netmask a masklen = record { address = a; masklen = masklen }

-- the netmask is no longer than the address
abbrev pub NetmaskFits : Network → Type 0
NetmaskFits n = n.masklen ≤ address_bits n.address

-- the number that the bits of the octets after the netmask make
abbrev pub host_part : List ℕ → ℕ → ℕ
host_part octets masklen = number_from_digits 256 octets % 2 ^ (8 * length octets - masklen)

-- the check of a netmask: a netmask that is too long is Netmask
abbrev pub netmask_check : ℕ → ℕ → Bool × Refusal
netmask_check number masklen = (netmask_fits number masklen, netmask)

-- the check of the host bits: if one of them is 1, it is HostBits
abbrev pub host_check : List ℕ → ℕ → Bool × Refusal
host_check octets masklen = (host_part octets masklen == 0, host_bits)

-- no bit of the address after the netmask is 1
abbrev pub NoHostBits : Network → Type 0
NoHostBits n = host_part (address_octets n.address) n.masklen ≡ 0

-- the bytes of an address with its netmask: the family, the length of the netmask, a flag, the number of octets, and
-- the octets
abbrev pub network_bytes : ℕ → Network → List ℕ
network_bytes flag n = family_of n.address ∷ n.masklen ∷ flag ∷ address_len n.address ∷ address_octets n.address

-- INET: the bytes of an address with the length of its family, with a netmask that fits and any flag
pub record FormInet (b : List ℕ) (n : Network) : Type 0 where
  -- the flag
  pub flag : ℕ
  -- the bytes are those of the address
  pub is : b ≡ network_bytes flag n
  -- it has the length of its family
  pub len : length (address_octets n.address) ≡ address_len n.address
  -- and its netmask fits
  pub fits : NetmaskFits n

-- CIDR: the same, without host bits
abbrev pub FormCidr : List ℕ → Network → Type 0
FormCidr b n = FormInet b n × NoHostBits n

-- an address alone: INET with any netmask
abbrev pub FormAddress : List ℕ → IpAddr → Type 0
FormAddress b a = (masklen : ℕ) × FormInet b (with_netmask a masklen)

-- the checks of INET: fewer than four bytes are Size, then another family than 2 and 3 is Family, a netmask that is too
-- long Netmask, another number of octets than the family has AddressLength, and any other number of bytes after it Size
abbrev pub inet_checks : List ℕ → Checks
inet_checks b =
    (nat_le head_len (length b), size)
    ∷ (slice_index b 0 == 2 || slice_index b 0 == 3, family)
    ∷ netmask_check (slice_index b 0) (slice_index b 1)
    ∷ (slice_index b 3 == family_len (slice_index b 0), address_length)
    ∷ length_check (family_len (slice_index b 0)) (drop head_len b)
    ∷ []

-- the first fault of INET
abbrev pub first_fault_inet : List ℕ → Option Refusal
first_fault_inet b = first_fault_of (inet_checks b)

-- the first fault of CIDR: after the checks of INET, host bits are HostBits
abbrev pub first_fault_cidr : List ℕ → Option Refusal
first_fault_cidr b = first_fault_of (inet_checks b ++ host_check (drop head_len b) (slice_index b 1) ∷ [])

-- what a cell of INET reads as
abbrev pub ReadsInet : Cell → Outcome Network → Type 0
ReadsInet = ReadsPlain FormInet first_fault_inet

-- what a cell of CIDR reads as
abbrev pub ReadsCidr : Cell → Outcome Network → Type 0
ReadsCidr = ReadsPlain FormCidr first_fault_cidr

-- what a cell of INET reads as if its netmask is ignored
abbrev pub ReadsAddress : Cell → Outcome IpAddr → Type 0
ReadsAddress = ReadsPlain FormAddress first_fault_inet

-- the fault of an address with a netmask that is too long
abbrev pub first_fault_netmask : Network → Option Refusal
first_fault_netmask n = first_fault_of (netmask_check (family_of n.address) n.masklen ∷ [])

-- the fault of an address and a netmask that are not a network: the netmask is too long, or there are host bits
abbrev pub first_fault_network : Network → Option Refusal
first_fault_network n =
    first_fault_of (netmask_check (family_of n.address) n.masklen
    ∷ host_check (address_octets n.address) n.masklen ∷ [])

-- n if there is no fault, and otherwise the fault
abbrev pub NetworkOrFault : Network → Option Refusal → Outcome Network → Type 0
NetworkOrFault n fault (Ok network) = (network ≡ n) × (fault ≡ None)
NetworkOrFault n fault (Err r) = fault ≡ Some r

-- whether the address has the length of its family and the netmask fits
abbrev pub is_network : Network → Bool
is_network n =
    length (address_octets n.address) == address_len n.address && netmask_fits (family_of n.address) n.masklen

-- the cell of an address with its netmask: its bytes with the flag 0, or Transmit if the length of either is wrong
abbrev pub wire_inet : Network → Wire
wire_inet n = if is_network n then Ok (Some (network_bytes 0 n)) else Err transmit

-- the cell of a network: its bytes with the flag 0, or Transmit if a length is wrong or there are host bits
abbrev pub wire_cidr : Network → Wire
wire_cidr n = if is_network n && host_part (address_octets n.address) n.masklen == 0 then Ok
    (Some (network_bytes 0 n)) else Err transmit

-- the cell of an address alone: that of a netmask which covers all its bits
abbrev pub wire_address : IpAddr → Wire
wire_address a = wire_inet (with_netmask a (address_bits a))
