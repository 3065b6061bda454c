-- Addresses in C.
use Rattle.std.specs.Prelude.{◌≡◌, ◌==◌, ◌||◌, ◌&&◌, ℕ, ◌-◌, List, ◌∷◌, ◌++◌, Bool, Some, Ok, Err, replicate, take}
use Rattle.std.specs.Prelude.{if◌then◌else◌}
use Rattle.pg_base.specs.Appending.{Wire}
use Rattle.pg_base.specs.Network.{FormCidr, FormInet, Network, address_len, address_octets, family_len, family_of}
use Rattle.pg_base.specs.Network.{host_part, netmask_fits}
use Rattle.pg_types.specs.Faults.{transmit}
use Rattle.pg_cells_c.specs.declared.network.Inet.{Inet}

-- the address and its netmask; zeros follow the octets of IPv4
abbrev pub IsNetwork : Inet → Network → Type 0
IsNetwork v n =
    (v.family ≡ family_of n.address) × (v.netmask ≡ n.masklen)
    × (v.octets ≡ address_octets n.address ++ replicate (16 - address_len n.address) 0)

-- INET: the address of the bytes, with its netmask
abbrev pub FormInetParts : List ℕ → Inet → Type 0
FormInetParts b v = (n : Network) × FormInet b n × IsNetwork v n

-- CIDR: the network of the bytes
abbrev pub FormCidrParts : List ℕ → Inet → Type 0
FormCidrParts b v = (n : Network) × FormCidr b n × IsNetwork v n

-- whether the family is that of IPv4 or IPv6, and the netmask is not longer than its addresses
abbrev pub is_inet : Inet → Bool
is_inet v = (v.family == 2 || v.family == 3) && netmask_fits v.family v.netmask

-- the octets of the address, as many as its family has
abbrev pub octets_in : Inet → List ℕ
octets_in v = take (family_len v.family) v.octets

-- the cell of an address with its netmask: the family, the netmask's length, the flag 0, the number of octets, and the
-- octets
abbrev pub wire_inet_parts : Inet → Wire
wire_inet_parts v =
    if is_inet v then Ok (Some (v.family ∷ v.netmask ∷ 0 ∷ family_len v.family ∷ octets_in v)) else Err transmit

-- the cell of a network: that of an address with its netmask, if every bit of the address after the netmask is 0
abbrev pub wire_cidr_parts : Inet → Wire
wire_cidr_parts v = if host_part (octets_in v) v.netmask == 0 then wire_inet_parts v else Err transmit
