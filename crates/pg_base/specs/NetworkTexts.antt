-- The texts of network addresses and of MAC addresses.
use Rattle.std.specs.Prelude.{◌≡◌, ◌&&◌, ◌<◌, ◌⊎◌, ℕ, ◌==◌, List, [], ◌∷◌, ◌++◌, Bool, MatchResult, Ok, Option, Result}
use Rattle.std.specs.Prelude.{Some, codes, drop, if◌then◌else◌, length, map, not, slice_index, take}
use Rattle.std.specs.Fmt.{decimal}
use Rattle.std.specs.List.{AllZip, join_with_byte, position_or_len}
use Rattle.std.specs.Net.Addr.{ipv6_segments, octets_of}
use Rattle.std.specs.Net.Grammar.{IsIpText}
use Rattle.std.specs.Net.Text.{ip_text, ipv4_text}
use Rattle.std.specs.Str.{bytes_eq}
use Rattle.std.specs.declared.net.ip_addr.IpAddr.{IpAddr}
use Rattle.std.specs.declared.net.ip_addr.IpAddr.TheVariants.{V4, V6}
use Rattle.hex.specs.Hex.{decode_of, encode_lower}
use Rattle.pg_base.specs.Network.{Network, address_bits}
use Rattle.pg_base.specs.NumberTexts.{SaysUnsigned}
use Rattle.pg_types.specs.declared.fault.Fault.{Fault}
use Rattle.pg_types.specs.Faults.{Refusal, netmask, refusal_of, user}

-- the first six words of an IPv6 address are 0, and the seventh is not
abbrev pub is_ipv4_compatible : List ℕ → Bool
is_ipv4_compatible words = bytes_eq (take 6 words) (0 ∷ 0 ∷ 0 ∷ 0 ∷ 0 ∷ 0 ∷ []) && not (slice_index words 6 == 0)

-- an address has the text of the standard library (RFC 5952), but one with only its first six words 0 ends in an IPv4
-- address (inet_net_ntop_ipv6)
abbrev pub address_text : IpAddr → List ℕ
address_text (V4 a) = ip_text (V4 a)
address_text (V6 a) =
    let words = ipv6_segments a in
    if is_ipv4_compatible words then codes "::" ++ ipv4_text (octets_of (drop 6 words)) else ip_text (V6 a)

-- a slash and the length of a netmask
abbrev pub netmask_text : ℕ → List ℕ
netmask_text len = 47 ∷ decimal len

-- INET (inet_out): without the netmask if it covers all bits
abbrev pub inet_text : Network → List ℕ
inet_text n =
    address_text n.address ++ (if n.masklen == address_bits n.address then [] else netmask_text n.masklen)

-- CIDR (cidr_out): always with the netmask
abbrev pub cidr_text : Network → List ℕ
cidr_text n = address_text n.address ++ netmask_text n.masklen

-- where the first slash of a text stands; its length where it has none
abbrev pub slash_place : List ℕ → ℕ
slash_place = position_or_len (λ byte. byte == 47)

-- what the text after an address says of the netmask: the length that stands after a slash, and all bits without one
abbrev pub SaysNetmask : List ℕ → Network → Type 0
SaysNetmask [] n = n.masklen ≡ address_bits n.address
SaysNetmask (slash ∷ len) n = SaysUnsigned len n.masklen

-- and what is read of either (network_in): an address up to the first slash, and the length of its netmask
abbrev pub SaysNetwork : List ℕ → Network → Type 0
SaysNetwork text n =
    IsIpText (take (slash_place text) text) n.address × SaysNetmask (drop (slash_place text) text) n

-- the text says no network
abbrev pub SaysNoNetwork : List ℕ → Type 0
SaysNoNetwork text = (n : Network) → SaysNetwork text n → ⊥

-- the fault of a text that says no network
abbrev pub no_network : Refusal
no_network = user (codes "no network address")

-- the text says no number of at most 255: a greater one, which is refused with Netmask, or none, with User
abbrev pub RefusesLength : List ℕ → Option Refusal → Type 0
RefusesLength text fault =
    (((len : ℕ) → SaysUnsigned text len → ⊥) × (fault ≡ Some no_network))
    ⊎ ((len : ℕ) × SaysUnsigned text len × (255 < len) × (fault ≡ Some netmask))

-- the fault of a refused text: that of the first check of the network that it says, and User if it says none
abbrev pub RefusesNetwork : (Network → Option Refusal) → List ℕ → Option Refusal → Type 0
RefusesNetwork first_fault text fault =
    (SaysNoNetwork text × (fault ≡ Some no_network))
    ⊎ ((n : Network) × SaysNetwork text n × (fault ≡ first_fault n))

-- a text is read as the network that it says, and refused where it says none of this kind
abbrev pub ParsesNetwork : (Network → Type 0) → (Network → Option Refusal) → List ℕ → Result Network Fault → Type 0
ParsesNetwork kind first_fault text parsed =
    MatchResult parsed (SaysNetwork text) (λ f.
    ((n : Network) → SaysNetwork text n → kind n → ⊥) × RefusesNetwork first_fault text (refusal_of f))

-- the two hexadecimal digits of a byte
abbrev pub pair_text : ℕ → List ℕ
pair_text byte = encode_lower (byte ∷ [])

-- MACADDR (macaddr_out): the digits of each byte, with colons between
abbrev pub macaddr_text : List ℕ → List ℕ
macaddr_text bytes = join_with_byte 58 (map pair_text bytes)

-- the text is the two hexadecimal digits, of either case, of the byte
abbrev pub IsPair : List ℕ → ℕ → Type 0
IsPair pair byte = decode_of pair ≡ Ok (byte ∷ [])

-- whether the text has the length of six pairs with colons between, and these colons
abbrev pub has_colons : List ℕ → Bool
has_colons text =
    length text == 17 && slice_index text 2 == 58 && slice_index text 5 == 58 && slice_index text 8 == 58
    && slice_index text 11 == 58 && slice_index text 14 == 58

-- what is parsed as MACADDR, of the forms that macaddr_in accepts: six pairs of hexadecimal digits of either case, with
-- colons between
abbrev pub SaysMacaddr : List ℕ → List ℕ → Type 0
SaysMacaddr text bytes =
    (pairs : List (List ℕ)) × (text ≡ join_with_byte 58 pairs) × AllZip IsPair pairs bytes × (length bytes ≡ 6)

-- a text is read as the MAC address that it says, and refused with User where it says none
abbrev pub ParsesMacaddr : List ℕ → Result (List ℕ) Fault → Type 0
ParsesMacaddr text parsed =
    MatchResult parsed (SaysMacaddr text) (λ f.
    ((bytes : List ℕ) → SaysMacaddr text bytes → ⊥) × (refusal_of f ≡ Some (user (codes "no MAC address"))))
