-- What is parsed as INET and CIDR.
use Rattle.std.specs.Prelude.{◌≡◌, ◌==◌, ◌&&◌, ◌||◌, ℕ, List, [], ◌∷◌, Bool, true, drop, not}
use Rattle.std.specs.List.{list_any}
use Rattle.pg_base.specs.Network.{Network}
use Rattle.pg_base.specs.NetworkTexts.{SaysNetwork, slash_place}

-- the length of a netmask has no sign and, after an IPv6 address, no zero before other digits (inet_net_pton)
abbrev pub is_plain_length : Bool → List ℕ → Bool
is_plain_length is_ipv6 [] = true
is_plain_length is_ipv6 (a ∷ []) = not (a == 43)
is_plain_length is_ipv6 (a ∷ b ∷ rest) = not (a == 43 || is_ipv6 && a == 48)

-- the length after the slash, if any; an IPv6 address has a colon
abbrev pub has_plain_length : List ℕ → Bool
has_plain_length text =
    is_plain_length (list_any (λ byte. byte == 58) text) (drop 1 (drop (slash_place text) text))

-- INET, CIDR (network_in)
abbrev pub SaysAddress : List ℕ → Network → Type 0
SaysAddress text n = SaysNetwork text n × (has_plain_length text ≡ true)
