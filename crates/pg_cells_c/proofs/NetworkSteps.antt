-- Steps of writing networks.
use Rattle.std.specs.Prelude.{◌≡◌, ◌≢◌, ◌==◌, ℕ, List, length, Bool, true, false, refl}
use Rattle.std.proofs.Common.{arith, sym, ◌∙◌}
use Rattle.std.proofs.lemmas.Bool.Decides.{nat_tests}
use Rattle.std.proofs.lemmas.List.{take_all}
use Rattle.pg_base.specs.Network.{host_part}
use Rattle.pg_cells_c.specs.Networks.{is_inet, octets_in, wire_cidr_parts}
use Rattle.pg_cells_c.specs.Writings.{WritesCell, no_cell}
use Rattle.pg_cells_c.specs.declared.network.Inet.{Inet}

-- an address that is not of IPv4 is of IPv6
v6_family : (v : Inet) → is_inet v ≡ true → v.family ≢ 2 → v.family ≡ 3
v6_family v is other = grind (arith, nat_tests)

-- and has all octets
pub v6_octets : (v : Inet) (octets : List ℕ) → length v.octets ≡ 16 → v.family ≢ 2 → octets ≡ v.octets
    → is_inet v ≡ true → (3 ≡ v.family) × (octets ≡ octets_in v)
v6_octets v octets len other same is =
    let family = v6_family v is other in
    (sym family, same ∙ sym (rw family (take_all 16 v.octets (omega (arith, len)))))

no_network_by : (v : Inet) (old new : List ℕ) (len : ℕ) (test inet : Bool)
    → (is_inet v ≡ true → false ≡ (host_part (octets_in v) v.netmask == 0)) → new ≡ old → len ≡ no_cell
    → (host_part (octets_in v) v.netmask == 0) ≡ test → is_inet v ≡ inet → WritesCell (wire_cidr_parts v) old new len
unfolding WritesCell
no_network_by v old new len false inet says is count host known = rw host (is, count)
no_network_by v old new len true false says is count host known = rw (host, known) (is, count)
no_network_by v old new len true true says is count host known = let other = says known in absurd (cc)

-- what has host bits, or is no address, has no cell
pub no_network : (v : Inet) (old new : List ℕ) (len : ℕ)
    → (is_inet v ≡ true → false ≡ (host_part (octets_in v) v.netmask == 0)) → new ≡ old → len ≡ no_cell
    → WritesCell (wire_cidr_parts v) old new len
no_network v old new len says is count =
    no_network_by v old new len (host_part (octets_in v) v.netmask == 0) (is_inet v) says is count refl refl
