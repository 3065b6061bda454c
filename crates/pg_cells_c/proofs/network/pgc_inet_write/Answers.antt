-- What the proof of `pgc_inet_write` answers by hand.
use Rattle.std.specs.Prelude.{◌∷◌, refl, take}
use Rattle.std.proofs.Common.{ap, subst, ◌∙◌}
use Rattle.std.proofs.lemmas.List.{append-nil}
use Rattle.pg_cells_c.proofs.WritingSteps.{inet_written, no_inet}
use Rattle.pg_cells_c.specs.Networks.{octets_in}
use Rattle.pg_cells_c.specs.Writings.{WritesInto, no_cell}
use Rattle.pg_cells_c.proofs.network.pgc_inet_write.Goals as goal

pub returns-in_default : goal.returns-in_default
returns-in_default c = no_inet c.args.inet.now c.args.out.now c.args.out.now no_cell c.in_default.ensures refl refl

pub returns : goal.returns
returns c =
    let v = c.args.inet.now in
    let out = c.args.out.now in
    let new = c.write_parts.new.out in
    let len = c.write_parts.result in
    let count = c.in-Some.ensures.1 in
    let cell = ap (λ t. v.family ∷ v.netmask ∷ 0 ∷ c.in-Some.count ∷ t) (append-nil (take c.from.result v.octets))
    ∙ ap (λ n. v.family ∷ v.netmask ∷ 0 ∷ c.in-Some.count ∷ take n v.octets) (c.from.ensures ∙ count)
    ∙ ap (λ n. v.family ∷ v.netmask ∷ 0 ∷ n ∷ octets_in v) count in
    inet_written v out new len c.in-Some.ensures.0 (subst (λ b. WritesInto b out new len) cell c.write_parts.ensures)
