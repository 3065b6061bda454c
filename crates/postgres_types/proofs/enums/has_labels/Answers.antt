-- What the proof of `has_labels` answers by hand.
use Rattle.std.proofs.Common.{rules, tests, ◌≡◌, ◌∙◌, sym, map, Bor, List, ℕ, string_bytes}
use Rattle.std.specs.List.{list_all}
use Rattle.std.proofs.lemmas.Iterator.{YieldsList-from_slice}
use Rattle.std.proofs.lemmas.Iterator.Search.{all_from_yields_List}
use Rattle.postgres_types.specs.Enums.{has_label}
use Rattle.postgres_types.proofs.EnumLabels.{all_of_map}
use Rattle.postgres_types.proofs.enums.has_labels.Goals as goal

pub returns : goal.returns
returns c =
    let labels = map string_bytes c.args.labels.now in
    let others = c.args.others.now in
    let found : c.all.result ≡ list_all (λ (other : Bor (List ℕ)). has_label labels other.now) others
    = all_from_yields_List (λ other. has_label labels other.now) _ _ c.all.result c.all.ensures.ran
    (YieldsList-from_slice others cc) (λ x b q k. search (rules, tests)) in
    found ∙ sym (all_of_map (λ other. other.now) (has_label labels) others)
