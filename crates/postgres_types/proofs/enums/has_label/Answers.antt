-- What the proof of `has_label` answers by hand.
use Rattle.std.proofs.Common.{rules, tests, ◌≡◌, ◌∙◌, ◌==◌, sym, String, string_bytes}
use Rattle.std.specs.Cmp.Lexicographic.{pointwise}
use Rattle.std.specs.Global.{Global}
use Rattle.std.specs.List.{list_any}
use Rattle.std.proofs.lemmas.Iterator.{YieldsList-from_slice}
use Rattle.std.proofs.lemmas.Iterator.Search.{any_from_yields_List}
use Rattle.postgres_types.proofs.EnumLabels.{any_of_map}
use Rattle.postgres_types.proofs.enums.has_label.Goals as goal

pub returns : goal.returns
returns c =
    let labels = c.args.labels.now in
    let label = c.args.label.now in
    let found : c.any.result ≡ list_any (λ (other : String Global). pointwise ◌==◌ (string_bytes other) label) labels
    = any_from_yields_List (λ other. pointwise ◌==◌ (string_bytes other) label) _ _ c.any.result c.any.ensures.ran
    (YieldsList-from_slice labels cc) (λ x b q k. search (rules, tests)) in
    found ∙ sym (any_of_map string_bytes (λ other. pointwise ◌==◌ other label) labels)
