-- Laws of documents.
use Rattle.std.specs.Prelude.{◌≡◌, ℕ, List, length, nat_lt, Bool, true, false, Some, None, refl}
use Rattle.std.proofs.Common.{sym, ◌∙◌, ap, arith, drop}
use Rattle.std.proofs.lemmas.Bool.Decides.{nat_tests}
use Rattle.std.proofs.lemmas.Str.{is_utf8-from_IsUtf8}
use Rattle.serde_json.specs.Data.{Data}
use Rattle.pg_base.specs.Cells.{versioned_cell}
use Rattle.pg_base.specs.Formats.{IsGrammar}
use Rattle.pg_base.specs.Json.{FormJson, first_fault_json}

-- the text of a cell
abbrev text_in : Bool → List ℕ → List ℕ
text_in false b = b
text_in true b = drop 1 b

text_back : (versioned : Bool) (text : List ℕ) → text_in versioned (versioned_cell versioned text) ≡ text
text_back false text = refl
text_back true text = refl

not_empty : (text : List ℕ) → nat_lt 0 (length (versioned_cell true text)) ≡ true
not_empty text = grind (arith, nat_tests)

json_passes : {A : Type 0} (view_of : A → Data) (versioned : Bool) (b : List ℕ) (v : A)
    → FormJson view_of versioned b v → first_fault_json versioned b ≡ None
json_passes view_of false b v h = rw (h.is, is_utf8-from_IsUtf8 h.text h.utf8, h.document, h.no_float) refl
json_passes view_of true b v h =
    rw (h.is, not_empty h.text, is_utf8-from_IsUtf8 h.text h.utf8, h.document, h.no_float) refl

json_single : {A : Type 0} (view_of : A → Data) (versioned : Bool) (b : List ℕ) (v w : A)
    → FormJson view_of versioned b v → FormJson view_of versioned b w → view_of v ≡ view_of w
json_single view_of versioned b v w h k =
    let same : h.text ≡ k.text = sym (text_back versioned h.text) ∙ ap (text_in versioned) (sym h.is ∙ k.is)
    ∙ text_back versioned k.text in
    let bytes : Some (view_of v) ≡ Some (view_of w) = cc (h.document, k.document, same) in
    cc

pub json_grammar : {A : Type 0} (view_of : A → Data) (versioned : Bool)
    → IsGrammar (λ v w. view_of v ≡ view_of w) (FormJson view_of versioned) (first_fault_json versioned)
json_grammar view_of versioned = record
    { passes = json_passes view_of versioned; single = json_single view_of versioned }
