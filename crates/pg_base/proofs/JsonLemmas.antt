-- Lemmas on documents.
use Rattle.std.proofs.Common.{◌≡◌, ℕ, List, Bool, true, false, Some, None, refl}
use Rattle.std.specs.Prelude.{IsUtf8}
use Rattle.std.specs.Str.{is_utf8}
use Rattle.std.proofs.lemmas.Str.{is_utf8-from_IsUtf8, IsUtf8-from_is_utf8}
use Rattle.serde_json.specs.Data.{Data}
use Rattle.serde_json.specs.Read.{read}
use Rattle.serde_json.specs.Written.{has_float}
use Rattle.pg_types.specs.Faults.{json_text, json_number}
use Rattle.pg_base.specs.Json.{document_of, first_fault_json}

unread : (b : List ℕ) (t : Bool) → is_utf8 b ≡ t → (IsUtf8 b → read b ≡ None) → document_of b ≡ None
unread b true e h = rw (e, h (IsUtf8-from_is_utf8 b e)) refl
unread b false e h = rw e refl

-- a text that is no document is refused with JsonText
pub no_document : (b : List ℕ) → (IsUtf8 b → read b ≡ None) → first_fault_json false b ≡ Some json_text
no_document b h = rw (unread b (is_utf8 b) refl h) refl

-- a document with another number is refused with JsonNumber
pub other_number : (b : List ℕ) (d : Data) → IsUtf8 b → read b ≡ Some d → has_float d ≡ true → first_fault_json false b
    ≡ Some json_number
other_number b d u h n = rw (is_utf8-from_IsUtf8 b u, h, n) refl
