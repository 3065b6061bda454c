-- Lemmas on texts.
use Rattle.std.proofs.Common.{◌≡◌, ℕ, List, Bool, true, false, Some, None, Ok, Err, refl, ap, cond}
use Rattle.std.specs.Prelude.{IsUtf8}
use Rattle.std.specs.Str.{is_utf8}
use Rattle.std.proofs.lemmas.Str.{is_utf8-from_IsUtf8, IsUtf8-from_is_utf8}
use Rattle.pg_types.specs.Faults.{utf8, transmit}
use Rattle.pg_base.specs.Cells.{versioned_cell}
use Rattle.pg_base.specs.Texts.{first_fault_text, wire_text}

pub not_utf8 : (b : List ℕ) (t : Bool) → is_utf8 b ≡ t → (IsUtf8 b → ⊥) → is_utf8 b ≡ false
not_utf8 b true e h = absurd (h (IsUtf8-from_is_utf8 b e))
not_utf8 b false e h = e

-- bytes that are no UTF-8 are refused with Utf8
pub text_refused : (b : List ℕ) → (IsUtf8 b → ⊥) → first_fault_text false b ≡ Some utf8
text_refused b h = ap (λ t. cond t None (Some utf8)) (not_utf8 b (is_utf8 b) refl h)

-- a text is written as its cell
pub wire_utf8 : (versioned : Bool) (s : List ℕ) → IsUtf8 s → wire_text versioned s
    ≡ Ok (Some (versioned_cell versioned s))
wire_utf8 versioned s h = ap (λ t. cond t (Ok (Some (versioned_cell versioned s))) (Err transmit))
    (is_utf8-from_IsUtf8 s h)
