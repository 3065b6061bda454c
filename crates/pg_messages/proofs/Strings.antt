-- Texts that end with a zero byte.
use Rattle.std.proofs.Common.{◌≡◌, ◌++◌, ℕ, List, [], ◌∷◌, Some, None, ap, refl, ◌∙◌, if◌then◌else◌, option_map}
use Rattle.std.specs.Prelude.{IsUtf8}
use Rattle.std.specs.Str.{is_utf8}
use Rattle.std.proofs.lemmas.Str.{is_utf8-from_IsUtf8}
use Rattle.streams.specs.Lines.{Lacks}
use Rattle.pg_messages.specs.Reading.{onto, text_of, until_zero}
use Rattle.pg_base.proofs.TextLemmas.{not_utf8}

-- up to the first zero byte
until_found : (text rest : List ℕ) → Lacks 0 text → until_zero (text ++ 0 ∷ rest) ≡ Some (text, rest)
unfolding until_zero
until_found [] rest lacks = refl
until_found (byte ∷ text) rest lacks =
    ap (λ b. if b then Some ([], text ++ 0 ∷ rest) else option_map (onto byte) (until_zero (text ++ 0 ∷ rest))) lacks.0
    ∙ ap (option_map (onto byte)) (until_found text rest lacks.1)

pub found : (s text rest : List ℕ) → Lacks 0 text → s ≡ text ++ 0 ∷ rest → until_zero s ≡ Some (text, rest)
found s text rest lacks is = ap until_zero is ∙ until_found text rest lacks

-- or there is none
pub none : (s : List ℕ) → Lacks 0 s → until_zero s ≡ None
unfolding until_zero
none [] lacks = refl
none (byte ∷ s) lacks =
    ap (λ b. if b then Some ([], s) else option_map (onto byte) (until_zero s)) lacks.0
    ∙ ap (option_map (onto byte)) (none s lacks.1)

-- a text
pub plain : (text rest : List ℕ) → IsUtf8 text → text_of (Some (text, rest)) ≡ Some (text, rest)
plain text rest utf8 = ap (λ b. if b then Some (text, rest) else None) (is_utf8-from_IsUtf8 text utf8)

-- and bytes that are none
pub refused : (text rest : List ℕ) → (IsUtf8 text → ⊥) → text_of (Some (text, rest)) ≡ None
refused text rest other = ap (λ b. if b then Some (text, rest) else None) (not_utf8 text (is_utf8 text) refl other)
