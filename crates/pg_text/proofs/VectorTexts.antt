-- Lemmas on the texts of vectors.
use Rattle.std.proofs.Common.{◌≡◌, ◌==◌, ◌<◌, ◌^◌, ℕ, ℤ, Bool, true, false, cond, List, [], ◌∷◌, drop, refl}
use Rattle.std.proofs.Common.{ap, subst, sym, arith, get_or, inl, inr, length}
use Rattle.std.specs.Prelude.{FitsSigned}
use Rattle.std.specs.Int.{w16}
use Rattle.std.specs.List.{All, AllZip, join_with_byte, slice_split}
use Rattle.std.specs.Str.Parse.{AllDigits, without_leading_plus, without_leading_sign}
use Rattle.std.proofs.lemmas.Bool.{eqb-true, ne_eqb}
use Rattle.std.proofs.lemmas.List.Elements.{All-cons, All-nil, All-same, All-weaker}
use Rattle.std.proofs.lemmas.List.Splits.{slice_split_at, slice_split_none}
use Rattle.pg_base.specs.NumberTexts.{SaysSigned, SaysUnsigned}
use Rattle.pg_text.proofs.Visible.{IsVisible, digits_visible}
use Rattle.pg_text.specs.Lists.{ParsesVector, SaysVector}
use Rattle.pg_text.specs.Spaces.{ParsesPlain, Plain, Trimmed}
use Rattle.pg_text.specs.Texts.{SaysAny}

-- digits after a sign, if any, have no white space
visible_after : (sign : Bool) (c : ℕ) (cs : List ℕ) → (sign ≡ true → IsVisible c)
    → AllDigits 10 (drop (cond sign 1 0) (c ∷ cs)) → All IsVisible (c ∷ cs)
visible_after true c cs visible h = All-cons IsVisible c cs (visible refl) (digits_visible cs h)
visible_after false c cs visible h = digits_visible (c ∷ cs) h

visible_sign : (c sign : ℕ) → 32 < sign → (c == sign) ≡ true → IsVisible c
visible_sign c sign above e = let same : c ≡ sign = eqb-true c sign e in omega arith

unsigned_visible : (text : List ℕ) → AllDigits 10 (without_leading_plus text) → All IsVisible text
unsigned_visible [] h = All-nil IsVisible
unsigned_visible (c ∷ cs) h = visible_after (c == 43) c cs (visible_sign c 43 (omega arith)) h

visible_minus : (minus : Bool) (c : ℕ) (cs : List ℕ) → (minus ≡ true → IsVisible c)
    → AllDigits 10 (cond minus cs (without_leading_plus (c ∷ cs))) → All IsVisible (c ∷ cs)
visible_minus true c cs visible h = All-cons IsVisible c cs (visible refl) (digits_visible cs h)
visible_minus false c cs visible h = unsigned_visible (c ∷ cs) h

signed_visible : (text : List ℕ) → AllDigits 10 (without_leading_sign text) → All IsVisible text
signed_visible [] h = All-nil IsVisible
signed_visible (c ∷ cs) h = visible_minus (c == 45) c cs (visible_sign c 45 (omega arith)) h

no_space : (text : List ℕ) → All IsVisible text → All (λ byte. (byte == 32) ≡ false) text
no_space text visible =
    All-weaker IsVisible (λ byte. (byte == 32) ≡ false) (λ byte above. ne_eqb byte 32 (λ e. omega arith)) text visible

module _ {A : Type 0} (says : List ℕ → A → Type 0)
    (visible : (text : List ℕ) (v : A) → Plain says text v → All IsVisible text) where
  parts_parsed : (text : List ℕ) (texts : List (List ℕ)) (vs : List A) → AllZip (Plain says) (text ∷ texts) vs
      → All (ParsesPlain (SaysAny says)) (slice_split (λ byte. byte == 32) (join_with_byte 32 (text ∷ texts)))
  parts_parsed text [] [] all = absurd all
  parts_parsed text (t ∷ ts) [] all = absurd all
  parts_parsed text [] (v ∷ vs) all =
      All-same (ParsesPlain (SaysAny says)) _ (text ∷ [])
      (slice_split_none (λ byte. byte == 32) text (no_space text (visible text v all.0)))
      (All-cons (ParsesPlain (SaysAny says)) text [] (all.0.0, (v, all.0.1)) (All-nil (ParsesPlain (SaysAny says))))
  parts_parsed text (t ∷ ts) (v ∷ vs) all =
      All-same (ParsesPlain (SaysAny says)) _ (text ∷ slice_split (λ byte. byte == 32) (join_with_byte 32 (t ∷ ts)))
      (slice_split_at (λ byte. byte == 32) text 32 (join_with_byte 32 (t ∷ ts))
      (no_space text (visible text v all.0)) refl)
      (All-cons (ParsesPlain (SaysAny says)) text _ (all.0.0, (v, all.0.1)) (parts_parsed t ts vs all.1))

  -- what says values with spaces between is parsed
  vector_parsed : (text : List ℕ) (texts : List (List ℕ)) (vs : List A) → text ≡ join_with_byte 32 texts
      → AllZip (Plain says) texts vs → ParsesVector (ParsesPlain (SaysAny says)) text
  vector_parsed text [] vs is all = inl is
  vector_parsed text (t ∷ ts) vs is all =
      inr (subst (λ text. All (ParsesPlain (SaysAny says)) (slice_split (λ byte. byte == 32) text)) (sym is)
      (parts_parsed t ts vs all))

-- the part of the vector that is at k is parsed
pub part_parsed : (parses : List ℕ → Type 0) (text part : List ℕ) (k : ℕ) → (length text == 0) ≡ false
    → k < length (slice_split (λ byte. byte == 32) text) → part ≡ get_or (slice_split (λ byte. byte == 32) text) k part
    → ParsesVector parses text → parses part
part_parsed parses text part k some inside is (inl none) =
    let empty : (length text == 0) ≡ true = ap (λ text. length text == 0) none in absurd cc
part_parsed parses text part k some inside is (inr all) = subst parses (sym is) (all k part inside)

-- an integer of 16 bits
abbrev pub SaysInt2 : List ℕ → ℤ → Type 0
SaysInt2 text n = SaysSigned text n × FitsSigned w16 n

-- one of 32 bits without a sign
abbrev pub SaysOid : List ℕ → ℕ → Type 0
SaysOid text n = SaysUnsigned text n × (n < 2 ^ 32)

pub int2vector_parsed : (text : List ℕ) → SaysAny (SaysVector (Plain (Trimmed SaysInt2))) text
    → ParsesVector (ParsesPlain (SaysAny (Trimmed SaysInt2))) text
int2vector_parsed text says =
    vector_parsed (Trimmed SaysInt2)
    (λ t v own. signed_visible t (subst (λ t. AllDigits 10 (without_leading_sign t)) own.0 own.1.0.0.1))
    text says.1.0 says.0 says.1.1 says.1.2

pub oidvector_parsed : (text : List ℕ) → SaysAny (SaysVector (Plain (Trimmed SaysOid))) text
    → ParsesVector (ParsesPlain (SaysAny (Trimmed SaysOid))) text
oidvector_parsed text says =
    vector_parsed (Trimmed SaysOid)
    (λ t v own. unsigned_visible t (subst (λ t. AllDigits 10 (without_leading_plus t)) own.0 own.1.0.0.1))
    text says.1.0 says.0 says.1.1 says.1.2
