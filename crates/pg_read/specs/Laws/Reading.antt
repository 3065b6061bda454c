-- Laws of reading: a cell has at most one outcome, in plain formats, and for types that contain a value that is read.
use Rattle.std.specs.Prelude.{◌≡◌, ℕ, List, length, Bool, true, false, Option, Some, None, Ok, Err}
use Rattle.std.proofs.Common.{sym, ◌∙◌, ap, inl, inr, true≢false}
use Rattle.std.specs.Int.{Width}
use Rattle.pg_base.specs.Cells.{Cell}
use Rattle.pg_types.specs.Faults.{Refusal, Outcome}
use Rattle.pg_base.specs.Formats.{Decodes, NotNull, ReadsPlain, IsGrammar}
use Rattle.pg_base.specs.Sameness.{SameOption}
use Rattle.pg_base.specs.Special.{Special, pos_infinity, neg_infinity, value, DecodesSpecial, FormSpecial}
use Rattle.pg_base.specs.Special.{RefusedSpecial, ReadsSpecial, SameSpecial}
use Rattle.pg_base.proofs.SpecialLaws.{infinity_width, minus_infinity_width, infinities_apart}
use Rattle.pg_read.specs.BoxReading.{ReadsBox}
use Rattle.pg_read.specs.OptionReading.{ReadsOption}
use Rattle.pg_read.specs.Reading.{GivesSingle, ReadsSingle}
use Rattle.pg_read.specs.Views.{Constrained, ReadsConstrained, ReadsThrough, Through}

-- ---- plain formats

-- a value and a fault exclude each other
pub no_fault : {A : Type 0} (o : Option A) (a : A) → o ≡ None → o ≡ Some a → ⊥
no_fault o a e f = let bad : None ≡ Some a = sym e ∙ f in cc

-- if bytes have one outcome, and NULL gives WasNull, a cell has one
pub not_null_single : {A : Type 0} (same : A → A → Type 0) (reads : List ℕ → Outcome A → Type 0)
    → ((b : List ℕ) → GivesSingle same (reads b)) → ReadsSingle same (NotNull reads)
not_null_single same reads single None (Ok v) s h k = absurd h
not_null_single same reads single None (Err r) (Ok w) h k = absurd k
not_null_single same reads single None (Err r) (Err s) h k = h ∙ sym k
not_null_single same reads single (Some b) r s h k = single b r s h k

decodes_single : {A : Type 0} (same : A → A → Type 0) (form : List ℕ → A → Type 0)
    (first_fault : List ℕ → Option Refusal) → IsGrammar same form first_fault → (b : List ℕ)
    → GivesSingle same (Decodes form first_fault b)
decodes_single same form first_fault law b (Ok v) (Ok w) h k = law.single b v w h k
decodes_single same form first_fault law b (Ok v) (Err s) h k = no_fault (first_fault b) s (law.passes b v h) k
decodes_single same form first_fault law b (Err r) (Ok w) h k = no_fault (first_fault b) r (law.passes b w k) h
decodes_single same form first_fault law b (Err r) (Err s) h k = let e : Some r ≡ Some s = sym h ∙ k in cc

-- a plain format that is a grammar gives a cell one outcome
pub plain_single : {A : Type 0} (same : A → A → Type 0) (form : List ℕ → A → Type 0)
    (first_fault : List ℕ → Option Refusal) → IsGrammar same form first_fault
    → ReadsSingle same (ReadsPlain form first_fault)
plain_single same form first_fault law =
    not_null_single same (Decodes form first_fault) (decodes_single same form first_fault law)

-- bytes that have an outcome in a plain format and pass every check spell a value
pub value_from_outcome : {A : Type 0} (form : List ℕ → A → Type 0) (first_fault : List ℕ → Option Refusal) (b : List ℕ)
    → (o : Outcome A) → Decodes form first_fault b o → first_fault b ≡ None → (v : A) × form b v
value_from_outcome form first_fault b (Ok v) h e = (v, h)
value_from_outcome form first_fault b (Err r) h e = absurd (no_fault (first_fault b) r e h)

-- ---- types over another

pub through_gives_single : {A B : Type 0} (inside : B → A) (same : A → A → Type 0) (gives : Outcome A → Type 0)
    → GivesSingle same gives → GivesSingle (λ v w. same (inside v) (inside w)) (Through inside gives)
through_gives_single inside same gives single (Ok v) (Ok w) h k = single (Ok (inside v)) (Ok (inside w)) h k
through_gives_single inside same gives single (Ok v) (Err s) h k = single (Ok (inside v)) (Err s) h k
through_gives_single inside same gives single (Err r) (Ok w) h k = single (Err r) (Ok (inside w)) h k
through_gives_single inside same gives single (Err r) (Err s) h k = single (Err r) (Err s) h k

-- if the value inside has one outcome, so have the values that contain it
pub through_single : {A B : Type 0} (inside : B → A) (same : A → A → Type 0) (reads : Cell → Outcome A → Type 0)
    → ReadsSingle same reads → ReadsSingle (λ v w. same (inside v) (inside w)) (ReadsThrough inside reads)
through_single inside same reads single c = through_gives_single inside same (reads c) (single c)

module _ {A : Type 0} (same : A → A → Type 0) (meets : A → Bool) (fault : Refusal)
    (respects : (v w : A) → same v w → meets v ≡ meets w) (gives : Outcome A → Type 0)
    (single : GivesSingle same gives) where
  -- no value that meets the constraint is the same as one that does not
  met_and_unmet : (v w : A) → gives (Ok v) → meets v ≡ true → gives (Ok w) → meets w ≡ false → ⊥
  met_and_unmet v w h m k u = true≢false (sym m ∙ respects v w (single (Ok v) (Ok w) h k) ∙ u)

  constrained_gives_single : GivesSingle same (Constrained meets fault gives)
  constrained_gives_single (Ok v) (Ok w) h k = single (Ok v) (Ok w) h.0 k.0
  constrained_gives_single (Ok v) (Err s) h k = elim k [
    | inl z ↦ single (Ok v) (Err s) h.0 z
    | inr z ↦ met_and_unmet v z.value h.0 h.1 z.given z.fails
  ]
  constrained_gives_single (Err r) (Ok w) h k = elim h [
    | inl y ↦ single (Err r) (Ok w) y k.0
    | inr y ↦ met_and_unmet w y.value k.0 k.1 y.given y.fails
  ]
  constrained_gives_single (Err r) (Err s) h k = elim h [
    | inl y ↦ elim k [ inl z ↦ single (Err r) (Err s) y z | inr z ↦ absurd (single (Err r) (Ok z.value) y z.given) ]
    | inr y ↦ elim k [ inl z ↦ absurd (single (Ok y.value) (Err s) y.given z) | inr z ↦ y.is ∙ sym z.is ]
  ]

-- if there is one outcome, there is one under a constraint that treats values with the same content alike
pub constrained_single : {A : Type 0} (same : A → A → Type 0) (meets : A → Bool) (fault : Refusal)
    → ((v w : A) → same v w → meets v ≡ meets w) → (reads : Cell → Outcome A → Type 0) → ReadsSingle same reads
    → ReadsSingle same (ReadsConstrained meets fault reads)
constrained_single same meets fault respects reads single c =
    constrained_gives_single same meets fault respects (reads c) (single c)

-- ---- boxes and options

-- if the value inside has one outcome, so has the box
pub box_single : {A B : Type 0} (inside : B → A) (same : A → A → Type 0) (reads : Cell → Outcome A → Type 0)
    → ReadsSingle same reads → ReadsSingle (λ v w. same (inside v) (inside w)) (ReadsBox inside reads)
box_single inside same reads single = through_single inside same (NotNull (λ b. reads (Some b)))
    (not_null_single same (λ b. reads (Some b)) (λ b. single (Some b)))

-- if the value inside has one outcome, so has the option
pub option_single : {A : Type 0} (same : A → A → Type 0) (reads : Cell → Outcome A → Type 0) → ReadsSingle same reads
    → ReadsSingle (SameOption same) (ReadsOption reads)
option_single same reads single None (Ok None) (Ok None) h k = tt
option_single same reads single None (Ok None) (Ok (Some w)) h k = absurd k
option_single same reads single None (Ok None) (Err s) h k = absurd k
option_single same reads single None (Ok (Some v)) s h k = absurd h
option_single same reads single None (Err r) s h k = absurd h
option_single same reads single (Some b) (Ok None) s h k = absurd h
option_single same reads single (Some b) (Ok (Some v)) (Ok None) h k = absurd k
option_single same reads single (Some b) (Ok (Some v)) (Ok (Some w)) h k = single (Some b) (Ok v) (Ok w) h k
option_single same reads single (Some b) (Ok (Some v)) (Err s) h k = single (Some b) (Ok v) (Err s) h k
option_single same reads single (Some b) (Err r) (Ok None) h k = absurd k
option_single same reads single (Some b) (Err r) (Ok (Some w)) h k = single (Some b) (Err r) (Ok w) h k
option_single same reads single (Some b) (Err r) (Err s) h k = single (Some b) (Err r) (Err s) h k

-- ---- infinities

module _ {A : Type 0} (w : Width) (same : A → A → Type 0) (reads : Cell → Outcome A → Type 0)
    (single : ReadsSingle same reads) (b : List ℕ) where
  abbrev Forms : Special A → Type 0
  Forms = FormSpecial w (λ v. reads (Some b) (Ok v)) b

  abbrev Refused : Refusal → Type 0
  Refused = RefusedSpecial w (λ f. reads (Some b) (Err f)) b

  one_form : (s t : Special A) → Forms s → Forms t → SameSpecial same s t
  one_form pos_infinity pos_infinity h k = tt
  one_form pos_infinity neg_infinity h k = infinities_apart w (sym h ∙ k)
  one_form pos_infinity (value u) h k = k.0.not_infinity h
  one_form neg_infinity pos_infinity h k = infinities_apart w (sym k ∙ h)
  one_form neg_infinity neg_infinity h k = tt
  one_form neg_infinity (value u) h k = k.0.not_minus_infinity h
  one_form (value v) pos_infinity h k = h.0.not_infinity k
  one_form (value v) neg_infinity h k = h.0.not_minus_infinity k
  one_form (value v) (value u) h k = single (Some b) (Ok v) (Ok u) h.1 k.1

  form_or_refused : (s : Special A) (r : Refusal) → Forms s → Refused r → ⊥
  form_or_refused pos_infinity r h k =
      elim k [ inl z ↦ z.0 (ap length h ∙ infinity_width w) | inr z ↦ z.0.not_infinity h ]
  form_or_refused neg_infinity r h k =
      elim k [ inl z ↦ z.0 (ap length h ∙ minus_infinity_width w) | inr z ↦ z.0.not_minus_infinity h ]
  form_or_refused (value v) r h k = elim k [ inl z ↦ z.0 h.0.width | inr z ↦ single (Some b) (Ok v) (Err r) h.1 z.1 ]

  one_refusal : (r s : Refusal) → Refused r → Refused s → r ≡ s
  one_refusal r s h k = elim h [
    | inl y ↦ elim k [ inl z ↦ y.1 ∙ sym z.1 | inr z ↦ absurd (y.0 z.0.width) ]
    | inr y ↦ elim k [ inl z ↦ absurd (z.0 y.0.width) | inr z ↦ single (Some b) (Err r) (Err s) y.1 z.1 ]
  ]

  one_decoded : {B : Type 0} (view : B → Special A)
      → GivesSingle (λ s t. SameSpecial same (view s) (view t)) (DecodesSpecial w view (reads (Some b)) b)
  one_decoded view (Ok s) (Ok t) h k = one_form (view s) (view t) h k
  one_decoded view (Ok s) (Err f) h k = form_or_refused (view s) f h k
  one_decoded view (Err r) (Ok t) h k = form_or_refused (view t) r k h
  one_decoded view (Err r) (Err f) h k = one_refusal r f h k

-- if the value inside has one outcome, so has the value that may be infinite
pub special_single : {A B : Type 0} (w : Width) (view : B → Special A) (same : A → A → Type 0)
    (reads : Cell → Outcome A → Type 0) → ReadsSingle same reads
    → ReadsSingle (λ s t. SameSpecial same (view s) (view t)) (ReadsSpecial w view reads)
special_single w view same reads single =
    not_null_single (λ s t. SameSpecial same (view s) (view t)) (λ b. DecodesSpecial w view (reads (Some b)) b)
    (λ b. one_decoded w same reads single b view)
