-- What is known of a framed cell that was read as an option.
use Rattle.std.proofs.Common.{◌≡◌, ◌≤◌, ℕ, List, [], ◌∷◌, Some, None, Ok, Err, length, arith, inl, inr, refl, subst}
use Rattle.std.proofs.Common.{sym}
use Rattle.std.proofs.lemmas.Option.{IfSome_then}
use Rattle.std.specs.Prelude.{IfSome}
use Rattle.pg_base.specs.Cells.{Cell, CellsInRow, SpellsAll, SpellsNone}
use Rattle.pg_copy.specs.CellRefusals.{RefusesFront}
use Rattle.pg_copy.specs.Values.{values}
use Rattle.pg_types.specs.Content.{Content}
use Rattle.pg_types.specs.declared.fault.Fault.{Fault}
use Rattle.postgres_types.specs.Faults.{Outcome, refusal_of}
use Rattle.postgres_types.specs.FrameReading.{ReadsFirst, ReadsFrame}
use Rattle.postgres_types.specs.OptionReading.{ReadsOption}

-- bytes that are read as this value were taken
abbrev pub TakesBytes : {A : Type 0} → (Cell → Outcome A → Type 0) → List ℕ → A → List ℕ → Type 0
TakesBytes reads old v new = (bytes : List ℕ) × SpellsAll old (Some bytes ∷ []) new × reads (Some bytes) (Ok v)

module _ {A : Type 0} (reads : Cell → Outcome A → Type 0) (free : Cell → Type 0) (s new : List ℕ) where
  value_first : (v : A) (cs : List Cell) (rest : List ℕ) → length cs ≤ 1 → SpellsAll s cs rest
      → ReadsFirst (ReadsOption reads) free s cs rest (Ok (Some v)) new → TakesBytes reads s v new
  value_first v [] rest few spelled h = absurd h.0
  value_first v (None ∷ cs) rest few spelled h = absurd h.0
  value_first v (Some b ∷ []) rest few spelled h = (b, subst (SpellsAll s (Some b ∷ [])) (sym h.2) spelled, h.0)
  value_first v (Some b ∷ d ∷ cs) rest few spelled h = let no : ⊥ = omega (arith, few) in absurd no

  pub value_taken : (v : A) → ReadsFrame (ReadsOption reads) free s (Ok (Some v)) new → TakesBytes reads s v new
  value_taken v h = value_first v h.cells h.rest h.in_row.1 h.in_row.0 h.holds

none_whole : (s rest : List ℕ) → CellsInRow s 1 [] rest → SpellsNone s
none_whole s rest row =
    elim row.2 [ inl z ↦ absurd (omega (arith, z)) | inr z ↦ subst SpellsNone (sym row.0) z ]

-- the framed cell at the front, of which reading gave a fault, is refused with it
module _ {A : Type 0} (reads : Content → Cell → Outcome A → Type 0) (shows : A → List ℕ → List ℕ → Type 0)
    (ty : Content)
    (free : Cell → Type 0) (s new : List ℕ) (f : Fault) where
  refused_first : (cs : List Cell) (rest : List ℕ) → CellsInRow s 1 cs rest
      → ReadsFirst (ReadsOption (reads ty)) free s cs rest (Err f) new
      → IfSome (refusal_of f) (RefusesFront (values reads shows) ty s)
  refused_first [] rest row h =
      subst (λ o. IfSome o (RefusesFront (values reads shows) ty s)) (sym h.0)
      (inl (none_whole s rest row, refl))
  refused_first (None ∷ cs) rest row h = IfSome_then (refusal_of f) h.0 (λ r q. absurd q)
  refused_first (Some b ∷ []) rest row h = IfSome_then (refusal_of f) h.0 (λ r q. inr (b, rest, row.0, q))
  refused_first (Some b ∷ d ∷ cs) rest row h = let no : ⊥ = omega (arith, row.1) in absurd no

  pub cell_refused : ReadsFrame (ReadsOption (reads ty)) free s (Err f) new
      → IfSome (refusal_of f) (RefusesFront (values reads shows) ty s)
  cell_refused h = refused_first h.cells h.rest h.in_row h.holds

-- what was appended to an empty buffer is a text
pub shown_alone : {A : Type 0} (shows : A → List ℕ → List ℕ → Type 0) (v w : A) (old new text : List ℕ) → w ≡ v
    → old ≡ [] → text ≡ new → shows w old new → shows v [] text
shown_alone shows v w old new text same empty is h =
    subst (λ x. shows x [] text) same (subst (λ s. shows w s text) empty (subst (shows w old) (sym is) h))
