-- Lemmas on answers' texts.
use Rattle.std.proofs.Common.{◌≡◌, ℕ, List, ◌++◌, Option, Some, None, Result, Ok, Err, IfSome, ◌⊎◌, inl, inr, refl, sym}
use Rattle.postgres_types.specs.Cells.{Cell}
use Rattle.postgres_types.specs.Faults.{Outcome, Refusal, refusal_of}
use Rattle.postgres_types.specs.Appending.{Wire}
use Rattle.postgres_types.specs.Rewriting.{Rewrites}
use Rattle.pg_types.specs.declared.fault.Fault.{Fault}
use Rattle.pg_types.specs.declared.format.IsNull.{IsNull}
use Rattle.pgcell.specs.Norm.{AppendsRefusal, WritesOf, norm_text}
use Rattle.pgcell.specs.Rewritten.{RewrittenTo}

-- what rewriting a cell answers is one of the written forms that the cell is rewritten to
pub writes_rewritten : {A : Type 0} (reads : Cell → Outcome A → Type 0) (wire : A → Wire) (cell : Cell)
    (old new : List ℕ) (result : Result IsNull Fault)
    → Rewrites reads wire cell old new result → WritesOf (RewrittenTo reads wire cell) old new result
writes_rewritten reads wire cell old new (Ok null) h = (wire h.0, inr (h.0, h.1, refl), h.2)
writes_rewritten reads wire cell old new (Err f) h = (h.0, refused (refusal_of f) h.1) where
  refused : (told : Option Refusal) → IfSome told
      (λ r. reads cell (Err r) ⊎ ((v : _) × reads cell (Ok v) × (wire v ≡ Err r)))
      → IfSome told (λ r. RewrittenTo reads wire cell (Err r))
  refused None h = tt
  refused (Some r) h = elim h [ inl read ↦ inl (r, read, refl) | inr value ↦ inr (value.0, value.1, sym value.2) ]

-- the text of a refusal answers, where it is one of the written forms
pub refusal_answers : (P : Wire → Type 0) (refusal : Option Refusal) (old new : List ℕ)
    → IfSome refusal (λ r. P (Err r)) → AppendsRefusal refusal old new
    → (text : List ℕ) × ((v : Wire) × P v × (text ≡ norm_text v)) × (new ≡ old ++ text)
refusal_answers P None old new p prints = absurd prints
refusal_answers P (Some r) old new p prints = (norm_text (Err r), (Err r, p, refl), prints)
