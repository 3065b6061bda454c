-- What was read and written again.
use Rattle.std.proofs.Common.{◌≡◌, ℕ, List, Some, None, Result, Ok, Err, sym, ◌∙◌, subst, inl, inr}
use Rattle.std.specs.Prelude.{◌⊎◌}
use Rattle.std.proofs.lemmas.Option.{IfSome_then}
use Rattle.pg_types.specs.declared.fault.Fault.{Fault}
use Rattle.pg_types.specs.declared.format.IsNull.{IsNull}
use Rattle.pg_types.specs.declared.format.IsNull.TheVariants.{Yes, No}
use Rattle.pg_base.specs.Appending.{Wire}
use Rattle.pg_base.specs.Cells.{Cell}
use Rattle.pg_types.specs.Faults.{Refusal, Outcome, refusal_of}
use Rattle.pg_read.specs.Reading.{ReadsSingle}
use Rattle.pg_write.specs.Writing.{Writes}
use Rattle.postgres_types.specs.Laws.Back.{kept}
use Rattle.postgres_types.specs.ReadingBack.{IsLawful, WritesCell}
use Rattle.postgres_types.specs.Rewriting.{IsCellOf, IsRewrittenAsItself}

module _ {A : Type 0} (same : A → A → Type 0) (reads : Cell → Outcome A → Type 0) (wire : A → Wire)
    (back : A → Outcome A → Type 0)
    (law : IsLawful same reads wire back) (single : ReadsSingle same reads) where
  module _ (c : Cell) (u : A) (read : reads c (Ok u)) where
    cell_of_same : (v : A) (d : Cell) → reads c (Ok v) → wire u ≡ Ok d → IsCellOf reads wire v d
    cell_of_same v d h e =
        let is : wire v ≡ Ok d = law.same_wire v u (single c (Ok v) (Ok u) h read) ∙ e in
        (is, kept same reads wire back law c v d h is)

    not_refused : (d : Cell) → wire u ≡ Ok d → (r : Refusal)
        → (reads d (Err r) ⊎ ((v : A) × reads d (Ok v) × (wire v ≡ Err r))) → Ok d ≡ Err r
    not_refused d e r h = elim h [
      | inl z ↦ absurd (single d (Ok u) (Err r) (kept same reads wire back law c u d read e) z)
      | inr z ↦ sym e ∙ law.same_wire u z.0 (single d (Ok u) (Ok z.0) (kept same reads wire back law c u d read e) z.1)
          ∙ z.2
    ]

    itself : (d : Cell) → wire u ≡ Ok d → IsRewrittenAsItself reads wire d
    itself d e old new (Ok null) h =
        subst (λ w. Writes w old new (Ok null))
        (law.same_wire h.0 u (single d (Ok h.0) (Ok u) h.1 (kept same reads wire back law c u d read e)) ∙ e) h.2
    itself d e old new (Err f) h = (h.0, IfSome_then (refusal_of f) h.1 (not_refused d e))

    -- the cell that is written is the written form of what was read, and reads as it
    pub written : (v : A) (old new : List ℕ) (result : Result IsNull Fault) → reads c (Ok v)
        → Writes (wire u) old new result → WritesCell (IsCellOf reads wire v) old new result
    written v old new (Ok No) h w = (w.0, w.2, cell_of_same v (Some w.0) h w.1)
    written v old new (Ok Yes) h w = (w.1, cell_of_same v None h w.0)
    written v old new (Err f) h w = tt

    -- and is rewritten as itself
    pub again : (old new : List ℕ) (result : Result IsNull Fault) → Writes (wire u) old new result
        → WritesCell (IsRewrittenAsItself reads wire) old new result
    again old new (Ok No) w = (w.0, w.2, itself (Some w.0) w.1)
    again old new (Ok Yes) w = (w.1, itself None w.0)
    again old new (Err f) w = tt
