-- What is known of the cell of arrays of a composite type, which is taken as bytes.
use Rattle.std.proofs.Common.{ℕ, List, [], ◌∷◌, Option, Some, None, Ok, Err, inl, inr, length}
use Rattle.std.proofs.Common.{subst, sym}
use Rattle.std.proofs.Common.{◌≤◌, arith}
use Rattle.std.proofs.lemmas.Option.{IfSome_then}
use Rattle.std.specs.Borrow.{Bor}
use Rattle.std.specs.Global.{Global}
use Rattle.std.specs.Prelude.{IfErr, IfOk, Result, Vec}
use Rattle.pg_base.specs.Cells.{Cell, SpellsAll}
use Rattle.pg_copy.proofs.CellTexts.{cell_refused}
use Rattle.pg_copy.specs.CellRefusals.{CellFault, RefusesFront}
use Rattle.pg_copy.specs.Composites.{ReadsBytesOfEach, records_values}
use Rattle.pg_copy.specs.Values.{values}
use Rattle.pg_copy.specs.declared.columns.Field.{Field}
use Rattle.pg_text.specs.Texts.{AnyText}
use Rattle.pg_types.specs.Content.{Content}
use Rattle.pg_types.specs.declared.fault.Fault.{Fault}
use Rattle.postgres_types.specs.Faults.{Refusal, refusal_of}
use Rattle.postgres_types.specs.FrameReading.{ReadsFirst, ReadsFrame}
use Rattle.postgres_types.specs.OptionReading.{ReadsOption}

-- an array of BYTEA that was taken
module _ (free : Cell → Type 0) (s new : List ℕ) where
  list_first : (o : Option (Vec (Option (Bor (List ℕ))) Global)) (cs : List Cell) (rest : List ℕ) → length cs ≤ 1
      → SpellsAll s cs rest → ReadsFirst (ReadsOption ReadsBytesOfEach) free s cs rest (Ok o) new
      → (cell : Cell) × SpellsAll s (cell ∷ []) new × ReadsOption ReadsBytesOfEach cell (Ok o)
  list_first o [] rest few spelled h = absurd h.0
  list_first None (None ∷ []) rest few spelled h = (None, subst (SpellsAll s (None ∷ [])) (sym h.2) spelled, h.0)
  list_first None (Some b ∷ []) rest few spelled h = absurd h.0
  list_first (Some v) (None ∷ []) rest few spelled h = absurd h.0
  list_first (Some v) (Some b ∷ []) rest few spelled h =
      (Some b, subst (SpellsAll s (Some b ∷ [])) (sym h.2) spelled, h.0)
  list_first o (c ∷ d ∷ cs) rest few spelled h = let no : ⊥ = omega (arith, few) in absurd no

  pub list_taken : (result : Result (Option (Vec (Option (Bor (List ℕ))) Global)) Fault)
      → ReadsFrame (ReadsOption ReadsBytesOfEach) free s result new
      → IfOk result (λ o. (cell : Cell) × SpellsAll s (cell ∷ []) new × ReadsOption ReadsBytesOfEach cell (Ok o))
  list_taken (Ok o) h = list_first o h.cells h.rest h.in_row.1 h.in_row.0 h.holds
  list_taken (Err f) h = tt

  any_front : (fields : List Field) (ty : Content) (r : Refusal)
      → RefusesFront (values (λ _. ReadsBytesOfEach) AnyText) ty s r → RefusesFront (records_values fields) ty s r
  any_front fields ty r (inl q) = inl q
  any_front fields ty r (inr (b, rest, spelled, q)) = inr (b, rest, spelled, inl (inl q))

  pub list_refused : (result : Result (Option (Vec (Option (Bor (List ℕ))) Global)) Fault)
      → ReadsFrame (ReadsOption ReadsBytesOfEach) free s result new
      → (fields : List Field) (ty : Content) → IfErr result (CellFault (records_values fields) ty s)
  list_refused (Ok o) h fields ty = tt
  list_refused (Err f) h fields ty =
      IfSome_then (refusal_of f) (cell_refused (λ _. ReadsBytesOfEach) AnyText ty free s new f h)
      (λ r q. inr (any_front fields ty r q))
