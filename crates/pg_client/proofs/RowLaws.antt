-- Laws of rows: what was passed over and taken, as reading a column or the end of a row.
use Rattle.std.proofs.Common.{◌≡◌, ◌+◌, ◌≤◌, ℕ, List, [], ◌∷◌, ◌++◌, Option, Some, length, arith, inl, inr, refl}
use Rattle.std.proofs.Common.{ap, subst, sym, length-append}
use Rattle.std.proofs.lemmas.Option.{slice_get_past}
use Rattle.std.specs.Prelude.{IfNone, IfSome, Result, slice_get}
use Rattle.pg_base.specs.Cells.{Cell, SpellsAll, SpellsNone, Spells}
use Rattle.pg_types.specs.Faults.{Outcome, size}
use Rattle.pg_client.specs.Places.{AnswersAt, NeverMemoryAt, RefusesAt, column_place, name_of_column}
use Rattle.pg_client.specs.Rows.{ReadsCell, ReadsColumn, ReadsFront}
use Rattle.pg_client.specs.declared.column.Column.{Column}
use Rattle.pg_client.specs.declared.placed_fault.Place.TheVariants as place
use Rattle.pg_client.specs.declared.placed_fault.PlacedFault.{PlacedFault}
use Rattle.pg_base.proofs.CellRows.{spelled_more}

-- what holds of the value that is there
pub if_some : {A : Type 0} (o : Option A) (x : A) (P : A → Type 0) → o ≡ Some x → P x → IfSome o P
if_some o x P e h = subst (λ o. IfSome o P) (sym e) h

-- where a value is there, what holds where none is
pub if_none : {A : Type 0} (o : Option A) (x : A) (P : Type 0) → o ≡ Some x → IfNone o P
if_none o x P e = subst (λ o. IfNone o P) (sym e) tt

-- the place of a column that is there
pub place_at : (columns : List Column) (n : ℕ) (column : Column) → slice_get columns n ≡ Some column
    → column_place columns n ≡ place.Column n column.name
place_at columns n column e = ap (λ o. place.Column n (name_of_column o)) e

-- one cell after so many
pub one_more : (s u t rest : List ℕ) (cs : List Cell) (c : Cell) → SpellsAll s cs u → u ≡ t ++ rest → Spells t c
    → SpellsAll s (cs ++ c ∷ []) rest
one_more s u t rest cs c before is spells =
    spelled_more s u rest cs (c ∷ []) before
    (record { front = t; rest = rest; is = is; spells = spells; rest_spells = refl })

last : {A : Type 0} (xs : List A) (x : A) → slice_get (xs ++ x ∷ []) (length xs) ≡ Some x
last [] x = refl
last (y ∷ xs) x = last xs x

module _ {A : Type 0} (n : ℕ) (columns : List Column) (reads : Cell → Outcome A → Type 0) (free : Cell → Type 0)
    (s : List ℕ)
    (result : Result A PlacedFault) where
  -- the cell after those of the columns before is that of the column
  pub column_read : (cs : List Cell) (c : Cell) (rest : List ℕ) → length cs ≡ n → SpellsAll s (cs ++ c ∷ []) rest
      → AnswersAt (column_place columns n) (reads c) result → (free c → NeverMemoryAt result)
      → ReadsColumn n columns reads free s result
  column_read cs c rest many spelled answers never =
      let all : length (cs ++ c ∷ []) ≡ n + 1 = omega (arith, many, length-append cs (c ∷ [])) in
      let at : slice_get (cs ++ c ∷ []) n ≡ Some c =
      subst (λ k. slice_get (cs ++ c ∷ []) k ≡ Some c) many (last cs c) in
      record {
        cells = cs ++ c ∷ [];
        rest = rest;
        in_row = (spelled, omega (arith, all), inl (omega (arith, all)));
        holds = subst (λ o. ReadsCell n columns reads free o (length (cs ++ c ∷ [])) result) (sym at) (answers, never);
      }

  -- where a cell up to that of the column is truncated
  pub column_truncated : (cs : List Cell) (rest : List ℕ) → length cs ≤ n → SpellsAll s cs rest → SpellsNone rest
      → RefusesAt (column_place columns (length cs)) size result
      → ReadsColumn n columns reads free s result
  column_truncated cs rest few spelled none refused = record {
    cells = cs;
    rest = rest;
    in_row = (spelled, omega (arith, few), inr none);
    holds = subst (λ o. ReadsCell n columns reads free o (length cs) result) (sym (slice_get_past cs n few)) refused;
  }

  -- the cell after those of the columns before is that of the column, or truncated
  pub front_read : (cs : List Cell) (rest : List ℕ) → length cs ≡ n → SpellsAll s cs rest
      → ReadsFront (column_place columns n) reads free rest result → ReadsColumn n columns reads free s result
  front_read cs rest many before front = elim front [
    | inl f ↦
        column_read cs f.0 f.1 many (spelled_more s rest f.1 cs (f.0 ∷ []) before f.2) f.3 f.4
    | inr f ↦
        column_truncated cs rest (omega (arith, many)) before f.0
        (subst (λ k. RefusesAt (column_place columns k) size result) (sym many) f.1)
  ]
