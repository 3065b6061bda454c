-- Laws of reading the rows of a binary COPY whose bytes come in parts.
use Rattle.std.proofs.Common.{◌≡◌, ◌+◌, ◌++◌, ℕ, List, [], ◌∷◌, Option, None, Result, Ok, Err, ap, append-nil, append_assoc}
use Rattle.std.proofs.Common.{arith, length, length-append, refl, subst, sym, ◌∙◌}
use Rattle.pg_base.specs.Cells.{Cell}
use Rattle.pg_tuples.specs.Reading.{EndsInTuple}
use Rattle.pg_tuples.specs.Refusals.{RefusesTupleOf}
use Rattle.pg_tuples.specs.Tuples.{BeginsCopy}
use Rattle.pg_tuples.specs.declared.tuples.TupleFault.{TupleFault}
use Rattle.pg_client.specs.CopyParts.{Awaits, HasTaken, IsTaken, ReadsNext, Refuses, columns_in, count_of, row_count}
use Rattle.pg_client.specs.CopyParts.{stage_of}
use Rattle.pg_client.specs.declared.copy_parts.CopyParts.{CopyParts as Parts}
use Rattle.pg_client.specs.declared.copy_parts.Stage.TheVariants.{Tuples}
use Rattle.pg_client.specs.declared.copy_rows.CopyFault.{CopyFault}
use Rattle.pg_client.specs.declared.copy_rows.CopyFault.TheVariants.{Tuple}
use Rattle.pg_client.specs.declared.row.Row.{Row}

-- one row more is counted
pub one_more : (i j : ℕ) (rows : List (List Cell)) (row : List Cell) → j ≡ row_count (i + 1)
    → i ≡ row_count (length rows) → j ≡ row_count (length (rows ++ row ∷ []))
one_more i j rows row next so_far = let sum = length-append rows (row ∷ []) in omega (arith, next, so_far, sum)

-- the header and these rows were taken
module _ (taken : List ℕ) (rows : List (List Cell)) (parts : Parts) (stage : stage_of parts ≡ Tuples)
    (begun : BeginsCopy rows taken) (count : count_of parts ≡ row_count (length rows)) where
  stays : HasTaken (taken ++ []) rows parts
  stays = (
    subst (λ st. IsTaken st rows (taken ++ [])) (sym stage) (subst (BeginsCopy rows) (sym (append-nil taken)) begun),
    count,
  )

  -- the next tuple is truncated
  pub awaits : (s : List ℕ) → EndsInTuple (length (columns_in parts)) s → ReadsNext taken rows s (Ok None) s parts
  awaits s ends = ([], refl, (stays, subst (λ st. Awaits st (length (columns_in parts)) s) (sym stage) ends))

  -- it is refused
  pub refused : (s : List ℕ) (row : ℕ) (fault : TupleFault) → row ≡ row_count (count_of parts + 1)
      → RefusesTupleOf (length (columns_in parts)) s fault → ReadsNext taken rows s (Err (Tuple row fault)) s parts
  refused s row fault number why = (
    [],
    refl,
    (
      stays,
      subst (λ st. Refuses st (count_of parts) (length (columns_in parts)) s (Tuple row fault)) (sym stage)
          (number, why),
    ),
  )

-- after the header what comes next is that of the COPY
pub after_start : (taken : List ℕ) (rows : List (List Cell)) → rows ≡ [] → taken ≡ [] → (old tuples t new : List ℕ)
    (result : Result (Option Row) CopyFault) (parts : Parts) → old ≡ t ++ tuples
    → ReadsNext t [] tuples result new parts → ReadsNext taken rows old result new parts
after_start taken rows none nothing old tuples t new result parts is next =
    subst (λ r. ReadsNext taken r old result new parts) (sym none)
    (subst (λ s. ReadsNext s [] old result new parts) (sym nothing)
    (t ++ next.0, is ∙ ap (λ s. t ++ s) next.1 ∙ sym (append_assoc t next.0 new), next.2))
