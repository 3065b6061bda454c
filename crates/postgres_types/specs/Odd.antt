-- The rules of the types of the module `odd`.
use Rattle.std.specs.Prelude.{◌≡◌, ◌%◌, ◌==◌, ℕ, ℤ, List, [], ◌∷◌, length, Bool, Option, Some, None, codes}
use Rattle.std.specs.Prelude.{unsigned_abs, refl}
use Rattle.std.proofs.lemmas.Bool.{eq-eqb}
use Rattle.std.specs.Int.{w32}
use Rattle.pg_types.specs.Faults.{Refusal, user}
use Rattle.pg_base.proofs.FormatLaws.{be-length, int4_grammar}
use Rattle.pg_base.specs.Formats.{IsGrammar, first_fault_of}
use Rattle.pg_base.specs.Numbers.{FormSigned}
use Rattle.postgres_types.specs.Laws.Plain.{under_checks}
use Rattle.postgres_types.specs.declared.odd.Gap.{Gap}
use Rattle.postgres_types.specs.declared.odd.Gap.TheVariants.{Hole, Full}

-- Short: any other length than 4 is User with the text "width"
abbrev pub first_fault_short : List ℕ → Option Refusal
first_fault_short b = first_fault_of ((length b == 4, user (codes "width")) ∷ [])

pub short_grammar : IsGrammar (λ v w. v ≡ w) (FormSigned w32) first_fault_short
short_grammar = under_checks int4_grammar first_fault_short
    (λ b v h. rw (eq-eqb (length b) 4 (be-length w32 b v h)) refl)

-- Gap: no number, or one
abbrev pub gap_view : Gap → Option ℤ
gap_view Hole = None
gap_view (Full v) = Some v

-- Picky: the numbers that are written
abbrev pub is_even : ℤ → Bool
is_even z = unsigned_abs z % 2 == 0
