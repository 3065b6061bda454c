-- Why a cell has no text.
use Rattle.std.specs.Prelude.{◌≡◌, ◌⊎◌, ℕ, Bool, true, false, List, [], ◌∷◌, Some, IfSome, Err, codes}
use Rattle.pg_base.specs.ArrayTypes.{accepted_list}
use Rattle.pg_base.specs.Cells.{SpellsAll, SpellsNone}
use Rattle.pg_types.specs.Content.{Content}
use Rattle.pg_types.specs.Faults.{Refusal, refusal_of, size, wrong_type}
use Rattle.pg_types.specs.declared.fault.Fault.{Fault}
use Rattle.pg_copy.specs.Values.{Values, values}

-- the bytes are refused as those of a value, with this refusal
abbrev pub RefusesBytes : Values → Content → List ℕ → Refusal → Type 0
RefusesBytes (values reads shows) ty bytes refusal = reads ty (Some bytes) (Err refusal)

-- the framed cell at the front has no text, with this refusal of its bytes
abbrev pub RefusesCell : Values → Content → List ℕ → Refusal → Type 0
RefusesCell own ty s refusal =
    (bytes rest : List ℕ) × SpellsAll s (Some bytes ∷ []) rest × RefusesBytes own ty bytes refusal

-- the framed cell at the front is truncated, or has no text
abbrev pub RefusesFront : Values → Content → List ℕ → Refusal → Type 0
RefusesFront own ty s refusal = (SpellsNone s × (refusal ≡ size)) ⊎ RefusesCell own ty s refusal

-- whether a type has such values, or arrays of them
abbrev pub accepted_in_form : Bool → (Content → Bool) → Content → Bool
accepted_in_form false accepted = accepted
accepted_in_form true accepted = accepted_list accepted

-- the refusal of a type that has no such values
abbrev pub RefusesType : Content → Refusal → Type 0
RefusesType ty refusal = refusal ≡ wrong_type ty (codes "Option")

-- no text was appended, because the type has no such values, or because of the framed cell at the front
abbrev pub RefusesAs : Values → Content → List ℕ → Refusal → Type 0
RefusesAs own ty s refusal = RefusesType ty refusal ⊎ RefusesFront own ty s refusal

-- a fault that is a refusal is one of these
abbrev pub CellFault : Values → Content → List ℕ → Fault → Type 0
CellFault (values reads shows) ty s fault = IfSome (refusal_of fault) (RefusesAs (values reads shows) ty s)
