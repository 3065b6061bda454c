-- The columns of a COPY, and why a type is not taken.
use Rattle.std.proofs.Common.{◌≡◌, ℕ, Bool, List, [], ◌∷◌, ◌++◌, Some, None, append-nil, append_assoc, inl}
use Rattle.std.proofs.Common.{inr}
use Rattle.std.proofs.Common.{ap, subst, sym, ◌∙◌}
use Rattle.std.proofs.lemmas.List.Elements.{All-cons, All-nil}
use Rattle.std.specs.List.{All, AllZip}
use Rattle.std.specs.Prelude.{MatchOption}
use Rattle.std.specs.Str.{trim, trim_start}
use Rattle.pg_copy.specs.ColumnTypes.{HasItsType, IsFieldFault, IsFieldOf, IsFieldTypeFault, IsFieldsFault, IsNameFault}
use Rattle.pg_copy.specs.TypeNames.{IsTypeText, between}
use Rattle.pg_copy.specs.Words.{after_name}
use Rattle.pg_copy.specs.declared.columns.Field.{Field}
use Rattle.pg_copy.specs.declared.columns.TypeFault.{TypeFault}
use Rattle.pg_copy.specs.declared.columns.TypeFault.TheVariants as refusal

-- lists

-- one more text is taken, whatever follows
pub taken_more : {X : Type 0} (R : List ℕ → X → Type 0) (whole texts rest : List (List ℕ)) (text : List ℕ)
    (old new : List X) (x : X) → texts ≡ text ∷ rest
    → ((more : List X) → AllZip R texts more → AllZip R whole (old ++ more)) → R text x → new ≡ old ++ x ∷ []
    → (more : List X) → AllZip R rest more → AllZip R whole (new ++ more)
taken_more R whole texts rest text old new x is taken own grown more all =
    let first : AllZip R texts (x ∷ more) = subst (λ l. AllZip R l (x ∷ more)) (sym is) (own, all) in
    let parts : old ++ x ∷ more ≡ new ++ more =
    sym (append_assoc old (x ∷ []) more) ∙ ap (λ l. l ++ more) (sym grown) in
    subst (λ l. AllZip R whole l) parts (taken (x ∷ more) first)

-- nothing follows
pub taken_all : {X : Type 0} (R : List ℕ → X → Type 0) (whole texts : List (List ℕ)) (all : List X) → texts ≡ []
    → ((more : List X) → AllZip R texts more → AllZip R whole (all ++ more)) → AllZip R whole all
taken_all R whole texts all none taken =
    subst (λ l. AllZip R whole l) (append-nil all) (taken [] (subst (λ l. AllZip R l []) (sym none) tt))

-- fields

-- a name that is not taken is not the type of a field
pub field_fault : (text ty name : List ℕ) (is_array : Bool) (fault : TypeFault) → Some ty ≡ after_name (trim_start text)
    → IsTypeText name is_array (trim ty) → None ≡ between 40 41 name → IsNameFault name is_array fault
    → IsFieldFault text fault
field_fault text ty name is_array fault named form plain own =
    subst (λ o. MatchOption o (fault ≡ refusal.Unknown)
    (λ ty. (name : List ℕ) × (is_array : Bool) × IsTypeText name is_array (trim ty)
    × IsFieldTypeFault (between 40 41 name) name is_array fault)) named
    (name, is_array, form, subst (λ o. IsFieldTypeFault o name is_array fault) plain own)

-- the first text is not a field
pub fails_here : (texts rest : List (List ℕ)) (text : List ℕ) (fault : TypeFault) → texts ≡ text ∷ rest
    → IsFieldFault text fault → IsFieldsFault texts fault
fails_here texts rest text fault is own = subst (λ l. IsFieldsFault l fault) (sym is) (inr (inl own))

-- an allocation failed at the first text
pub fails_in_memory : (texts rest : List (List ℕ)) (text : List ℕ) (fault : TypeFault) → texts ≡ text ∷ rest
    → fault ≡ refusal.Memory → IsFieldsFault texts fault
fails_in_memory texts rest text fault is own = subst (λ l. IsFieldsFault l fault) (sym is) (inl own)

-- a text after the first is not a field
pub fails_later : (texts rest : List (List ℕ)) (text : List ℕ) (field : Field) (fault : TypeFault) → texts ≡ text ∷ rest
    → IsFieldOf text field → IsFieldsFault rest fault → IsFieldsFault texts fault
fails_later texts rest text field fault is own later =
    subst (λ l. IsFieldsFault l fault) (sym is) (inr (inr ((field, own), later)))

-- each field has its Postgres type
pub all_typed : (texts : List (List ℕ)) (fields : List Field) → AllZip IsFieldOf texts fields → All HasItsType fields
all_typed [] [] all = All-nil HasItsType
all_typed [] (field ∷ fields) all = absurd all
all_typed (text ∷ texts) [] all = absurd all
all_typed (text ∷ texts) (field ∷ fields) all =
    All-cons HasItsType field fields all.0.6.2 (all_typed texts fields all.1)
