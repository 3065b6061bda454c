-- What a value is written as, and what a write leaves in the buffer.
use Rattle.std.specs.Prelude.{◌≡◌, ℕ, ◌<◌, List, ◌++◌, length, Bool, Some, None, Result, Ok, Err}
use Rattle.std.specs.Prelude.{IfSome, IfNone, IsOk, IsTrue, if◌then◌else◌}
use Rattle.pg_base.specs.Appending.{Wire}
use Rattle.pg_types.specs.Content.{Content}
use Rattle.pg_types.specs.Faults.{Refusal, refusal_of, wrong_type}
use Rattle.pg_types.specs.declared.fault.Fault.{Fault}
use Rattle.pg_types.specs.declared.format.IsNull.{IsNull}
use Rattle.pg_types.specs.declared.format.IsNull.TheVariants.{Yes, No}

-- what checked writing writes: the written form for a type that is accepted, and for another type WrongType, with the
-- type and the name of the Rust type
abbrev pub checked : {A : Type 0} → (Content → Bool) → List ℕ → (Content → A → Wire) → Content → A → Wire
checked accepted rust wire ty v = if accepted ty then wire ty v else Err (wrong_type ty rust)

-- the fault is WrongType, with the type and the name of the Rust type, or memory ran out
abbrev pub IsWrongType : Content → List ℕ → Fault → Type 0
IsWrongType ty rust f = IfSome (refusal_of f) (λ r. r ≡ wrong_type ty rust)

-- a write that returned No appended the bytes of the cell. One that returned Yes, for NULL, or the fault of the written
-- form, or Memory, left the bytes as they were
abbrev pub Writes : Wire → List ℕ → List ℕ → Result IsNull Fault → Type 0
Writes w old new (Ok No) = (b : List ℕ) × (w ≡ Ok (Some b)) × (new ≡ old ++ b)
Writes w old new (Ok Yes) = (w ≡ Ok None) × (new ≡ old)
Writes w old new (Err f) = (new ≡ old) × IfSome (refusal_of f) (λ r. w ≡ Err r)

-- how many bytes a written form appends
abbrev pub appended_len : Wire → ℕ
appended_len (Ok None) = 0
appended_len (Ok (Some b)) = length b
appended_len (Err r) = 0

-- the room rule: the result is Memory only if there was less room than the bytes to append
abbrev pub KeepsRoomRule : Wire → ℕ → Result IsNull Fault → Type 0
KeepsRoomRule w room (Ok null) = Unit {0}
KeepsRoomRule w room (Err f) = IfNone (refusal_of f) (room < appended_len w)

-- the value has a cell for each type that is accepted
abbrev pub HasCell : {A : Type 0} → (Content → Bool) → (Content → A → Wire) → A → Type 0
HasCell accepted wire v = (ty : Content) → IsTrue (accepted ty) → IsOk (wire ty v)

-- under a constraint: a value that meets it is written as without it, and another is refused with the fault of the
-- constraint
abbrev pub wire_constrained : {A : Type 0} → (A → Bool) → Refusal → (A → Wire) → A → Wire
wire_constrained meets fault wire v = if meets v then wire v else Err fault
