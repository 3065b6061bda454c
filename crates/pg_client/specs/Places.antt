-- Faults and their places, and the texts of places.
use Rattle.std.specs.Prelude.{◌≡◌, ℕ, ◌+◌, List, ◌++◌, Option, Some, None, Result, Ok, Err, IfSome, IsSome, codes}
use Rattle.std.specs.Prelude.{slice_get}
use Rattle.std.specs.Fmt.{decimal}
use Rattle.arrayvec.specs.ArrayString.{ArrayString}
use Rattle.pg_types.specs.Faults.{Outcome, Refusal, refusal_of}
use Rattle.pg_client.specs.declared.column.Column.{Column as ResultColumn}
use Rattle.pg_client.specs.declared.placed_fault.Place.{Place}
use Rattle.pg_client.specs.declared.placed_fault.Place.TheVariants.{Row, Columns, Column, Bind, Parameters, Parameter}
use Rattle.pg_client.specs.declared.placed_fault.PlacedFault.{PlacedFault}

-- the name of a column in quotes, if it has one
abbrev pub quoted_name : Option ArrayString → List ℕ
quoted_name None = codes ""
quoted_name (Some name) = codes " \"" ++ (name.bytes ++ codes "\"")

-- the text of a place: columns and parameters are counted from 1
abbrev pub place_text : Place → List ℕ
place_text Row = codes "row"
place_text (Columns expected got) =
    codes "row (expected " ++ (decimal expected ++ (codes " columns, got " ++ (decimal got ++ codes ")")))
place_text (Column place name) = codes "column " ++ (decimal (place + 1) ++ quoted_name name)
place_text Bind = codes "bind"
place_text (Parameters expected got) =
    codes "bind (expected " ++ (decimal expected ++ (codes " parameters, got " ++ (decimal got ++ codes ")")))
place_text (Parameter place) = codes "parameter " ++ decimal (place + 1)

-- the name of a column, if there is one and it has one
abbrev pub name_of_column : Option ResultColumn → Option ArrayString
name_of_column None = None
name_of_column (Some column) = column.name

-- the place of a column
abbrev pub column_place : List ResultColumn → ℕ → Place
column_place columns place = Column place (name_of_column (slice_get columns place))

-- the fault is this one, at this place
abbrev pub IsFaultAt : Place → Refusal → PlacedFault → Type 0
IsFaultAt place r f = (f.place ≡ place) × (refusal_of f.fault ≡ Some r)

-- the result is this fault, at this place
abbrev pub RefusesAt : {A : Type 0} → Place → Refusal → Result A PlacedFault → Type 0
RefusesAt place r (Ok v) = ⊥
RefusesAt place r (Err f) = IsFaultAt place r f

-- the result is an outcome that R allows, a fault being at this place, unless memory ran out
abbrev pub AnswersAt : {A : Type 0} → Place → (Outcome A → Type 0) → Result A PlacedFault → Type 0
AnswersAt place R (Ok v) = R (Ok v)
AnswersAt place R (Err f) = (f.place ≡ place) × IfSome (refusal_of f.fault) (λ r. R (Err r))

-- the result is not Memory
abbrev pub NeverMemoryAt : {A : Type 0} → Result A PlacedFault → Type 0
NeverMemoryAt (Ok v) = Unit {0}
NeverMemoryAt (Err f) = IsSome (refusal_of f.fault)
