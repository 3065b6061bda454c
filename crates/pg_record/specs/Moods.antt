-- The enumerated type "Mood" with the labels Sad, Ok and Happy (enum_send, enum_recv).
use Rattle.std.specs.Prelude.{◌≡◌, ℕ, List, [], ◌∷◌, Bool, Option, Some, Ok, codes}
use Rattle.postgres_types.specs.Appending.{Wire}
use Rattle.postgres_types.specs.Cells.{Cell}
use Rattle.postgres_types.specs.Content.{Content}
use Rattle.postgres_types.specs.Enums.{first_fault_label, is_enum}
use Rattle.postgres_types.specs.Faults.{Outcome, Refusal}
use Rattle.postgres_types.specs.Formats.{ReadsPlain}
use Rattle.pg_record.specs.declared.mood.Mood.{Mood}
use Rattle.pg_record.specs.declared.mood.Mood.TheVariants.{Sad, Ok as MoodOk, Happy}

-- the label of a value
abbrev pub label : Mood → List ℕ
label Sad = codes "Sad"
label MoodOk = codes "Ok"
label Happy = codes "Happy"

-- the labels
abbrev pub labels : List (List ℕ)
labels = label Sad ∷ label MoodOk ∷ label Happy ∷ []

-- the values, in the order of their labels
abbrev pub members : List Mood
members = Sad ∷ MoodOk ∷ Happy ∷ []

-- the index of the label of a value
abbrev pub place : Mood → ℕ
place Sad = 0
place MoodOk = 1
place Happy = 2

-- the type is named Mood, whatever its schema, and is an enumerated type with these labels, in any order
abbrev pub is_mood : Content → Bool
is_mood = is_enum (codes "Mood") labels

-- the bytes are the value's label
abbrev pub FormMood : List ℕ → Mood → Type 0
FormMood b v = b ≡ label v

-- bytes that are not UTF-8 are Utf8, and a text that is not a label is User
abbrev pub first_fault_mood : List ℕ → Option Refusal
first_fault_mood = first_fault_label labels

-- what a cell reads as
abbrev pub ReadsMood : Cell → Outcome Mood → Type 0
ReadsMood = ReadsPlain FormMood first_fault_mood

-- what a value is written as: its label
abbrev pub wire_mood : Mood → Wire
wire_mood v = Ok (Some (label v))
