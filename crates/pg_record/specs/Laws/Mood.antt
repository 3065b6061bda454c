-- Laws of the enumerated type "Mood".
use Rattle.std.specs.Prelude.{◌≡◌, None, Some, refl, slice_get}
use Rattle.std.proofs.Common.{sym, ◌∙◌, ap}
use Rattle.postgres_types.specs.Formats.{IsGrammar}
use Rattle.postgres_types.specs.Laws.Plain.{plain_lawful}
use Rattle.postgres_types.specs.Reading.{ReadsSingle}
use Rattle.postgres_types.specs.ReadingBack.{BackKept, IsLawful}
use Rattle.postgres_types.specs.Laws.Reading.{plain_single}
use Rattle.pg_record.specs.Moods.{FormMood, ReadsMood, first_fault_mood, label, members, place, wire_mood}
use Rattle.pg_record.specs.declared.mood.Mood.{Mood}
use Rattle.pg_record.specs.declared.mood.Mood.TheVariants.{Sad, Ok as MoodOk, Happy}

-- each label passes both checks
label_passes : (v : Mood) → first_fault_mood (label v) ≡ None
label_passes Sad = refl
label_passes MoodOk = refl
label_passes Happy = refl

-- no two values have the same label
label_single : (v w : Mood) → label v ≡ label w → v ≡ w
label_single Sad Sad e = refl
label_single Sad MoodOk e = cc
label_single Sad Happy e = cc
label_single MoodOk Sad e = cc
label_single MoodOk MoodOk e = refl
label_single MoodOk Happy e = cc
label_single Happy Sad e = cc
label_single Happy MoodOk e = cc
label_single Happy Happy e = refl

-- each value is at its index among the values
pub placed : (v : Mood) → slice_get members (place v) ≡ Some v
placed Sad = refl
placed MoodOk = refl
placed Happy = refl

-- labels are a grammar
pub mood_grammar : IsGrammar (λ v w. v ≡ w) FormMood first_fault_mood
mood_grammar = record {
  passes = λ b v h. ap first_fault_mood h ∙ label_passes v;
  single = λ b v w h k. label_single v w (sym h ∙ k);
}

-- a cell has at most one outcome
pub mood_single : ReadsSingle (λ v w. v ≡ w) ReadsMood
mood_single = plain_single (λ v w. v ≡ w) FormMood first_fault_mood mood_grammar

-- a mood is read back as itself
pub mood_lawful : IsLawful (λ v w. v ≡ w) ReadsMood wire_mood (BackKept (λ v w. v ≡ w))
mood_lawful = plain_lawful (λ v. v) FormMood first_fault_mood mood_grammar wire_mood (λ v. refl)
