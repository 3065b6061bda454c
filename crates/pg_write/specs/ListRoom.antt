-- How much room writing a list takes.
use Rattle.std.specs.Prelude.{ℕ, ◌+◌, List, Bool}
use Rattle.std.specs.List.{AllByRecursion}
use Rattle.pg_types.specs.Content.{Content}
use Rattle.pg_base.specs.Appending.{Wire}
use Rattle.pg_write.specs.ParamWriting.{frames_len}
use Rattle.pg_write.specs.Writing.{HasCell}

-- how many bytes the header of an array of one dimension takes
abbrev pub head_len : ℕ
head_len = 20

-- how many bytes an array takes: its header, and the frames of its elements
abbrev pub array_len : {A : Type 0} → (A → Wire) → List A → ℕ
array_len wire vs = head_len + frames_len wire vs

-- the list has a cell for each type that is accepted, and each value needs only the room of its own. Where an element
-- is refused, memory may run out before it
abbrev pub ListByRoom : {A : Type 0} → (A → Type 0) → (Content → Bool) → (Content → List A → Wire) → List A → Type 0
ListByRoom by_room accepted wire vs = AllByRecursion by_room vs × HasCell accepted wire vs
