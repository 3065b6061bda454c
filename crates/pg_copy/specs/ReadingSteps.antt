-- How a binary COPY is read, one part after another.
use Rattle.std.specs.Prelude.{◌≡◌, ◌≢◌, ◌<◌, ℕ, List, [], ◌∷◌, ◌++◌, length, Option, Some, None}
use Rattle.pg_base.specs.Cells.{Cell, SpellsAll}
use Rattle.pg_copy.specs.Lines.{FieldOf, IsLineOf}
use Rattle.pg_copy.specs.Outputs.{Gains}
use Rattle.pg_copy.specs.Refusals.{HeaderRefused, TupleRefused, next_row, row_count}
use Rattle.pg_copy.specs.Rows.{BeginsWithRows, IsCopyOf}
use Rattle.pg_copy.specs.Values.{ShowsCell, Values}
use Rattle.pg_types.specs.Content.{Content}
use Rattle.pg_copy.specs.declared.columns.Column.{Column}
use Rattle.pg_copy.specs.declared.copy_fault.CopyFault.{CopyFault}
use Rattle.pg_copy.specs.declared.copy_fault.CopyFault.TheVariants.{Trailing}
use Rattle.pg_copy.specs.declared.read.Place.{Place}
use Rattle.pg_copy.specs.declared.read.Place.TheVariants.{Header, Extension, Tuples, End}
use Rattle.pg_tuples.specs.Reading.{AwaitsExtension, EndsInHeader, EndsInTuple}

-- NULL has no text, and bytes have that of a value that they are read as
abbrev pub HasText : Values → Content → Cell → Option (List ℕ) → Type 0
HasText own ty None text = text ≡ None
HasText own ty (Some bytes) None = ⊥
HasText own ty (Some bytes) (Some text) = ShowsCell own ty bytes text

-- the framed cell at the front, which has this text, was taken
abbrev pub TakesText : Values → Content → List ℕ → Option (List ℕ) → List ℕ → Type 0
TakesText own ty old text new = (cell : Cell) × SpellsAll old (cell ∷ []) new × HasText own ty cell text

-- the framed cell at the front was taken, and its field appended
abbrev pub TakesField : Column → List ℕ → List ℕ → List ℕ → List ℕ → Type 0
TakesField column old new lines longer =
    (cell : Cell) × SpellsAll old (cell ∷ []) new × Gains (FieldOf column cell) lines longer

-- the frames of the cells of a row were taken, and its line was appended
abbrev pub TakesRow : List Column → List ℕ → List ℕ → List ℕ → List ℕ → Type 0
TakesRow columns old new lines longer =
    (row : List Cell) × SpellsAll old row new × Gains (IsLineOf columns row) lines longer

-- the line of the row whose cells have these frames was appended
abbrev pub AddsRow : List Column → List ℕ → List ℕ → List ℕ → Type 0
AddsRow columns frames lines longer = (rest : List ℕ) × TakesRow columns frames rest lines longer

-- what was read so far, with this number of rows, and their lines
abbrev pub HasRead : List Column → Place → ℕ → List ℕ → List ℕ → Type 0
HasRead columns Header count s lines = (s ≡ []) × (lines ≡ []) × (count ≡ 0)
HasRead columns (Extension len) count s lines = AwaitsExtension len s × (lines ≡ []) × (count ≡ 0)
HasRead columns Tuples count s lines =
    (rows : List (List Cell)) × BeginsWithRows columns rows s lines × (count ≡ row_count (length rows))
HasRead columns End count s lines = IsCopyOf columns s lines

-- bytes were taken from the front, the lines of their rows were appended, and the next place and number of rows are
-- those after them
abbrev pub Advances : List Column → Place → ℕ → List ℕ → List ℕ → Place → ℕ → List ℕ → List ℕ → Type 0
Advances columns place count old lines next more_count new longer =
    (t gained : List ℕ) × (old ≡ t ++ new) × (longer ≡ lines ++ gained)
    × ((s so_far : List ℕ) → HasRead columns place count s so_far
    → HasRead columns next more_count (s ++ t) (so_far ++ gained))

-- if the header is to come, the bytes end before its extension
abbrev pub AwaitsHeader : Place → List ℕ → Type 0
AwaitsHeader Header s = EndsInHeader s
AwaitsHeader place s = Unit {0}

-- if a part of the header extension is to come, no byte is left
abbrev pub AwaitsMore : Place → List ℕ → Type 0
AwaitsMore Header s = EndsInHeader s
AwaitsMore (Extension len) s = (0 < len) × (s ≡ [])
AwaitsMore place s = Unit {0}

-- what is to come is not complete at the front, and nothing follows the trailer
abbrev pub Awaits : List Column → Place → List ℕ → Type 0
Awaits columns Header s = EndsInHeader s
Awaits columns (Extension len) s = (0 < len) × (s ≡ [])
Awaits columns Tuples s = EndsInTuple (length columns) s
Awaits columns End s = s ≡ []

-- the bytes in place of what is to come, after this number of rows, are refused with this fault
abbrev pub StopsAt : List Column → Place → ℕ → List ℕ → CopyFault → Type 0
StopsAt columns Header rows s fault = HeaderRefused s fault
StopsAt columns (Extension len) rows s fault = ⊥
StopsAt columns Tuples rows s fault = TupleRefused (next_row rows) columns s fault
StopsAt columns End rows s fault = (fault ≡ Trailing) × (s ≢ [])
