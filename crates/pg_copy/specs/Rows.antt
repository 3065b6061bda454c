-- A binary COPY that is read, and the lines of its rows ("Binary Format" in the documentation of the command COPY).
use Rattle.std.specs.Prelude.{◌≡◌, ◌⊎◌, ℕ, List, [], ◌∷◌, ◌++◌, Option, Some, None, codes}
use Rattle.pg_base.specs.Cells.{Cell}
use Rattle.pg_copy.specs.Lines.{AreLinesOf}
use Rattle.pg_copy.specs.declared.columns.Column.{Column}
use Rattle.pg_tuples.specs.Tuples.{BeginsCopy, trailer}
use Rattle.streams.specs.Lines.{IsOneLine}

-- a header and the tuples of these rows, which have these lines
abbrev pub BeginsWithRows : List Column → List (List Cell) → List ℕ → List ℕ → Type 0
BeginsWithRows columns rows s lines = BeginsCopy rows s × AreLinesOf columns rows lines

-- a header and the tuples of some rows
abbrev pub BeginsRows : List Column → List ℕ → List ℕ → Type 0
BeginsRows columns s lines = (rows : List (List Cell)) × BeginsWithRows columns rows s lines

-- a COPY: a header, the tuples of some rows, and the trailer
abbrev pub IsCopyOf : List Column → List ℕ → List ℕ → Type 0
IsCopyOf columns s lines = (t : List ℕ) × BeginsRows columns t lines × (s ≡ t ++ trailer)

-- there is no line, or the bytes begin with the rows of these lines
abbrev pub StartsCopyOf : List Column → List ℕ → List ℕ → Type 0
StartsCopyOf columns s lines =
    (lines ≡ []) ⊎ ((t rest : List ℕ) × BeginsRows columns t lines × (s ≡ t ++ rest))

-- this holds of the bytes that a reader had, or of some bytes if they are not known
abbrev pub OfInput : Option (List ℕ) → (List ℕ → Type 0) → Type 0
OfInput None Holds = (s : List ℕ) × Holds s
OfInput (Some s) Holds = Holds s

-- the line after a fault: \.fault and a text
abbrev pub IsFaultLine : List ℕ → Type 0
IsFaultLine line = (text : List ℕ) × IsOneLine text × (line ≡ codes "\\.fault" ++ (text ++ 10 ∷ []))
