-- Lines of COPY's text format.
use Rattle.std.specs.Prelude.{◌≡◌, ℕ, List, [], ◌∷◌, ◌++◌, Some, None}
use Rattle.std.specs.List.{join_with_byte}
use Rattle.pg_base.specs.Cells.{Cell}
use Rattle.pg_types.specs.Content.{content}
use Rattle.pg_copy.specs.Escapes.{escaped}
use Rattle.pg_copy.specs.Composites.{record_values, records_values}
use Rattle.pg_copy.specs.Values.{ShowsCell, Values, in_form, values_of}
use Rattle.pg_copy.specs.declared.columns.Column.{Column}
use Rattle.pg_copy.specs.declared.columns.Field.{Field}
use Rattle.pg_copy.specs.declared.types.Base.{Base}

-- the values of a type: those of the composite type if it has fields
abbrev pub values_with : List Field → Base → Values × Values
values_with [] base = (values_of base).0
values_with (field ∷ fields) base = (record_values (field ∷ fields), records_values (field ∷ fields))

-- the values of a column's cells
abbrev pub values_in : Column → Values
values_in column = in_form column.is_array (values_with column.fields.items column.base)

-- the field of the cell of a column: \N for NULL, and for bytes the escaped text of a value that they are read as
abbrev pub FieldOf : Column → Cell → List ℕ → Type 0
FieldOf column None field = field ≡ 92 ∷ 78 ∷ []
FieldOf column (Some bytes) field =
    (text : List ℕ) × (field ≡ escaped text) × ShowsCell (values_in column) (content column.ty) bytes text

-- the fields of the cells of a row, one for each column
abbrev pub AreFieldsOf : List Column → List Cell → List (List ℕ) → Type 0
AreFieldsOf [] [] [] = Unit {0}
AreFieldsOf (column ∷ columns) (cell ∷ cells) (field ∷ fields) =
    FieldOf column cell field × AreFieldsOf columns cells fields
AreFieldsOf _ _ _ = ⊥

-- the line of a row: its fields with tabs between them, and a line feed
abbrev pub IsLineOf : List Column → List Cell → List ℕ → Type 0
IsLineOf columns cells line =
    (fields : List (List ℕ)) × AreFieldsOf columns cells fields × (line ≡ join_with_byte 9 fields ++ 10 ∷ [])

-- the lines of rows, one after another
abbrev pub AreLinesOf : List Column → List (List Cell) → List ℕ → Type 0
AreLinesOf columns [] lines = lines ≡ []
AreLinesOf columns (row ∷ rows) lines =
    (line rest : List ℕ) × IsLineOf columns row line × AreLinesOf columns rows rest × (lines ≡ line ++ rest)
