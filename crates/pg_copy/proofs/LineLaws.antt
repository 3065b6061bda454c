-- Laws of lines.
use Rattle.std.proofs.Common.{◌≡◌, ℕ, suc, List, [], ◌∷◌, ◌++◌, length, refl, ap, sym, ◌∙◌}
use Rattle.std.proofs.Common.{append_assoc, append-nil}
use Rattle.std.specs.List.{join_with_byte}
use Rattle.pg_base.specs.Cells.{Cell, SpellsAll}
use Rattle.pg_copy.specs.Lines.{AreFieldsOf, AreLinesOf, FieldOf, IsLineOf}
use Rattle.pg_copy.specs.Outputs.{Extends}
use Rattle.pg_copy.specs.ReadingSteps.{TakesField, TakesRow}
use Rattle.pg_copy.specs.declared.columns.Column.{Column}
use Rattle.pg_text.proofs.Joins.{join_push}
use Rattle.pg_text.specs.Lists.{separator}
use Rattle.pg_base.proofs.CellRows.{spelled_more}

-- fields are as many as columns, and so are cells
pub fields_width : (columns : List Column) (cells : List Cell) (fields : List (List ℕ))
    → AreFieldsOf columns cells fields
    → (length cells ≡ length columns) × (length fields ≡ length columns)
fields_width [] [] [] h = (refl, refl)
fields_width [] [] (f ∷ fs) h = absurd h
fields_width [] (x ∷ xs) [] h = absurd h
fields_width [] (x ∷ xs) (f ∷ fs) h = absurd h
fields_width (c ∷ cs) [] [] h = absurd h
fields_width (c ∷ cs) [] (f ∷ fs) h = absurd h
fields_width (c ∷ cs) (x ∷ xs) [] h = absurd h
fields_width (c ∷ cs) (x ∷ xs) (f ∷ fs) h =
    let p = fields_width cs xs fs h.1 in
    (ap suc p.0, ap suc p.1)

module _ (column : Column) (cell : Cell) (field : List ℕ) (one : FieldOf column cell field) where
  fields_more : (columns : List Column) (cells : List Cell) (fields : List (List ℕ)) → AreFieldsOf columns cells fields
      → AreFieldsOf (columns ++ column ∷ []) (cells ++ cell ∷ []) (fields ++ field ∷ [])
  fields_more [] [] [] h = (one, tt)
  fields_more [] [] (f ∷ fs) h = absurd h
  fields_more [] (x ∷ xs) [] h = absurd h
  fields_more [] (x ∷ xs) (f ∷ fs) h = absurd h
  fields_more (c ∷ cs) [] [] h = absurd h
  fields_more (c ∷ cs) [] (f ∷ fs) h = absurd h
  fields_more (c ∷ cs) (x ∷ xs) [] h = absurd h
  fields_more (c ∷ cs) (x ∷ xs) (f ∷ fs) h = (h.0, fields_more cs xs fs h.1)

-- the fields of so many columns were appended, and their cells taken
abbrev pub TakesFields : List Column → List ℕ → List ℕ → List ℕ → List ℕ → Type 0
TakesFields columns old new lines longer =
    (cells : List Cell) × (fields : List (List ℕ)) × AreFieldsOf columns cells fields × SpellsAll old cells new
    × (longer ≡ lines ++ join_with_byte 9 fields)

pub no_field : (old lines : List ℕ) → TakesFields [] old old lines lines
no_field old lines = ([], [], tt, refl, sym (append-nil lines))

pub next_field : (columns : List Column) (column : Column) (n : ℕ) (old mid new lines longer tab longest : List ℕ)
    → length columns ≡ n → TakesFields columns old mid lines longer → tab ≡ longer ++ separator 9 n
    → TakesField column mid new tab longest → TakesFields (columns ++ column ∷ []) old new lines longest
next_field columns column n old mid new lines longer tab longest count (cells, fields, are, spelled, is) tabs
    (cell, next, (field, one, then)) = (
      cells ++ cell ∷ [],
      fields ++ field ∷ [],
      fields_more column cell field one columns cells fields are,
      spelled_more old mid new cells (cell ∷ []) spelled next,
      (let place : n ≡ length fields = sym count ∙ sym (fields_width columns cells fields are).1 in
          then ∙ ap (λ l. l ++ field) (tabs ∙ ap (λ l. l ++ separator 9 n) is)
          ∙ append_assoc (lines ++ join_with_byte 9 fields) (separator 9 n) field
          ∙ append_assoc lines (join_with_byte 9 fields) (separator 9 n ++ field)
          ∙ ap (λ l. lines ++ (join_with_byte 9 fields ++ (separator 9 l ++ field))) place
          ∙ ap (λ l. lines ++ l) (sym (join_push 9 fields field))),
    )

pub line_ends : (columns : List Column) (old new lines longer longest : List ℕ)
    → TakesFields columns old new lines longer → longest ≡ longer ++ 10 ∷ [] → TakesRow columns old new lines longest
line_ends columns old new lines longer longest (cells, fields, are, spelled, is) e = (
  cells,
  spelled,
  (
    join_with_byte 9 fields ++ 10 ∷ [],
    (fields, are, refl),
    e ∙ ap (λ l. l ++ 10 ∷ []) is ∙ append_assoc lines (join_with_byte 9 fields) (10 ∷ []),
  ),
)

pub fields_extend : (columns : List Column) (old new lines longer : List ℕ) → TakesFields columns old new lines longer
    → Extends lines longer
fields_extend columns old new lines longer (cells, fields, are, spelled, is) = (join_with_byte 9 fields, is)

pub lines_next : (columns : List Column) (rows : List (List Cell)) (row : List Cell) (lines line : List ℕ)
    → AreLinesOf columns rows lines → IsLineOf columns row line → AreLinesOf columns (rows ++ row ∷ []) (lines ++ line)
lines_next columns [] row lines line h one =
    (line, [], one, refl, ap (λ l. l ++ line) h ∙ sym (append-nil line))
lines_next columns (first ∷ rows) row lines line (l, rest, p, q, is) one = (
  l,
  rest ++ line,
  p,
  lines_next columns rows row rest line q one,
  ap (λ s. s ++ line) is ∙ append_assoc l rest line,
)
