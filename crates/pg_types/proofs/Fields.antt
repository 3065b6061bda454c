-- What a kind stands for that holds a `Vec` of fields.
use Rattle.std.proofs.Common.{◌≡◌, ◌∙◌, refl, ap, Vec, Global, string_bytes, List, [], ◌∷◌, ◌++◌}
use mathlib.Core.Former.{Count}
use Rattle.pg_types.specs.declared.types.kind.Field.{Field}
use Rattle.pg_types.specs.declared.types.kind.Kind.{Kind, Composite, Composite', Row_of-Field, end_of-Field}
use Rattle.pg_types.specs.declared.types.kind.Kind.{more_of-Field, items-the_row-Field}
use Rattle.pg_types.specs.declared.types.kind.Kind.{items_hidden-the_row-Field-0}
use Rattle.pg_types.specs.Content.{kind_content, row_content, fields_content, inner_content, CompositeKind}
use Rattle.pg_types.specs.Content.{FieldAnd, SameField}

-- the fields as a kind holds them and as a list
row-fields : (n : Count) (r : Row_of-Field n) → row_content r ≡ fields_content (items-the_row-Field n r)
row-fields n end_of-Field = refl
row-fields n (more_of-Field name t rest) = ap (FieldAnd (string_bytes name) (inner_content t)) (row-fields _ rest)

-- the fields that a kind holds
abbrev row_of : Kind → (n : Count) × Row_of-Field n
row_of (Composite' _ row) = (_, row)
row_of _ = (_, end_of-Field)

-- a composite kind stands for its list of fields
pub composite_content : (v : Vec Field Global) → kind_content (Composite v) ≡ CompositeKind (fields_content v.items)
composite_content v =
    let row = row_of (Composite v) in
    ap CompositeKind (row-fields row.0 row.1 ∙ ap fields_content (items_hidden-the_row-Field-0 v))

-- one more field on each side
pub fields_more : (xs ys : List Field) (a b : Field) → fields_content xs ≡ fields_content ys → SameField b a
    → fields_content (xs ++ a ∷ []) ≡ fields_content (ys ++ b ∷ [])
fields_more [] [] a b h s = let e = s.0 in let f = s.1 in cc
fields_more [] (y ∷ ys) a b h s = cc
fields_more (x ∷ xs) [] a b h s = cc
fields_more (x ∷ xs) (y ∷ ys) a b h s =
    let e : fields_content xs ≡ fields_content ys = cc in
    let f = fields_more xs ys a b e s in cc
