-- The test of two contents finds the same ones, and it is an equivalence.
use Rattle.std.proofs.Common.{IsTrue, ◌≡◌, ◌∙◌, sym, refl, ap, ◌==◌, ◌&&◌, Bool as Truth, true, false, if◌then◌else◌}
use Rattle.std.proofs.Common.{ℕ, List, [], ◌∷◌}
use Rattle.std.specs.Cmp.{IsEquivalence}
use Rattle.std.specs.Cmp.Lexicographic.{pointwise}
use Rattle.std.proofs.lemmas.Bool.{and_parts, eqb-true, eq-eqb}
use Rattle.pg_types.specs.declared.types.built_in.BuiltIn.{BuiltIn as Row}
use Rattle.pg_types.specs.declared.types.built_in.BuiltIn.TheVariants as row
use Rattle.pg_types.specs.BuiltInRows.{row_oid}
use Rattle.pg_types.specs.Content.{Content, BuiltInType, UserDefinedType, KindContent, SimpleKind, EnumKind}
use Rattle.pg_types.specs.Content.{PseudoKind, ArrayKind, RangeKind, MultirangeKind, DomainKind, CompositeKind}
use Rattle.pg_types.specs.Content.{FieldsContent, NoFields, FieldAnd, same_type, same_kind_content, same_fields}

-- texts that the test finds the same are the same
pub bytes-same : (m n : List ℕ) → pointwise ◌==◌ m n ≡ true → m ≡ n
bytes-same [] [] h = refl
bytes-same [] (y ∷ ys) h = cc
bytes-same (x ∷ xs) [] h = cc
bytes-same (x ∷ xs) (y ∷ ys) h =
    let p = and_parts (x == y) (pointwise ◌==◌ xs ys) h in
    let e = eqb-true x y p.0 in
    let f = bytes-same xs ys p.1 in cc

-- the same of lists of texts
texts-same : (m n : List (List ℕ)) → pointwise (pointwise ◌==◌) m n ≡ true → m ≡ n
texts-same [] [] h = refl
texts-same [] (y ∷ ys) h = cc
texts-same (x ∷ xs) [] h = cc
texts-same (x ∷ xs) (y ∷ ys) h =
    let p = and_parts (pointwise ◌==◌ x y) (pointwise (pointwise ◌==◌) xs ys) h in
    let e = bytes-same x y p.0 in
    let f = texts-same xs ys p.1 in cc

-- each row
abbrev all_rows : List Row
all_rows =
    row.Bool ∷ row.Bytea ∷ row.Char ∷ row.Name ∷ row.Int8 ∷ row.Int2 ∷ row.Int2Vector ∷ row.Int4 ∷ row.Text ∷
    row.Oid ∷ row.OidVector ∷ row.Json ∷ row.JsonArray ∷ row.Cidr ∷ row.CidrArray ∷ row.Unknown ∷ row.Macaddr ∷
    row.Inet ∷ row.BoolArray ∷ row.ByteaArray ∷ row.CharArray ∷ row.NameArray ∷ row.Int2Array ∷ row.Int4Array ∷
    row.TextArray ∷ row.BpcharArray ∷ row.VarcharArray ∷ row.Int8Array ∷ row.OidArray ∷ row.MacaddrArray ∷
    row.InetArray ∷ row.Bpchar ∷ row.Varchar ∷ row.Date ∷ row.Time ∷ row.Timestamp ∷ row.TimestampArray ∷
    row.DateArray ∷ row.TimeArray ∷ row.Timestamptz ∷ row.TimestamptzArray ∷ row.Interval ∷ row.IntervalArray ∷
    row.Bit ∷ row.BitArray ∷ row.Varbit ∷ row.VarbitArray ∷ row.Uuid ∷ row.UuidArray ∷ row.PgLsn ∷ row.PgLsnArray ∷
    row.Jsonb ∷ row.JsonbArray ∷ []

-- the first of these rows that has the OID, or else the last argument
row-of : List Row → ℕ → Row → Row
row-of [] oid else_row = else_row
row-of (r ∷ rs) oid else_row = if row_oid r == oid then r else row-of rs oid else_row

-- each row is found by its OID
row-found : (a : Row) → row-of all_rows (row_oid a) row.Bool ≡ a
unfolding row-of
row-found row.Bool = refl
row-found a = refl

-- the same of rows
pub row-same : (a b : Row) → (row_oid a == row_oid b) ≡ true → a ≡ b
row-same a b h = sym (row-found a) ∙ ap (λ oid. row-of all_rows oid row.Bool) (eqb-true (row_oid a) (row_oid b) h)
    ∙ row-found b

-- two tests that hold together are one
pub one-test : (p q : Truth) → (p ≡ true → q ≡ true) → (q ≡ true → p ≡ true) → p ≡ q
one-test true q f g = sym (f refl)
one-test false true f g = g refl
one-test false false f g = refl

mutual
  -- types that the test finds the same are the same
  pub type-same : (a b : Content) → same_type a b ≡ true → a ≡ b
  type-same (BuiltInType a) (BuiltInType b) h = ap BuiltInType (row-same a b h)
  type-same (UserDefinedType m i k s) (UserDefinedType n j l t) h =
      let p = and_parts (pointwise ◌==◌ m n) (i == j && (same_kind_content k l && pointwise ◌==◌ s t)) h in
      let q = and_parts (i == j) (same_kind_content k l && pointwise ◌==◌ s t) p.1 in
      let r = and_parts (same_kind_content k l) (pointwise ◌==◌ s t) q.1 in
      let e = bytes-same m n p.0 in
      let f = eqb-true i j q.0 in
      let g = kind-same k l r.0 in
      let w = bytes-same s t r.1 in cc
  type-same (BuiltInType a) (UserDefinedType n j l t) h = cc
  type-same (UserDefinedType m i k s) (BuiltInType b) h = cc

  -- the same of kinds
  pub kind-same : (a b : KindContent) → same_kind_content a b ≡ true → a ≡ b
  kind-same SimpleKind SimpleKind h = refl
  kind-same (EnumKind a) (EnumKind b) h = ap EnumKind (texts-same a b h)
  kind-same PseudoKind PseudoKind h = refl
  kind-same (ArrayKind a) (ArrayKind b) h = ap ArrayKind (type-same a b h)
  kind-same (RangeKind a) (RangeKind b) h = ap RangeKind (type-same a b h)
  kind-same (MultirangeKind a) (MultirangeKind b) h = ap MultirangeKind (type-same a b h)
  kind-same (DomainKind a) (DomainKind b) h = ap DomainKind (type-same a b h)
  kind-same (CompositeKind a) (CompositeKind b) h = ap CompositeKind (fields-same a b h)
  kind-same a b h = cc

  -- the same of fields
  pub fields-same : (a b : FieldsContent) → same_fields a b ≡ true → a ≡ b
  fields-same NoFields NoFields h = refl
  fields-same (FieldAnd m a p) (FieldAnd n b q) h =
      let u = and_parts (pointwise ◌==◌ m n && same_type a b) (same_fields p q) h in
      let v = and_parts (pointwise ◌==◌ m n) (same_type a b) u.0 in
      let e = bytes-same m n v.0 in
      let f = type-same a b v.1 in
      let g = fields-same p q u.1 in cc
  fields-same NoFields (FieldAnd n b q) h = cc
  fields-same (FieldAnd m a p) NoFields h = cc

-- the test finds a text the same as itself
pub bytes-self : (m : List ℕ) → pointwise ◌==◌ m m ≡ true
bytes-self [] = refl
bytes-self (x ∷ xs) = rw (eq-eqb x x refl, bytes-self xs) refl

-- the same of a list of texts
texts-self : (m : List (List ℕ)) → pointwise (pointwise ◌==◌) m m ≡ true
texts-self [] = refl
texts-self (x ∷ xs) = rw (bytes-self x, texts-self xs) refl

mutual
  -- the test finds a type the same as itself
  pub type-self : (a : Content) → same_type a a ≡ true
  type-self (BuiltInType a) = eq-eqb (row_oid a) (row_oid a) refl
  type-self (UserDefinedType m i k s) = rw (bytes-self m, eq-eqb i i refl, kind-self k, bytes-self s) refl

  -- the same of a kind
  pub kind-self : (a : KindContent) → same_kind_content a a ≡ true
  kind-self SimpleKind = refl
  kind-self (EnumKind a) = texts-self a
  kind-self PseudoKind = refl
  kind-self (ArrayKind a) = type-self a
  kind-self (RangeKind a) = type-self a
  kind-self (MultirangeKind a) = type-self a
  kind-self (DomainKind a) = type-self a
  kind-self (CompositeKind a) = fields-self a

  -- the same of fields
  pub fields-self : (a : FieldsContent) → same_fields a a ≡ true
  fields-self NoFields = refl
  fields-self (FieldAnd m a p) = rw (bytes-self m, type-self a, fields-self p) refl

-- the same, as a test that holds
pub same_types : (a b : Content) → IsTrue (same_type a b) → a ≡ b
same_types a b h = type-same a b h

-- a type that the test finds the same as another is found so by the other
type-back : (a b : Content) → same_type a b ≡ true → same_type b a ≡ true
type-back a b h = ap (same_type b) (type-same a b h) ∙ type-self b

-- the test is an equivalence
pub type_equivalence : IsEquivalence same_type
type_equivalence = record {
  refl = type-self;
  symm = λ a b. one-test _ _ (type-back a b) (type-back b a);
  congr = λ a b c h. ap (λ t. same_type t c) (type-same a b h);
}
