-- What == of types, and the derived == of kinds, views of kinds and fields, compares.
use Rattle.std.proofs.Common.{rules, ◌≡◌, ◌∙◌, refl, ap, sym, ◌==◌, ◌&&◌, true, string_bytes, ℕ, List, [], ◌∷◌, map}
use Rattle.std.proofs.Common.{String, Global}
use Rattle.std.proofs.lemmas.Bool.{and_parts, eq-eqb}
use Rattle.std.specs.Cmp.Lexicographic.{pointwise}
use Rattle.std.specs.String.{string_eq}
use Rattle.std.specs.Hash as fed
use denote.Enum.Bare.{same_true, true_same}
use Rattle.pg_types.specs.contracts.types.built_in.BuiltIn.{the_type}
use Rattle.pg_types.specs.contracts.types.built_in.BuiltInPartialEq.TheImpl.{ghosts as rows}
use Rattle.pg_types.specs.declared.types.built_in.BuiltIn.{BuiltIn as Row}
use mathlib.Core.Former.{Count}
use denote.Hole.Carrier as Carrier
use Rattle.pg_types.specs.declared.types.PgType.{PgType}
use Rattle.pg_types.specs.declared.types.kind.Field.{Field}
use Rattle.pg_types.specs.declared.types.kind.KindRef.{KindRef}
use Rattle.pg_types.specs.declared.types.kind.KindRef.TheVariants as view
use Rattle.pg_types.specs.declared.types.kind.Kind.{Kind, out-Kind, Simple, Enum, Pseudo, Array', Range'}
use Rattle.pg_types.specs.declared.types.kind.Kind.{Multirange', Domain', Composite', Row_of-Field, end_of-Field}
use Rattle.pg_types.specs.declared.types.kind.Kind.{more_of-Field, items-the_row-Field, items_shown-the_row-Field-0}
use Rattle.pg_types.specs.contracts.types.PgTypePartialEq.TheImpl.{ghosts as types}
use Rattle.pg_types.specs.contracts.types.OtherPartialEq.TheImpl.{ghosts as others}
use Rattle.pg_types.specs.contracts.types.kind.KindPartialEq.TheImpl.{ghosts as kinds}
use Rattle.pg_types.specs.contracts.types.kind.FieldPartialEq.TheImpl.{ghosts as fields}
use Rattle.pg_types.specs.contracts.types.kind.KindRefPartialEq.TheImpl.{ghosts as views}
use Rattle.pg_types.specs.contracts.types.PgTypeHash.TheImpl.{ghosts as type_hashes}
use Rattle.pg_types.specs.contracts.types.kind.KindHash.TheImpl.{ghosts as kind_hashes}
use Rattle.pg_types.specs.contracts.types.kind.FieldHash.TheImpl.{ghosts as field_hashes}
use Rattle.pg_types.specs.contracts.types.kind.KindHash.TheImpl.Laws as kind_hash_laws
use Rattle.pg_types.specs.contracts.types.kind.FieldHash.TheImpl.Laws as field_hash_laws
use Rattle.pg_types.specs.contracts.types.kind.KindRefHash.TheImpl.{ghosts as view_hashes}
use Rattle.pg_types.specs.contracts.types.kind.KindRefHash.TheImpl.Laws as view_hash_laws
use Rattle.pg_types.specs.Content.{Content, SameField, content, field_name, field_type, fields_content}
use Rattle.pg_types.specs.Content.{kind_content, row_content, same_fields, same_kind_content}
use Rattle.pg_types.specs.Content.{oid_of, same_type}
use Rattle.pg_types.specs.BuiltInRows.{row_oid}
use Rattle.pg_types.specs.KindRefs.{kind_ref_view}
use Rattle.pg_types.specs.Laws.Equality.{bytes-same, bytes-self, kind-same, kind-self, one-test, row-same, type-same, type-self}

-- lists of strings are compared by their texts
strings : (xs ys : List (String Global)) → pointwise string_eq xs ys
    ≡ pointwise (pointwise ◌==◌) (map string_bytes xs) (map string_bytes ys)
strings [] [] = refl
strings [] (y ∷ ys) = refl
strings (x ∷ xs) [] = refl
strings (x ∷ xs) (y ∷ ys) = ap (λ b. string_eq x y && b) (strings xs ys)

-- the derived == of rows compares their OIDs
pub eq_rows : (a b : Row) → rows.eq a b ≡ (row_oid a == row_oid b)
eq_rows a b =
    one-test _ _ (λ h. eq-eqb _ _ (ap row_oid (same_true the_type (search rules) a b h)))
    (λ h. true_same the_type a b (row-same a b h))

mutual
  unfolding out-Kind Carrier.out

  -- == of two kinds
  eq-kind : (a b : Kind) → kinds.eq a b ≡ same_kind_content (kind_content a) (kind_content b)
  eq-kind Simple Simple = refl
  eq-kind (Enum z) (Enum y) = strings z.items y.items
  eq-kind Pseudo Pseudo = refl
  eq-kind (Array' z) (Array' y) = refl
  eq-kind (Range' z) (Range' y) = refl
  eq-kind (Multirange' z) (Multirange' y) = refl
  eq-kind (Domain' z) (Domain' y) = refl
  eq-kind (Composite' z r) (Composite' y s) =
      let e = items_shown-the_row-Field-0 z r in
      let f = items_shown-the_row-Field-0 y s in
      let g = eq-row r s in
      rw (e, f) g
  eq-kind a b = refl

  -- == of the fields of two composite kinds
  eq-row : {m n : Count} (r : Row_of-Field m) (s : Row_of-Field n)
      → pointwise fields.eq (items-the_row-Field m r) (items-the_row-Field n s)
      ≡ same_fields (row_content r) (row_content s)
  eq-row end_of-Field end_of-Field = refl
  eq-row end_of-Field (more_of-Field m u q) = refl
  eq-row (more_of-Field n t r) end_of-Field = refl
  eq-row (more_of-Field n t r) (more_of-Field m u q) = let e = eq-row r q in cc

-- what == of the parts of two user-defined types answers
pub eq_others : (m n : String Global) (o i : ℕ) (k l : Kind) (s t : String Global)
    → others.eq (record { name = m; oid = o; kind = k; schema = s }) (record { name = n; oid = i; kind = l; schema = t })
    ≡ (pointwise ◌==◌ (string_bytes m) (string_bytes n) && (o == i && (same_kind_content (kind_content k)
    (kind_content l) && pointwise ◌==◌ (string_bytes s) (string_bytes t))))
eq_others m n o i k l s t = ap (λ b. string_eq m n && (o == i && (b && string_eq s t))) (eq-kind k l)

-- equal types stand for the same
pub same_from_eq : (a b : PgType) → types.eq a b ≡ true → content a ≡ content b
same_from_eq a b h = type-same _ _ h

-- types that stand for the same are equal
pub eq_from_same : (a b : PgType) → content a ≡ content b → types.eq a b ≡ true
eq_from_same a b h = ap (same_type (content a)) (sym h) ∙ type-self (content a)

-- equal kinds stand for the same
pub same_kind_from_eq : (a b : Kind) → kinds.eq a b ≡ true → kind_content a ≡ kind_content b
same_kind_from_eq a b h = kind-same _ _ (sym (eq-kind a b) ∙ h)

-- kinds that stand for the same are equal
pub eq_from_same_kind : (a b : Kind) → kind_content a ≡ kind_content b → kinds.eq a b ≡ true
eq_from_same_kind a b h = eq-kind a b ∙ ap (λ k. same_kind_content (kind_content a) k) (sym h)
    ∙ kind-self (kind_content a)

-- what == of two fields answers
pub eq_field_content : (a b : Field) → fields.eq a b
    ≡ (pointwise ◌==◌ (field_name a) (field_name b) && same_type (content (field_type a)) (content (field_type b)))
eq_field_content a b = refl

-- equal fields have one name and one type
pub same_field_from_eq : (a b : Field) → fields.eq a b ≡ true → SameField a b
same_field_from_eq a b h =
    let p = and_parts _ _ (sym (eq_field_content a b) ∙ h) in
    (sym (bytes-same _ _ p.0), sym (type-same _ _ p.1))

-- the test finds one name and one type the same
named-alike : (m n : List ℕ) (s t : Content) → n ≡ m → t ≡ s → (pointwise ◌==◌ m n && same_type s t) ≡ true
named-alike m n s t e f = rw (e, f, bytes-self m, type-self s) refl

-- fields of one name and one type are equal
pub eq_from_same_field : (a b : Field) → SameField a b → fields.eq a b ≡ true
eq_from_same_field a b h = eq_field_content a b ∙ named-alike _ _ _ _ h.0 h.1

-- what == of two lists of fields answers
eq_lists : (fs gs : List Field) → pointwise fields.eq fs gs ≡ same_fields (fields_content fs) (fields_content gs)
eq_lists [] [] = refl
eq_lists [] (g ∷ gs) = refl
eq_lists (f ∷ fs) [] = refl
eq_lists (f ∷ fs) (g ∷ gs) =
    let e = eq_field_content f g in
    let h = eq_lists fs gs in cc

-- what == of two views of kinds answers
eq_kind_ref_view : (a b : KindRef) → views.eq a b ≡ same_kind_content (kind_ref_view a) (kind_ref_view b)
eq_kind_ref_view view.Simple view.Simple = refl
eq_kind_ref_view (view.Enum z) (view.Enum y) = strings z.now y.now
eq_kind_ref_view view.Pseudo view.Pseudo = refl
eq_kind_ref_view (view.Array z) (view.Array y) = refl
eq_kind_ref_view (view.Range z) (view.Range y) = refl
eq_kind_ref_view (view.Multirange z) (view.Multirange y) = refl
eq_kind_ref_view (view.Domain z) (view.Domain y) = refl
eq_kind_ref_view (view.Composite z) (view.Composite y) = eq_lists z.now y.now
eq_kind_ref_view a b = refl

-- equal views stand for the same
pub kind_ref_from_eq : (a b : KindRef) → views.eq a b ≡ true → kind_ref_view a ≡ kind_ref_view b
kind_ref_from_eq a b h = kind-same _ _ (sym (eq_kind_ref_view a b) ∙ h)

-- views that stand for the same are equal
pub eq_from_kind_ref : (a b : KindRef) → kind_ref_view a ≡ kind_ref_view b → views.eq a b ≡ true
eq_from_kind_ref a b h = eq_kind_ref_view a b ∙ ap (λ k. same_kind_content (kind_ref_view a) k) (sym h)
    ∙ kind-self (kind_ref_view a)

-- types that stand for the same are hashed alike
pub hash_from_same : (a b : PgType) → content a ≡ content b → type_hashes.hash_input a ≡ type_hashes.hash_input b
hash_from_same a b h = ap (λ t. fed.u32 (oid_of t)) h

-- kinds that stand for the same are hashed alike
pub hash_from_same_kind : (a b : Kind) → kind_content a ≡ kind_content b → kind_hashes.hash_input a
    ≡ kind_hashes.hash_input b
hash_from_same_kind a b h = kind_hash_laws.respects_eq-law a b (eq_from_same_kind a b h)

-- fields of one name and one type are hashed alike
pub hash_from_same_field : (a b : Field) → SameField a b → field_hashes.hash_input a ≡ field_hashes.hash_input b
hash_from_same_field a b h = field_hash_laws.respects_eq-law a b (eq_from_same_field a b h)

-- views that stand for the same are hashed alike
pub hash_from_same_kind_ref : (a b : KindRef) → kind_ref_view a ≡ kind_ref_view b → view_hashes.hash_input a
    ≡ view_hashes.hash_input b
hash_from_same_kind_ref a b h = view_hash_laws.respects_eq-law a b (eq_from_kind_ref a b h)
