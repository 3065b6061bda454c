-- The steps of reading the fields of a record.
use Rattle.std.proofs.Common.{◌≡◌, ◌<◌, ◌≤◌, ◌+◌, ℕ, Bool, true, false, List, [], ◌∷◌, ◌++◌, Option, Some, None, Ok}
use Rattle.std.proofs.Common.{drop, if◌then◌else◌, length, length-append, take, take-append-drop}
use Rattle.std.proofs.Common.{ap, map, refl, sym, ◌∙◌, append_assoc, append-nil, arith, subst}
use Rattle.std.specs.Borrow.{Bor}
use Rattle.std.specs.Global.{Global}
use Rattle.std.specs.Prelude.{Vec}
use Rattle.std.specs.Int.{cast_unsigned, w32}
use Rattle.std.proofs.lemmas.Grind.{flat_map-append}
use Rattle.std.proofs.Math.Seq.{drop-append_seam, take-append_seam}
use Rattle.std.proofs.lemmas.Bool.Decides.{nat_tests}
use Rattle.std.proofs.lemmas.List.{length-map, length-take-le, map_push}
use Rattle.std.specs.List.{AllZip, flat_map, join_with_byte}
use Rattle.pg_base.specs.Cells.{Cell, Spells, SpellsAll, signed_in}
use Rattle.pg_base.specs.Counts.{after_number, has_number}
use Rattle.pg_copy.proofs.ArrayBounds.{bound_shown}
use Rattle.pg_copy.specs.Composites.{FieldText, ReadsBytesOfEach, ShowsField, ShowsRecord, field_values, fits_oid}
use Rattle.pg_copy.specs.Composites.{record_values, records_values, type_fault}
use Rattle.pg_copy.specs.Lines.{values_with}
use Rattle.pg_copy.specs.ReadingSteps.{TakesText}
use Rattle.pg_copy.specs.Values.{HasOtherBound}
use Rattle.pg_copy.specs.declared.columns.Field.{Field}
use Rattle.pg_copy.specs.declared.types.Base.{Base}
use Rattle.pg_base.proofs.Lists.{zip_length}
use Rattle.pg_text.proofs.Joins.{texts_step}
use Rattle.pg_text.specs.Lists.{ShowsArray, separator}
use Rattle.pg_text.specs.Quotes.{field_text}
use Rattle.pg_types.specs.Content.{Content, content, oid_of}
use Rattle.pg_types.specs.Faults.{Refusal, field_oid, size}
use Rattle.pg_types.specs.declared.types.built_in.BuiltIn.TheVariants.{ByteaArray}
use Rattle.postgres_types.specs.Bytea.{ReadsBytes}
use Rattle.postgres_types.specs.Content.{BuiltInType}
use Rattle.postgres_types.specs.OptionReading.{ReadsOption}

-- the values of a composite type's column
pub with_fields : (fields : List Field) (base : Base) → 1 ≤ length fields
    → values_with fields base ≡ (record_values fields, records_values fields)
with_fields [] base long = let no : ⊥ = omega (arith, long) in absurd no
with_fields (field ∷ fields) base long = refl

-- the bytes of one more item were taken
pub taken_step : {A : Type 0} (f : A → List ℕ) (xs : List A) (x : A) (all rest next : List ℕ)
    → all ≡ flat_map f xs ++ rest → rest ≡ f x ++ next → all ≡ flat_map f (xs ++ x ∷ []) ++ next
taken_step f xs x all rest next so_far here =
    so_far ∙ ap (λ v. flat_map f xs ++ v) here ∙ sym (append_assoc (flat_map f xs) (f x) next)
    ∙ ap (λ v. v ++ next)
    (ap (λ v. flat_map f xs ++ v) (sym (append-nil (f x))) ∙ sym (flat_map-append f xs (x ∷ [])))

-- a step of a loop that appends a comma, but for the first item, and then an item's text
pub shown_step : {A B : Type 0} (R : A → B → Type 0) (text : B → List ℕ) (xs : List A) (ys : List B) (i : ℕ) (y : B)
    (old before between after : List ℕ) → i < length xs → AllZip R (take i xs) ys
    → before ≡ old ++ join_with_byte 44 (map text ys)
    → between ≡ before ++ separator 44 i
    → after ≡ between ++ text y
    → after ≡ old ++ join_with_byte 44 (map text (ys ++ y ∷ []))
shown_step R text xs ys i y old before between after l all so_far sep last =
    let count = length-map ys text ∙ sym (zip_length R (take i xs) ys all) ∙ length-take-le i xs (omega (arith, l)) in
    texts_step 44 (map text ys) i (text y) old before between after count so_far sep last
    ∙ ap (λ v. old ++ join_with_byte 44 v) (sym (map_push text ys y))

-- a field was taken, and its text appended
abbrev pub TakesField : Field → List ℕ → List ℕ → List ℕ → List ℕ → Type 0
TakesField field old new text longer =
    (part : List ℕ × List ℕ) × ShowsField field part × (old ≡ part.0 ++ new) × (longer ≡ text ++ part.1)

-- the check of an OID reads four bytes
abbrev checked : Content → Bool → List ℕ → Option Refusal
checked ty has number =
    if has
    then (if fits_oid (oid_of ty) (cast_unsigned w32 (signed_in w32 number)) then None else Some field_oid)
    else Some size

has_oid : (ty : Content) (has : Bool) (number : List ℕ) → checked ty has number ≡ None → has ≡ true
has_oid ty true number h = refl
has_oid ty false number h = let no : ⊥ = cc in absurd no

module _ (ty : Content) (s front : List ℕ) (fits : type_fault ty s ≡ None) where
  four : length (take 4 s) ≡ 4
  four =
      let has : has_number s ≡ true = has_oid ty (has_number s) (take 4 s) fits in
      let long : 4 ≤ length s = grind (arith, nat_tests, has) in
      length-take-le 4 s long

  after_oid : after_number (take 4 s ++ front) ≡ front
  after_oid = ap (λ k. drop k (take 4 s ++ front)) (sym four) ∙ drop-append_seam (take 4 s) front

  oid_before : type_fault ty (take 4 s ++ front) ≡ None
  oid_before =
      let t = take 4 s ++ front in
      let first : take 4 t ≡ take 4 s = ap (λ k. take k t) (sym four) ∙ take-append_seam (take 4 s) front in
      let all : length t ≡ length (take 4 s) + length front = length-append (take 4 s) front in
      let has : has_number t ≡ true = grind (arith, nat_tests, all, four) in
      let had = has_oid ty (has_number s) (take 4 s) fits in
      ap (λ b. checked ty b (take 4 t)) has ∙ ap (checked ty true) first
      ∙ sym (ap (λ b. checked ty b (take 4 s)) had) ∙ fits

module _ (field : Field) (old mid new : List ℕ) (fits : type_fault (content field.ty) old ≡ None)
    (taken : mid ≡ after_number old) (text : List ℕ) where
  with_cell : (cell : Cell) (shown : List ℕ) → SpellsAll mid (cell ∷ []) new → FieldText field cell shown
      → TakesField field old new text (text ++ shown)
  with_cell cell shown spelled said = (
    (take 4 old ++ spelled.front, shown),
    record {
      oid = oid_before (content field.ty) old spelled.front fits;
      cell = cell;
      spells = subst (λ t. Spells t cell) (sym (after_oid (content field.ty) old spelled.front fits)) spelled.spells;
      text = said;
    },
    sym (take-append-drop 4 old)
        ∙ ap (λ v. take 4 old ++ v)
        (sym taken ∙ spelled.is ∙ ap (λ v. spelled.front ++ v) spelled.rest_spells)
        ∙ sym (append_assoc (take 4 old) spelled.front new),
    refl,
  )

  -- NULL was taken
  pub null_field : TakesText (field_values field) (content field.ty) mid None new → TakesField field old new text text
  null_field (None, spelled, q) =
      subst (TakesField field old new text) (append-nil text) (with_cell None [] spelled refl)
  null_field (Some bytes, spelled, q) = absurd q

  -- a value was taken
  pub some_field : (own longer : List ℕ) → TakesText (field_values field) (content field.ty) mid (Some own) new
      → longer ≡ text ++ field_text own → TakesField field old new text longer
  some_field own longer (Some bytes, spelled, q) last =
      subst (TakesField field old new text) (sym last)
      (with_cell (Some bytes) (field_text own) spelled (own, q, refl))
  some_field own longer (None, spelled, q) last = let bad : ⊥ = cc in absurd bad

-- the elements of a list, if there is one
abbrev all : Option (Vec (Option (Bor (List ℕ))) Global) → List (Option (Bor (List ℕ)))
all None = []
all (Some v) = v.items

-- an array of records was taken
pub records_taken : (fields : List Field) (s new text : List ℕ)
    (o : Option (Vec (Option (Bor (List ℕ))) Global)) (v : Vec (Option (Bor (List ℕ))) Global) → o ≡ Some v
    → (cell : Cell) × SpellsAll s (cell ∷ []) new × ReadsOption ReadsBytesOfEach cell (Ok o)
    → (HasOtherBound (drop 4 s) → ⊥)
    → ShowsArray (λ r. ShowsRecord fields r.now) v.items [] text
    → (ty : Content) → TakesText (records_values fields) ty s (Some text) new
records_taken fields s new text (Some v) w e (Some b, spelled, read) none shown ty =
    let same = subst (λ p. ShowsArray (λ r. ShowsRecord fields r.now) (all p) [] text) (sym e) shown in
    let of_bound_one = bound_shown (λ ty. ReadsOption (ReadsBytes (λ r. r.now))) (BuiltInType ByteaArray) s b new v
    spelled read none in
    (Some b, spelled, (v, of_bound_one, same))
records_taken fields s new text (Some v) w e (None, spelled, read) none shown ty = absurd read
records_taken fields s new text None w e taken none shown ty = let bad : ⊥ = cc in absurd bad
