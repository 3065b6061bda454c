-- Lemmas on the records of texts, and on arrays of them.
use Rattle.std.proofs.Common.{◌≡◌, ℕ, ◌+◌, ◌<◌, ◌≤◌, Bool, List, [], ◌∷◌, ◌++◌, length, get_or, take, map}
use Rattle.std.proofs.Common.{Option, Some, None, Ok, Err, Result, option_map, refl, sym, subst, ap, ◌∙◌, append_assoc}
use Rattle.std.proofs.Common.{append-nil, if◌then◌else◌}
use Rattle.std.specs.Global.{Global}
use Rattle.std.specs.List.{AllZip, flat_map, join_with_byte}
use Rattle.std.specs.Prelude.{OnOk, String, Vec, codes, nat_lt, string_bytes}
use Rattle.std.proofs.lemmas.Bool.{le-ltb, lt-ltb}
use Rattle.std.proofs.lemmas.Grind.{flat_map-append}
use Rattle.std.proofs.lemmas.List.{length-map, map_push}
use Rattle.pg_base.specs.Appending.{Wire}
use Rattle.pg_base.specs.Cells.{fits_prefix}
use Rattle.pg_text.proofs.ItemTexts.{Left, left_last, left_next}
use Rattle.pg_text.proofs.Joins.{zip_more}
use Rattle.pg_text.specs.Items.{EndsItem, TakesItem}
use Rattle.pg_text.specs.Lists.{SaysArray, SaysElement, SaysValue}
use Rattle.pg_text.specs.declared.items.Items.TheVariants.{OfRecord}
use Rattle.pg_write.specs.ArrayWriting.{cons_cell, element_cells, element_frame_cell, lower_bound_of, wire_array}
use Rattle.pg_write.specs.ArrayWriting.{wire_by_element, wire_list}
use Rattle.pg_copy.proofs.Wires.{list_never_null, value_frame}
use Rattle.pg_copy.specs.Outputs.{Gains}
use Rattle.pg_copy.specs.Values.{TextValues, in_form, values_of}
use Rattle.pg_copy.specs.WrittenCells.{FrameAs}
use Rattle.pg_copy.specs.WrittenComposites.{FieldOf, RecordOf, SaysRecord, WritesItem, composite_texts}
use Rattle.pg_copy.specs.WrittenComposites.{record_of}
use Rattle.pg_copy.specs.WrittenRows.{texts_with}
use Rattle.pg_copy.specs.declared.columns.Field.{Field}
use Rattle.pg_copy.specs.declared.types.Base.{Base}
use Rattle.pg_types.specs.declared.fault.Fault.{Fault}
use Rattle.pg_types.specs.declared.types.built_in.BuiltIn.TheVariants.{Bytea, ByteaArray}
use Rattle.pg_write.specs.Writing.{checked}
use Rattle.postgres_types.specs.ParamWriting.{AppendsFrame}
use Rattle.postgres_types.specs.ArrayTypes.{accepted_list, element_of}
use Rattle.postgres_types.specs.Content.{BuiltInType, Content, is_row, oid_of}
use Rattle.postgres_types.specs.Faults.{transmit, wrong_type}
use Rattle.postgres_types.specs.Bytea.{wire_bytes}
use Rattle.postgres_types.specs.OptionWriting.{wire_option}

-- the texts of the items, and their fields
abbrev texts_of : List (List ℕ × List ℕ) → List (List ℕ)
texts_of items = map (λ item. item.0) items

abbrev fields_of : List (List ℕ × List ℕ) → List ℕ
fields_of items = flat_map (λ item. item.1) items

fields_push : (items : List (List ℕ × List ℕ)) (item : List ℕ × List ℕ)
    → fields_of (items ++ item ∷ []) ≡ fields_of items ++ item.1
fields_push items item =
    flat_map-append (λ item. item.1) items (item ∷ []) ∙ ap (λ v. fields_of items ++ v) (append-nil item.1)

module _ (fields : List Field) (inside old : List ℕ) where
  -- the items before the rest are those of the first fields, which were appended
  pub record SoFar (place : ℕ) (rest out : List ℕ) : Type 0 where
    pub items : List (List ℕ × List ℕ)
    pub written : AllZip WritesItem (take place fields) items
    pub out_is : out ≡ old ++ fields_of items
    pub before_last : place < length fields → Left inside (texts_of items) rest
    pub after_last : length fields ≤ place → inside ≡ join_with_byte 44 (texts_of items) ++ rest

  module _ (i : ℕ) (field : Field) (rest new out more : List ℕ) (text : Option (List ℕ)) (within : i < length fields)
      (is : field ≡ get_or fields i field) (so_far : SoFar i rest out) (gains : Gains (FieldOf field text) out more)
    where
      pub so_far_item : (has_next : Bool) → TakesItem OfRecord rest new has_next text
          → has_next ≡ nat_lt (i + 1) (length fields) → SoFar (i + 1) new more
      so_far_item has_next taken e =
          let items = so_far.items ++ (taken.0, gains.0) ∷ [] in
          let texts_are : texts_of items ≡ texts_of so_far.items ++ taken.0 ∷ [] =
          map_push (λ item. item.0) so_far.items (taken.0, gains.0) in
          record {
            items = items;
            written = zip_more WritesItem fields so_far.items i field (taken.0, gains.0) within is so_far.written
                (text, taken.1, gains.1);
            out_is = gains.2 ∙ ap (λ v. v ++ gains.0) so_far.out_is
                ∙ append_assoc old (fields_of so_far.items) gains.0
                ∙ ap (λ v. old ++ v) (sym (fields_push so_far.items (taken.0, gains.0)));
            before_last = λ h. subst (λ texts. Left inside texts new) (sym texts_are)
                (left_next inside (texts_of so_far.items) taken.0 rest new (so_far.before_last within)
                (subst (λ c. EndsItem c taken.0 rest new) (e ∙ lt-ltb (i + 1) (length fields) h) taken.2));
            after_last = λ h.
                let ends = subst (λ c. EndsItem c taken.0 rest new) (e ∙ le-ltb (i + 1) (length fields) h) taken.2 in
                left_last inside (texts_of so_far.items) taken.0 rest new (so_far.before_last within) ends
                ∙ ap (join_with_byte 44) (sym texts_are) ∙ sym (append-nil (join_with_byte 44 (texts_of items)))
                ∙ ap (λ v. join_with_byte 44 (texts_of items) ++ v) (sym ends.1);
          }

-- the values of a list as others that are written alike
module _ {A B : Type 0} (wire : Content → A → Wire) (other : Content → B → Wire) (f : A → B)
    (same : (ty : Content) (v : A) → wire ty v ≡ other ty (f v)) where
  same_cells : (ty : Content) (vs : List A) → element_cells (wire ty) vs ≡ element_cells (other ty) (map f vs)
  same_cells ty [] = refl
  same_cells ty (v ∷ vs) =
      ap (λ w. cons_cell (element_frame_cell w) (element_cells (wire ty) vs)) (same ty v)
      ∙ ap (cons_cell (element_frame_cell (other ty (f v)))) (same_cells ty vs)

  same_by_element : (ty : Content) (element : Option Content) (vs : List A)
      → wire_by_element wire ty element vs ≡ wire_by_element other ty element (map f vs)
  same_by_element ty None vs = refl
  same_by_element ty (Some element) vs =
      let array = wire_array (lower_bound_of ty) (oid_of element) in
      ap (λ cells. if fits_prefix (length vs) then array cells else Err transmit) (same_cells element vs)
      ∙ ap (λ (n : ℕ). if fits_prefix n then array (element_cells (other element) (map f vs)) else Err transmit)
      (sym (length-map vs f))

  pub same_list : (ty : Content) (vs : List A) → wire_list wire ty vs ≡ wire_list other ty (map f vs)
  same_list ty vs = same_by_element ty (element_of ty) vs

pub same_record : (ty : Content) (own : Option (Vec ℕ Global))
    → wire_option (λ (v : Vec ℕ Global). wire_bytes v.items) own ≡ wire_option wire_bytes (record_of own)
same_record ty None = refl
same_record ty (Some v) = refl

-- what an element's text says is what stands in memory
says_text : (said : Option (List ℕ)) (text : Option (String Global)) → SaysValue (λ t s. string_bytes s ≡ t) said text
    → option_map (λ t. string_bytes t) text ≡ said
says_text None None h = refl
says_text (Some t) (Some s) h = ap Some h
says_text None (Some s) h = absurd h
says_text (Some t) None h = absurd h

module _ (fields : List Field) where
  zip_records : (items : List (List ℕ)) (texts : List (Option (String Global))) (records : List (Option (Vec ℕ Global)))
      → AllZip (SaysElement (λ t s. string_bytes s ≡ t)) items texts → AllZip (SaysRecord fields) texts records
      → AllZip (SaysElement (RecordOf fields)) items (map record_of records)
  zip_records [] [] [] all each = tt
  zip_records [] [] (r ∷ rs) all each = absurd each
  zip_records [] (t ∷ ts) rs all each = absurd all
  zip_records (i ∷ is) [] rs all each = absurd all
  zip_records (i ∷ is) (t ∷ ts) [] all each = absurd each
  zip_records (i ∷ is) (t ∷ ts) (r ∷ rs) all each = (
    (
      all.0.0,
      all.0.1,
      subst (λ said. SaysValue (RecordOf fields) said (record_of r)) (says_text all.0.0 t all.0.2) each.0,
    ),
    zip_records is ts rs all.1 each.1,
  )

  -- the records of an array's texts
  pub says_records : (text : List ℕ) (texts : List (Option (String Global))) (records : List (Option (Vec ℕ Global)))
      → SaysArray (λ t s. string_bytes s ≡ t) text texts → AllZip (SaysRecord fields) texts records
      → SaysArray (RecordOf fields) text (map record_of records)
  says_records text texts records said each = (said.0, said.1, zip_records said.0 texts records said.2 each)

-- the record of a buffer that was empty
pub record_whole : (fields : List Field) (text old new cell : List ℕ) → Gains (RecordOf fields text) old new → old ≡ []
    → cell ≡ new → RecordOf fields text cell
record_whole fields text old new cell gains none is =
    subst (RecordOf fields text) (sym (is ∙ gains.2 ∙ ap (λ v. v ++ gains.0) none)) gains.1

-- what an array of records that stand in memory is written as
abbrev wire_records : Content → List (Option (Vec ℕ Global)) → Wire
wire_records = wire_list (λ ty. wire_option (λ (v : Vec ℕ Global). wire_bytes v.items))

-- the frame of an array of records
pub records_frame : (fields : List Field) (text : List ℕ) (records : List (Option (Vec ℕ Global)))
    → SaysArray (RecordOf fields) text (map record_of records) → (old new : List ℕ) (r : _)
    → AppendsFrame (checked (accepted_list (is_row Bytea)) (codes "Vec") wire_records (BuiltInType ByteaArray) records)
    old new r
    → OnOk r (Gains (FrameAs (composite_texts fields).1 (BuiltInType ByteaArray) (Some text)) old new)
records_frame fields text records said old new r frame =
    let array = BuiltInType ByteaArray in
    let values = map record_of records in
    let wire = λ (ty : Content). wire_option wire_bytes in
    let refused = wrong_type array (codes "Vec") in
    value_frame (SaysArray (RecordOf fields)) (accepted_list (is_row Bytea)) (codes "Vec") (wire_list wire) array text
    values said (list_never_null wire array (element_of array) values) old new r
    (subst (λ w. AppendsFrame (if accepted_list (is_row Bytea) array then w else Err refused) old new r)
    (same_list (λ ty. wire_option (λ (v : Vec ℕ Global). wire_bytes v.items)) wire record_of same_record array records)
    frame)

-- the values of a column are those of its type where it has no field, and otherwise those of the composite type
module _ (base : Base) (is_array : Bool) (ty : Content) (text : Option (List ℕ)) (old new : List ℕ)
    (r : Result (Unit {0}) Fault) where
  pub without_fields : (fields : List Field) → fields ≡ []
      → OnOk r (Gains (FrameAs (in_form is_array (values_of base).1) ty text) old new)
      → OnOk r (Gains (FrameAs (in_form is_array (texts_with fields base)) ty text) old new)
  without_fields [] none h = h
  without_fields (f ∷ fs) none h = let no : ⊥ = cc in absurd no

  pub with_fields : (fields : List Field) → (fields ≡ [] → ⊥)
      → OnOk r (Gains (FrameAs (in_form is_array (composite_texts fields)) ty text) old new)
      → OnOk r (Gains (FrameAs (in_form is_array (texts_with fields base)) ty text) old new)
  with_fields [] some h = absurd (some refl)
  with_fields (f ∷ fs) some h = h

-- what is appended for NULL is its frame
pub null_frame : {T E : Type 0} (own : TextValues) (ty : Content) (old new : List ℕ) (r : Result T E)
    → OnOk r (new ≡ old ++ 255 ∷ 255 ∷ 255 ∷ 255 ∷ []) → OnOk r (Gains (FrameAs own ty None) old new)
null_frame own ty old new (Ok done) is = (255 ∷ 255 ∷ 255 ∷ 255 ∷ [], (None, refl, refl), is)
null_frame own ty old new (Err fault) is = tt
