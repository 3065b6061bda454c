-- The steps of reading and writing a record, one after another.
use Rattle.std.proofs.Common.{◌≡◌, ◌++◌, ℕ, List, [], ◌∷◌, length, take, drop, Option, Some, None}
use Rattle.std.proofs.Common.{Result, Ok, Err, IfNone, IfSome, IsOk, ◌<◌, ◌≤◌}
use Rattle.std.proofs.Common.{refl, sym, ap, subst, ◌∙◌, append_assoc, append-nil, inl, inr, nat_eq, suc, arith, true}
use Rattle.std.specs.Result.{is_err}
use Rattle.std.specs.Bool.{⊤}
use Rattle.std.proofs.lemmas.Bool.Decides.{nat_tests}
use Rattle.std.proofs.Math.Seq.{take-append_seam}
use Rattle.std.proofs.lemmas.List.{take-append-drop, take_all}
use Rattle.std.proofs.lemmas.Option.{IfSome_then}
use Rattle.pg_types.specs.Content.{Content, FieldsContent, FieldAnd, content, field_name, field_type}
use Rattle.pg_types.specs.Content.{fields_content, oid_of}
use Rattle.pg_types.specs.Faults.{NeverMemory, Outcome, Refusal, refusal_of, size}
use Rattle.pg_types.specs.declared.fault.Fault.{Fault}
use Rattle.pg_types.specs.declared.types.PgType.{PgType}
use Rattle.pg_types.specs.declared.types.kind.Field.{Field}
use Rattle.pg_base.specs.Appending.{Wire}
use Rattle.pg_base.specs.Cells.{Cell, Spells, SpellsAll, frame}
use Rattle.pg_base.specs.Counts.{after_number, no_trailing}
use Rattle.pg_base.specs.Formats.{first_fault_of}
use Rattle.pg_read.specs.FrameReading.{AnswersSize, BeginsWithCells, ReadsFirst}
use Rattle.pg_write.specs.ParamWriting.{AppendsFrame}
use Rattle.pg_write.specs.Writing.{appended_len}
use Rattle.pg_write.specs.ArrayWriting.{element_frame_cell, with_frame}
use Rattle.postgres_types.specs.CompositeFields.{ReadsAnd, and, no_fields}
use Rattle.postgres_types.specs.Records.{AnswersRefusal, AppendsBytes, AppendsBytesOrPart, AtEnd, Both, Bytes}
use Rattle.postgres_types.specs.Records.{CellThen}
use Rattle.postgres_types.specs.Records.{CountThen, FieldFree, PassesCheck, FieldThen, FrameThen, IsDone}
use Rattle.postgres_types.specs.Records.{IsRefused, PassesNumber, ReadsNext}
use Rattle.postgres_types.specs.Records.{RecordFree, Unless, append_bytes, bytes_cell, bytes_len}
use Rattle.postgres_types.specs.Records.{concat_bytes, count_fault, count_of, frame_bytes, oid_fault}
use Rattle.postgres_types.specs.Records.{or_transmit}
use Rattle.postgres_types.specs.declared.composite.fields.And.{And}

-- ---- the fields of a type

-- they are as many as their list says
pub counted : (fs : List Field) → length fs ≡ count_of (fields_content fs)
counted [] = refl
counted (f ∷ fs) = ap suc (counted fs)

-- ---- room

-- where there was no room for bytes, there was none for them as a cell
pub cell_short : (w : Bytes) (room : ℕ) (o : Option Refusal) → (IsOk w → IfNone o (room < bytes_len w))
    → IsOk (bytes_cell w) → IfNone o (room < appended_len (bytes_cell w))
cell_short (Err r) room o short ok = let no : ⊥ = cc in absurd no
cell_short (Ok b) room o short ok = short refl

-- ---- appended

module _ (first others : Bytes) (old : List ℕ) where
  -- the first bytes and then others
  pub both_appended : {u v w : ⊤} (mid new : List ℕ) → AppendsBytes first old mid (Ok u)
      → AppendsBytes others mid new (Ok v) → AppendsBytes (concat_bytes first others) old new (Ok w)
  both_appended mid new p q = (
    p.0 ++ q.0,
    ap (λ x. concat_bytes x others) p.1 ∙ ap (append_bytes p.0) q.1,
    q.2 ∙ ap (λ s. s ++ q.0) p.2 ∙ append_assoc old p.0 q.0,
  )

  -- the first are refused
  pub first_refused : (new : List ℕ) (f : Fault) → AppendsBytes first old new (Err f)
      → AppendsBytes (concat_bytes first others) old new (Err f)
  first_refused new f p = (p.0, IfSome_then (refusal_of f) p.1 (λ r e. ap (λ x. concat_bytes x others) e))

  -- the others are, and the first are taken back
  pub others_refused : {u : ⊤} (mid low new : List ℕ) (f : Fault) → AppendsBytes first old mid (Ok u)
      → AppendsBytes others mid low (Err f) → new ≡ take (length old) low
      → AppendsBytes (concat_bytes first others) old new (Err f)
  others_refused mid low new f p q is = (
    is ∙ ap (take (length old)) (q.0 ∙ p.2) ∙ take-append_seam old p.0,
    IfSome_then (refusal_of f) q.1 (λ r e. ap (λ x. concat_bytes x others) p.1 ∙ ap (append_bytes p.0) e),
  )

  -- the first, and then others or a part of them
  pub then_part : {u : ⊤} (mid new : List ℕ) (result : Result ⊤ Fault) → AppendsBytes first old mid (Ok u)
      → AppendsBytesOrPart others mid new result → AppendsBytesOrPart (concat_bytes first others) old new result
  then_part mid new (Ok done) p q = both_appended mid new p q
  then_part mid new (Err f) p q =
      let rest = drop (length mid) new in
      let is : new ≡ old ++ (p.0 ++ rest) = sym (take-append-drop (length mid) new)
      ∙ ap (λ s. s ++ rest) (q.0 ∙ p.2) ∙ append_assoc old p.0 rest in (
        ap (take (length old)) is ∙ take-append_seam old (p.0 ++ rest),
        IfSome_then (refusal_of f) q.1 (λ r e. ap (λ x. concat_bytes x others) p.1 ∙ ap (append_bytes p.0) e),
      )

  -- the first are refused, so that no part is there
  pub first_refused_part : (new : List ℕ) (f : Fault) → AppendsBytes first old new (Err f)
      → AppendsBytesOrPart (concat_bytes first others) old new (Err f)
  first_refused_part new f p = (
    ap (take (length old)) p.0 ∙ take_all (length old) old (omega arith),
    IfSome_then (refusal_of f) p.1 (λ r e. ap (λ x. concat_bytes x others) e),
  )

-- the last bytes, before none
pub last_appended : (last : Bytes) (old new : List ℕ) (result : Result ⊤ Fault) → AppendsBytes last old new result
    → AppendsBytesOrPart (concat_bytes last (Ok [])) old new result
last_appended last old new (Ok done) p =
    (p.0, ap (λ x. concat_bytes x (Ok [])) p.1 ∙ ap Ok (append-nil p.0), p.2)
last_appended last old new (Err f) p = first_refused_part last (Ok []) old new f p

-- a refusal of which the part is taken back
pub part_taken_back : (w : Bytes) (old low new : List ℕ) (result : Result ⊤ Fault)
    → AppendsBytesOrPart w old low result → is_err result ≡ true → new ≡ take (length old) low
    → AppendsBytes w old new result
part_taken_back w old low new (Ok done) h e is = let no : ⊥ = cc in absurd no
part_taken_back w old low new (Err f) h e is = (is ∙ h.0, h.1)

-- a cell that is refused as a frame's has the same refusal
no_frame : (c : Cell) (x : Option (List ℕ)) (r : Refusal) → with_frame c x ≡ Err r → or_transmit x ≡ Err r
no_frame c None r e = cc
no_frame c (Some b) r e = let no : ⊥ = cc in absurd no

frame_refused : (w : Wire) (r : Refusal) → element_frame_cell w ≡ Err r → frame_bytes w ≡ Err r
frame_refused (Ok c) r e = no_frame c (frame c) r e
frame_refused (Err x) r e = cc

-- the frame of a written cell
pub frame_appended : (w : Wire) (old new : List ℕ) (result : Result ⊤ Fault) → AppendsFrame w old new result
    → AppendsBytes (frame_bytes w) old new result
frame_appended w old new (Ok done) h =
    (h.bytes, ap frame_bytes h.cell_is ∙ ap or_transmit h.frame_is, h.is)
frame_appended w old new (Err f) h = (h.0, IfSome_then (refusal_of f) h.1 (frame_refused w))

-- ---- read

answers_refused : (A : Type 0) (r : Refusal) (o : Option Refusal) → o ≡ Some r
    → IfSome o (λ x. IsRefused {A = A} r (Err x))
answers_refused A r None e = tt
answers_refused A r (Some x) e = cc

module _ {A : Type 0} (n : ℕ) (fields : List ℕ → Outcome A → Type 0) (s new : List ℕ) where
  refused_by : (x : Option Refusal) (f : Fault) → PassesNumber x s (Err f) new
      → IfSome (refusal_of f) (λ r. Unless x (fields (after_number s)) (Err r))
  refused_by None f h = let no : ⊥ = cc in absurd no
  refused_by (Some r) f h = answers_refused A r (refusal_of f) h.0

  passed_by : {u : ⊤} (x : Option Refusal) (o : Outcome A) → PassesNumber x s (Ok u) new → fields new o
      → Unless x (fields (after_number s)) o
  passed_by None o h k = subst (λ t. fields t o) h.1 k
  passed_by (Some r) o h k = absurd h.0

  -- the number of fields is refused
  pub count_refused : (f : Fault) → PassesNumber (count_fault n s) s (Err f) new
      → IfSome (refusal_of f) (λ r. CountThen n fields s (Err r))
  count_refused = refused_by (count_fault n s)

  -- it is read, and then the fields are
  pub count_passed : {u : ⊤} (o : Outcome A) → PassesNumber (count_fault n s) s (Ok u) new → fields new o
      → CountThen n fields s o
  count_passed = passed_by (count_fault n s)

end_refused_by : (x : Option Refusal) (f : Fault) → PassesCheck x (Err f) → IfSome (refusal_of f) (λ r. Unless x IsDone (Err r))
end_refused_by None f h = let no : ⊥ = cc in absurd no
end_refused_by (Some r) f h = answers_refused (Unit {0}) r (refusal_of f) h

end_passed_by : {u : ⊤} (x : Option Refusal) → PassesCheck x (Ok u) → Unless x IsDone (Ok tt)
end_passed_by None h = tt
end_passed_by (Some r) h = absurd h

-- bytes trail the last field
pub end_refused : (s : List ℕ) (f : Fault) → PassesCheck (first_fault_of (no_trailing s ∷ [])) (Err f)
    → IfSome (refusal_of f) (λ r. AtEnd s (Err r))
end_refused s = end_refused_by (first_fault_of (no_trailing s ∷ []))

-- none do
pub end_passed : {u : ⊤} (s : List ℕ) → PassesCheck (first_fault_of (no_trailing s ∷ [])) (Ok u) → AtEnd s (Ok tt)
end_passed s = end_passed_by (first_fault_of (no_trailing s ∷ []))

module _ {A B : Type 0} (reads : Cell → Outcome A → Type 0) (free : Cell → Type 0) (others : List ℕ → Outcome B → Type 0)
    (new : List ℕ) where
  first_cell_refused : (s : List ℕ) (cs : List Cell) (rest : List ℕ) (f : Fault) (o : Option Refusal)
      → refusal_of f ≡ o → ReadsFirst reads free s cs rest (Err f) new
      → IfSome o (λ r. CellThen reads others cs rest (Err r))
  first_cell_refused s cs rest f None is h = tt
  first_cell_refused s [] rest f (Some r) is h = let e : Some r ≡ Some size = sym is ∙ h.0 in cc
  first_cell_refused s (c ∷ cs) rest f (Some r) is h = inl (subst (λ o. IfSome o (λ x. reads c (Err x))) is h.0)

  first_cell_read : (s : List ℕ) (cs : List Cell) (rest : List ℕ) (v : A) (o : Outcome (A × B))
      → ((c : Cell) → reads c (Ok v) → Both (reads c) (others new) o) → ReadsFirst reads free s cs rest (Ok v) new
      → CellThen reads others cs rest o
  first_cell_read s [] rest v o both h = absurd h.0
  first_cell_read s (c ∷ cs) rest v o both h = subst (λ t. Both (reads c) (others t) o) h.2 (both c h.0)

  framed_refused : (s : List ℕ) (f : Fault) (o : Option Refusal) → refusal_of f ≡ o
      → BeginsWithCells (λ cs rest. ReadsFirst reads free s cs rest (Err f) new) s 1
      → IfSome o (λ r. FrameThen reads others s (Err r))
  framed_refused s f None is h = tt
  framed_refused s f (Some r) is h = record {
    cells = h.cells;
    rest = h.rest;
    in_row = h.in_row;
    holds = first_cell_refused s h.cells h.rest f (Some r) is h.holds;
  }

  next_refused : (x : Option Refusal) (s : List ℕ) (f : Fault) → ReadsNext x reads free s (Err f) new
      → IfSome (refusal_of f) (λ r. Unless x (FrameThen reads others (after_number s)) (Err r))
  next_refused None s f h = framed_refused (after_number s) f (refusal_of f) refl h
  next_refused (Some r) s f h = answers_refused (A × B) r (refusal_of f) h.0

  next_read : (x : Option Refusal) (s : List ℕ) (v : A) (o : Outcome (A × B)) → ReadsNext x reads free s (Ok v) new
      → ((c : Cell) → reads c (Ok v) → Both (reads c) (others new) o)
      → Unless x (FrameThen reads others (after_number s)) o
  next_read None s v o h both = record {
    cells = h.cells;
    rest = h.rest;
    in_row = h.in_row;
    holds = first_cell_read (after_number s) h.cells h.rest v o both h.holds;
  }
  next_read (Some r) s v o h both = absurd h.0

  -- a field is refused
  pub field_refused : (oid : ℕ) (s : List ℕ) (f : Fault) → ReadsNext (oid_fault oid s) reads free s (Err f) new
      → IfSome (refusal_of f) (λ r. FieldThen oid reads others s (Err r))
  field_refused oid s = next_refused (oid_fault oid s) s

  -- it is read, and the others are
  pub field_read : (oid : ℕ) (s : List ℕ) (v : A) (w : B) → ReadsNext (oid_fault oid s) reads free s (Ok v) new
      → others new (Ok w) → FieldThen oid reads others s (Ok (v, w))
  field_read oid s v w h k = next_read (oid_fault oid s) s v (Ok (v, w)) h (λ c x. (x, k))

  -- it is, and the others are refused
  pub others_not_read : (oid : ℕ) (s : List ℕ) (v : A) (o : Option Refusal)
      → ReadsNext (oid_fault oid s) reads free s (Ok v) new → IfSome o (λ r. others new (Err r))
      → IfSome o (λ r. FieldThen oid reads others s (Err r))
  others_not_read oid s v None h k = tt
  others_not_read oid s v (Some r) h k = next_read (oid_fault oid s) s v (Err r) h (λ c x. inr (v, x, k))

-- ---- memory

refusal_is_no_memory : {A : Type 0} (r : Refusal) (result : Result A Fault) → AnswersRefusal r result
    → NeverMemory result
refusal_is_no_memory r (Ok v) h = tt
refusal_is_no_memory r (Err f) h = rw h refl

size_is_no_memory : {A : Type 0} (result : Result A Fault) → AnswersSize result → NeverMemory result
size_is_no_memory (Ok v) h = tt
size_is_no_memory (Err f) h = rw h refl

-- where the number of fields is refused, it is not for memory
pub number_takes_none : (x : Option Refusal) (old new : List ℕ) (result : Result ⊤ Fault)
    → PassesNumber x old result new → NeverMemory result
number_takes_none None old new (Ok u) h = tt
number_takes_none None old new (Err f) h = let no : ⊥ = cc in absurd no
number_takes_none (Some r) old new result h = refusal_is_no_memory r result h.0

-- after it the slice stands after the number
pub number_passed : {u : ⊤} (x : Option Refusal) (old new : List ℕ) → PassesNumber x old (Ok u) new
    → new ≡ after_number old
number_passed None old new h = h.1
number_passed (Some r) old new h = absurd h.0

module _ {A : Type 0} (reads : Cell → Outcome A → Type 0) (free : Cell → Type 0) (others : List ℕ → Type 0)
    (new : List ℕ) where
  abbrev FrontFree : List ℕ → Type 0
  FrontFree s = (front rest : List ℕ) (c : Cell) → s ≡ front ++ rest → Spells front c → free c × others rest

  first_takes_none : (s : List ℕ) (cs : List Cell) (rest : List ℕ) (result : Result A Fault) → FrontFree s
      → SpellsAll s cs rest → ReadsFirst reads free s cs rest result new → NeverMemory result
  first_takes_none s [] rest result fits spelled h = size_is_no_memory result h.0
  first_takes_none s (c ∷ cs) rest result fits spelled h =
      h.1 (fits spelled.front spelled.rest c spelled.is spelled.spells).0

  then_free : (s : List ℕ) (cs : List Cell) (rest : List ℕ) (v : A) → FrontFree s → length cs ≤ 1
      → SpellsAll s cs rest → ReadsFirst reads free s cs rest (Ok v) new → others new
  then_free s [] rest v fits few spelled h = absurd h.0
  then_free s (c ∷ []) rest v fits few spelled h =
      subst others (spelled.rest_spells ∙ sym h.2) (fits spelled.front spelled.rest c spelled.is spelled.spells).1
  then_free s (c ∷ d ∷ cs) rest v fits few spelled h = let no : ⊥ = omega (arith, few) in absurd no

  -- a field that is read without memory
  pub field_takes_none : (x : Option Refusal) (s : List ℕ) (result : Result A Fault) → FieldFree free others s
      → ReadsNext x reads free s result new → NeverMemory result
  field_takes_none None s result fits h =
      first_takes_none (after_number s) h.cells h.rest result fits h.in_row.0 h.holds
  field_takes_none (Some r) s result fits h = refusal_is_no_memory r result h.0

  -- and what follows it
  pub others_take_none : (x : Option Refusal) (s : List ℕ) (v : A) → FieldFree free others s
      → ReadsNext x reads free s (Ok v) new → others new
  others_take_none None s v fits h =
      then_free (after_number s) h.cells h.rest v fits h.in_row.1 h.in_row.0 h.holds
  others_take_none (Some r) s v fits h = absurd h.0

-- a record's cells are read without memory where all bytes of its fields are
pub record_free : (fields : List ℕ → Type 0) → ((s : List ℕ) → fields s) → (c : Cell) → RecordFree fields c
record_free fields all None = tt
record_free fields all (Some s) = all (after_number s)

-- ---- fields in a row

-- no field is left
pub none_left : (fs : List Field) → nat_eq (length fs) 0 ≡ no_fields (fields_content fs)
none_left [] = refl
none_left (f ∷ fs) = grind (arith, nat_tests)

module _ {A B : Type 0} (reads : Content → Cell → Outcome A → Type 0) (free : Cell → Type 0)
    (others : FieldsContent → List ℕ → Outcome B → Type 0) (raw new : List ℕ) (fs rest : List Field) (f : Field)
    (t : PgType) (fs_are : fs ≡ f ∷ rest) (t_is : t ≡ field_type f) where
  abbrev Reads : Outcome (And A B) → Type 0
  Reads = ReadsAnd reads others (fields_content fs) raw

  moved : (o : Outcome (And A B)) → ReadsAnd reads others (FieldAnd (field_name f) (content t) (fields_content rest)) raw o
      → Reads o
  moved o h = subst (λ z. ReadsAnd reads others (fields_content z) raw o) (sym fs_are)
      (subst (λ z. ReadsAnd reads others (FieldAnd (field_name f) (content z) (fields_content rest)) raw o) t_is h)

  moved_refusal : (o : Option Refusal)
      → IfSome o (λ r. ReadsAnd reads others (FieldAnd (field_name f) (content t) (fields_content rest)) raw (Err r))
      → IfSome o (λ r. Reads (Err r))
  moved_refusal o h = IfSome_then o h (λ r. moved (Err r))

  pub and_refused : (fault : Fault)
      → ReadsNext (oid_fault (oid_of (content t)) raw) (reads (content t)) free raw (Err fault) new
      → IfSome (refusal_of fault) (λ r. Reads (Err r))
  and_refused fault h = moved_refusal (refusal_of fault)
      (field_refused (reads (content t)) free (others (fields_content rest)) new (oid_of (content t)) raw fault h)

  module _ (v : A) (first : ReadsNext (oid_fault (oid_of (content t)) raw) (reads (content t)) free raw (Ok v) new) where
    pub and_others_refused : (o : Option Refusal) → IfSome o (λ r. others (fields_content rest) new (Err r))
        → IfSome o (λ r. Reads (Err r))
    and_others_refused o h = moved_refusal o
        (others_not_read (reads (content t)) free (others (fields_content rest)) new (oid_of (content t)) raw v o first h)

    pub and_read : (w : B) → others (fields_content rest) new (Ok w) → Reads (Ok (and v w))
    and_read w h = moved (Ok (and v w))
        (field_read (reads (content t)) free (others (fields_content rest)) new (oid_of (content t)) raw v w first h)
