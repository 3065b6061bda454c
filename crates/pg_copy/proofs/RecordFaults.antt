-- Why records, and arrays of them, are refused.
use Rattle.std.proofs.Common.{◌≡◌, ◌<◌, ℕ, suc, List, [], ◌∷◌, ◌++◌, Option, Some, None, Ok, Err, length, take, drop}
use Rattle.std.proofs.Common.{get_or, ap, inl, inr, refl, sym, subst, ◌∙◌, append_assoc, append-nil, take-append-drop}
use Rattle.std.proofs.Math.Seq.{drop-cons}
use Rattle.std.proofs.lemmas.Option.{IfSome_then}
use Rattle.std.specs.Bool.{⊤}
use Rattle.std.specs.Borrow.{Bor}
use Rattle.std.specs.List.{AllZip, flat_map}
use Rattle.std.specs.Prelude.{IfSome, Vec, codes}
use Rattle.std.specs.Global.{Global}
use Rattle.pg_base.specs.Cells.{Cell, SpellsAll, cell_of}
use Rattle.pg_copy.proofs.ArrayBounds.{bound_shown, other_bound}
use Rattle.pg_copy.specs.CellRefusals.{CellFault, RefusesAs}
use Rattle.pg_copy.specs.Values.{HasOtherBound}
use Rattle.pg_types.specs.Content.{Content}
use Rattle.pg_types.specs.declared.types.built_in.BuiltIn.TheVariants.{ByteaArray}
use Rattle.postgres_types.specs.Bytea.{ReadsBytes}
use Rattle.postgres_types.specs.Content.{BuiltInType}
use Rattle.postgres_types.specs.OptionReading.{ReadsOption}
use Rattle.pg_base.specs.Counts.{after_number}
use Rattle.pg_copy.specs.Composites.{ReadsBytesOfEach, RefusesRecord, record_values, records_values}
use Rattle.pg_copy.specs.Composites.{ReadsElement, RefusesField, RefusesFields, ShowsField, ShowsRecord}
use Rattle.pg_copy.specs.declared.columns.Field.{Field}
use Rattle.postgres_types.specs.ArrayReading.{ReadsAll}
use Rattle.pg_text.specs.Lists.{ShowsElement}
use Rattle.pg_types.specs.Faults.{Outcome, Refusal, refusal_of, user}
use Rattle.pg_types.specs.declared.fault.Fault.{Fault}
use Rattle.postgres_types.specs.Records.{PassesCheck, PassesNumber}

-- a number was taken, which no check refuses
pub number_passed : {u : ⊤} (x : Option Refusal) (old new : List ℕ) → PassesNumber x old (Ok u) new
    → (x ≡ None) × (new ≡ after_number old)
number_passed None old new h = (refl, h.1)
number_passed (Some r) old new h = absurd h.0

-- a check of the number, or of the end, refused it
pub number_refused : (P : Refusal → Type 0) (x : Option Refusal) (old new : List ℕ) (f : Fault)
    → PassesNumber x old (Err f) new → ((r : Refusal) → x ≡ Some r → P r) → IfSome (refusal_of f) P
number_refused P None old new f h so = let no : ⊥ = cc in absurd no
number_refused P (Some r) old new f h so = subst (λ o. IfSome o P) (sym h.0) (so r refl)

pub check_refused : (P : Refusal → Type 0) (x : Option Refusal) (f : Fault) → PassesCheck x (Err f)
    → ((r : Refusal) → x ≡ Some r → P r) → IfSome (refusal_of f) P
check_refused P None f h so = let no : ⊥ = cc in absurd no
check_refused P (Some r) f h so = subst (λ o. IfSome o P) (sym h) (so r refl)

-- the first fields were taken, and what follows them is refused
fields_refused : (done others : List Field) (parts : List (List ℕ × List ℕ)) (s rest : List ℕ) (r : Refusal)
    → AllZip ShowsField done parts → s ≡ flat_map (λ part. part.0) parts ++ rest → RefusesFields others rest r
    → RefusesFields (done ++ others) s r
fields_refused [] others [] s rest r all is h = subst (λ t. RefusesFields others t r) (sym is) h
fields_refused [] others (part ∷ parts) s rest r all is h = absurd all
fields_refused (field ∷ done) others [] s rest r all is h = absurd all
fields_refused (field ∷ done) others (part ∷ parts) s rest r all is h =
    let next = flat_map (λ part. part.0) parts ++ rest in
    let whole : s ≡ part.0 ++ next = is ∙ append_assoc part.0 (flat_map (λ part. part.0) parts) rest in
    inr (part, next, all.0, whole, fields_refused done others parts next rest r all.1 refl h)

module _ (fields : List Field) (parts : List (List ℕ × List ℕ)) (s rest : List ℕ) (r : Refusal)
    (is : s ≡ flat_map (λ part. part.0) parts ++ rest) where
  -- the next field is refused
  pub next_refused : (i : ℕ) (field : Field) → i < length fields → field ≡ get_or fields i field
      → AllZip ShowsField (take i fields) parts → RefusesField field rest r → RefusesFields fields s r
  next_refused i field l e all h =
      let here : take i fields ++ get_or fields i field ∷ drop (suc i) fields ≡ fields =
      ap (λ (fs : List Field). take i fields ++ fs) (sym (drop-cons fields i field l)) ∙ take-append-drop i fields in
      subst (λ fs. RefusesFields fs s r) here
      (fields_refused (take i fields) (get_or fields i field ∷ drop (suc i) fields) parts s rest r all is
      (inl (subst (λ f. RefusesField f rest r) e h)))

  -- there are bytes after the last field
  pub end_refused : AllZip ShowsField fields parts → RefusesFields [] rest r → RefusesFields fields s r
  end_refused all h =
      subst (λ fs. RefusesFields fs s r) (append-nil fields) (fields_refused fields [] parts s rest r all is h)

module _ (fields : List Field) (r : Refusal) where
  elements_refused : (done : List (Option (Bor (List ℕ)))) (element : Option (Bor (List ℕ)))
      (others : List (Option (Bor (List ℕ)))) (texts : List (List ℕ))
      → AllZip (ShowsElement (λ s. ShowsRecord fields s.now)) done texts → ReadsElement fields element (Err r)
      → ReadsAll (ReadsElement fields) (done ++ element ∷ others) (Err r)
  elements_refused [] element others [] all h = inl h
  elements_refused [] element others (text ∷ texts) all h = absurd all
  elements_refused (d ∷ done) element others [] all h = absurd all
  elements_refused (d ∷ done) element others (text ∷ texts) all h =
      inr (text, all.0, elements_refused done element others texts all.1 h)

  -- the next element is refused, and those before it have texts
  pub element_refused : (elements : List (Option (Bor (List ℕ)))) (i : ℕ) (element : Option (Bor (List ℕ)))
      (texts : List (List ℕ)) → i < length elements → element ≡ get_or elements i element
      → AllZip (ShowsElement (λ s. ShowsRecord fields s.now)) (take i elements) texts
      → ReadsElement fields element (Err r) → ReadsAll (ReadsElement fields) elements (Err r)
  element_refused elements i element texts l e all h =
      let here : take i elements ++ get_or elements i element ∷ drop (suc i) elements ≡ elements =
      ap (λ (es : List (Option (Bor (List ℕ)))). take i elements ++ es) (sym (drop-cons elements i element l))
      ∙ take-append-drop i elements in
      subst (λ es. ReadsAll (ReadsElement fields) es (Err r)) here
      (elements_refused (take i elements) (get_or elements i element) (drop (suc i) elements) texts all
      (subst (λ x. ReadsElement fields x (Err r)) e h))

-- the bytes of a cell, that were taken as bytes, are refused
module _ (s new : List ℕ) (o : Option (Bor (List ℕ))) (v : Bor (List ℕ)) (e : o ≡ Some v)
    (spelled : SpellsAll s (cell_of o ∷ []) new) (f : Fault) where
  bytes_spelled : SpellsAll s (Some v.now ∷ []) new
  bytes_spelled = subst (λ x. SpellsAll s (cell_of x ∷ []) new) e spelled

  -- they are no record
  pub record_refused : (fields : List Field) → IfSome (refusal_of f) (RefusesRecord fields v.now) → (ty : Content)
      → CellFault (record_values fields) ty s f
  record_refused fields h ty = IfSome_then (refusal_of f) h (λ r q. inr (inr (v.now, new, bytes_spelled, q)))

-- the bytes of each element
abbrev bytes_of_each : Content → Cell → Outcome (Option (Bor (List ℕ))) → Type 0
bytes_of_each ty = ReadsOption (ReadsBytes (λ v. v.now))

abbrev elements : Option (Vec (Option (Bor (List ℕ))) Global) → List (Option (Bor (List ℕ)))
elements None = []
elements (Some v) = v.items

-- an array of records was taken
module _ (fields : List Field) (s new : List ℕ) (f : Fault) (ty : Content) where
  -- which has another lower bound
  pub records_bound : (o : Option (Vec (Option (Bor (List ℕ))) Global)) (v : Vec (Option (Bor (List ℕ))) Global)
      → o ≡ Some v → (cell : Cell) × SpellsAll s (cell ∷ []) new × ReadsOption ReadsBytesOfEach cell (Ok o)
      → HasOtherBound (drop 4 s) → refusal_of f ≡ Some (user (codes "array with a lower bound other than 1"))
      → CellFault (records_values fields) ty s f
  records_bound (Some w) v e (Some b, spelled, read) bound is =
      let other = other_bound bytes_of_each (BuiltInType ByteaArray) s b new w spelled read bound in
      subst (λ x. IfSome x (RefusesAs (records_values fields) ty s)) (sym is)
      (inr (inr (b, new, spelled, inl (inr (w, read, other, refl)))))
  records_bound (Some w) v e (None, spelled, read) bound is = absurd read
  records_bound None v e taken bound is = let no : ⊥ = cc in absurd no

  -- of which one is refused
  pub records_refused : (o : Option (Vec (Option (Bor (List ℕ))) Global)) (v : Vec (Option (Bor (List ℕ))) Global)
      → o ≡ Some v → (cell : Cell) × SpellsAll s (cell ∷ []) new × ReadsOption ReadsBytesOfEach cell (Ok o)
      → (HasOtherBound (drop 4 s) → ⊥)
      → IfSome (refusal_of f) (λ r. ReadsAll (ReadsElement fields) v.items (Err r))
      → CellFault (records_values fields) ty s f
  records_refused (Some w) v e (Some b, spelled, read) none h =
      let shown = bound_shown bytes_of_each (BuiltInType ByteaArray) s b new w spelled read none in
      IfSome_then (refusal_of f) h
      (λ r q. inr (inr (
        b,
        new,
        spelled,
        inr (
          w,
          shown,
          subst (λ x. ReadsAll (ReadsElement fields) (elements x) (Err r))
              (sym e) q,
        ),
      )))
  records_refused (Some w) v e (None, spelled, read) none h = absurd read
  records_refused None v e taken none h = let no : ⊥ = cc in absurd no
