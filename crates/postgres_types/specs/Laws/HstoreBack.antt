-- Laws of maps of texts: reading and writing agree, and a map is read back as itself.
use Rattle.std.specs.Prelude.{◌≡◌, ℕ, List, [], ◌∷◌, length, map, Option, Some, None, option_map, Bool, true, false}
use Rattle.std.specs.Prelude.{IsUtf8, String, string_bytes, refl}
use Rattle.std.proofs.Common.{sym, ◌∙◌, ap, cond, Ordering, Less, Equal, Greater}
use Rattle.std.proofs.lemmas.Cmp.{nat_list_eq_equiv}
use Rattle.std.proofs.lemmas.Slice.Eq.{bytes_eq-Decides}
use Rattle.std.proofs.lemmas.Str.{IsUtf8-string_bytes}
use Rattle.std.specs.Cmp.Lexicographic.{slice_cmp}
use Rattle.std.specs.Global.{Global}
use Rattle.std.specs.HashMap.{HashMap}
use Rattle.std.specs.List.{AllByRecursion}
use Rattle.std.specs.List.Sorted.{IsStrictlySortedBy}
use Rattle.std.specs.Map.{lookup}
use Rattle.std.specs.Ordering.{nat_cmp}
use Rattle.std.specs.Str.{bytes_eq}
use Rattle.pg_base.specs.Appending.{wire_of}
use Rattle.pg_base.specs.Cells.{Cell, frame, concat}
use Rattle.pg_base.proofs.CountLaws.{count_is}
use Rattle.pg_base.specs.Counts.{count_bytes}
use Rattle.pg_base.proofs.FrameLaws.{frame_spells, parts_of}
use Rattle.pg_base.specs.Hstore.{Entry, FormHstore, ReadsHstore, SameMap, SpellsEntries, entries_bytes}
use Rattle.pg_base.specs.Hstore.{first_fault_hstore, hstore_bytes, in_key_order, last_value, or_this, owned_entry}
use Rattle.pg_base.specs.Hstore.{insert_entry, insert_entry_by, value_at, wire_hstore}
use Rattle.pg_base.proofs.HstoreLaws.{hstore_grammar}
use Rattle.pg_base.specs.Options.{NoneOr}
use Rattle.pg_write.proofs.Insertion.{InOrder, in_order, in_order_lookup}
use Rattle.pg_write.proofs.SameEntries.{none_above, sorted_same}
use Rattle.postgres_types.specs.Laws.Plain.{WrittenAsKept, kept_lawful}
use Rattle.postgres_types.specs.ReadingBack.{BackKept, IsLawful}

abbrev Owned : Type 0
Owned = String Global × Option (String Global)

-- ---- what a map has at a key
found_or : (t : Bool) (v : Option (String Global)) (rest : Option (Option (String Global))) (old : Option Cell)
    → option_map (λ o. option_map string_bytes o) rest ≡ old
    → option_map (λ o. option_map string_bytes o) (cond t (Some v) rest)
    ≡ cond t (Some (option_map string_bytes v)) old
found_or true v rest old e = refl
found_or false v rest old e = e

-- the value of a key is found among the entries
found : (es : List Owned) (q : List ℕ)
    → option_map (λ o. option_map string_bytes o) (lookup (λ k. bytes_eq q (string_bytes k)) es)
    ≡ lookup (bytes_eq q) (map owned_entry es)
found [] q = refl
found (e ∷ es) q = found_or (bytes_eq q (string_bytes e.0)) e.1 _ _ (found es q)

first_or : (t : Bool) (q : List ℕ) (e : Entry) (rest : Option Cell) → bytes_eq e.0 q ≡ t → (t ≡ true → rest ≡ None)
    → cond t (Some e.1) rest ≡ or_this q e rest
first_or true q e rest h none = rw (none refl, h) refl
first_or false q e None h none = rw h refl
first_or false q e (Some v) h none = refl

-- in sorted entries the last one of a key is the first one
last_found : (q : List ℕ) (es : List Entry) → InOrder es → lookup (bytes_eq q) es ≡ last_value q es
unfolding IsStrictlySortedBy
last_found q [] h = refl
last_found q (e ∷ es) h =
    let later = last_found q es h.1 in
    ap (λ r. cond (bytes_eq q e.0) (Some e.1) r) later
    ∙ first_or (bytes_eq q e.0) q e (last_value q es) (nat_list_eq_equiv.symm e.0 q) (λ t.
    sym later ∙ ap (λ k. lookup (bytes_eq k) es) ((bytes_eq-Decides q e.0).0 t) ∙ none_above e.0 es h.0)

-- ---- the bytes of entries
-- each key is a text, and each value is one or NULL
abbrev AreTexts : List Entry → Type 0
AreTexts = AllByRecursion (λ e. IsUtf8 e.0 × NoneOr IsUtf8 e.1)

owned_value : (v : Option (String Global)) → NoneOr IsUtf8 (option_map string_bytes v)
owned_value None = tt
owned_value (Some s) = IsUtf8-string_bytes s

owned_texts : (es : List Owned) → AreTexts (map owned_entry es)
owned_texts [] = tt
owned_texts (e ∷ es) = ((IsUtf8-string_bytes e.0, owned_value e.1), owned_texts es)

insert_by_texts : (o : Ordering) (e f : Entry) (fs rest : List Entry) → AreTexts (e ∷ f ∷ fs) → AreTexts rest
    → AreTexts (insert_entry_by o e f fs rest)
insert_by_texts Less e f fs rest h k = h
insert_by_texts Equal e f fs rest h k = (h.0, h.1.1)
insert_by_texts Greater e f fs rest h k = (h.1.0, k)

insert_texts : (e : Entry) (fs : List Entry) → AreTexts (e ∷ fs) → AreTexts (insert_entry e fs)
insert_texts e [] h = h
insert_texts e (f ∷ fs) h = insert_by_texts (slice_cmp nat_cmp e.0 f.0) e f fs (insert_entry e fs) h
    (insert_texts e fs (h.0, h.1.1))

ordered_texts : (es : List Entry) → AreTexts es → AreTexts (in_key_order es)
ordered_texts [] h = tt
ordered_texts (e ∷ es) h = insert_texts e (in_key_order es) (h.0, ordered_texts es h.1)

-- the frames of texts spell the entries
entries_spelled : (es : List Entry) (s : List ℕ) → AreTexts es → entries_bytes es ≡ Some s → SpellsEntries s es []
entries_spelled [] s h e = cc
entries_spelled (x ∷ xs) s h e =
    let p = parts_of (concat (frame (Some x.0)) (frame x.1)) (entries_bytes xs) s e in
    let q = parts_of (frame (Some x.0)) (frame x.1) p.first p.first_is in
    record {
      front = p.first;
      rest = p.second;
      is = p.whole;
      spells = record {
        front = q.first;
        rest = q.second;
        is = q.whole;
        spells = (frame_spells (Some x.0) q.first q.first_is, h.0.0);
        rest_spells = (frame_spells x.1 q.second q.second_is, h.0.1);
      };
      rest_spells = entries_spelled xs p.second h.1 p.second_is;
    }

-- a count prefix and the entries spell a map that has their values
spelled : {A : Type 0} (value_at : A → List ℕ → Option Cell) (m : A) (es : List Entry) (b : List ℕ) → AreTexts es
    → ((q : List ℕ) → value_at m q ≡ last_value q es)
    → hstore_bytes es ≡ Some b → FormHstore value_at b m
spelled value_at m es b h has e =
    let p = parts_of (count_bytes (length es)) (entries_bytes es) b e in
    record {
      entries = es;
      remaining = p.second;
      counts = (p.first, p.whole, count_is (length es) p.first p.first_is);
      spells = entries_spelled es p.second h p.second_is;
      values = has;
    }

module _ {S : Type 0} where
  -- the entries of a map, sorted by key
  abbrev entries_of : HashMap (String Global) (Option (String Global)) S → List Entry
  entries_of m = in_key_order (map owned_entry m.entries)

  has_entries : (m : HashMap (String Global) (Option (String Global)) S) (q : List ℕ) → value_at m q
      ≡ lookup (bytes_eq q) (entries_of m)
  has_entries m q = found m.entries q ∙ sym (in_order_lookup q (map owned_entry m.entries))

  has_last : (m : HashMap (String Global) (Option (String Global)) S) (q : List ℕ) → value_at m q
      ≡ last_value q (entries_of m)
  has_last m q = has_entries m q ∙ last_found q (entries_of m) (in_order (map owned_entry m.entries))

  -- the same maps have the same entries, sorted by key
  same_entries : (m n : HashMap (String Global) (Option (String Global)) S) → SameMap m n → entries_of m ≡ entries_of n
  same_entries m n h =
      sorted_same (entries_of m) (entries_of n) (in_order (map owned_entry m.entries))
      (in_order (map owned_entry n.entries))
      (λ q. sym (has_entries m q) ∙ h q ∙ has_entries n q)

  map_kept : (m : HashMap (String Global) (Option (String Global)) S) (o : Option (List ℕ))
      → hstore_bytes (entries_of m) ≡ o
      → WrittenAsKept (FormHstore value_at) first_fault_hstore SameMap m (wire_of o)
  map_kept m None e = tt
  map_kept m (Some b) e =
      let law = hstore_grammar (value_at {S = S}) in
      let h = spelled value_at m (entries_of m) b (ordered_texts (map owned_entry m.entries) (owned_texts m.entries))
      (has_last m) e in (
        law.passes b m h,
        λ n k. record {
          entries = h.entries;
          remaining = h.remaining;
          counts = h.counts;
          spells = h.spells;
          values = λ q. sym (k q) ∙ h.values q;
        },
        λ n k. law.single b m n h k,
      )

  -- a map is lawful, and is read back as itself
  pub hstore_lawful : IsLawful (SameMap {S = S}) ReadsHstore (λ m. wire_hstore (map owned_entry m.entries))
      (BackKept SameMap)
  hstore_lawful = kept_lawful (FormHstore value_at) first_fault_hstore SameMap SameMap
      (λ m. wire_hstore (map owned_entry m.entries))
      (λ m n h. ap (λ es. wire_of (hstore_bytes es)) (same_entries m n h)) (λ l m n h k q. sym (h q) ∙ k q)
      (λ b m h q. refl)
      (λ m. map_kept m (hstore_bytes (entries_of m)) refl)
