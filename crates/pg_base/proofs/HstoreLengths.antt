-- The bytes of entries, one after another.
use Rattle.std.proofs.Common.{◌≡◌, ◌≤◌, ◌<◌, ◌+◌, ◌++◌, ℕ, List, [], ◌∷◌, length, map, take, take_all, drop, get_or}
use Rattle.std.proofs.Common.{Option, Some, None, Bool, true, false, cond, pos, refl, sym, ap, ◌∙◌, subst}
use Rattle.std.proofs.Common.{arith, append_assoc}
use Rattle.std.specs.Borrow.{Bor}
use Rattle.std.proofs.lemmas.List.{take_more, map-append, take-append-drop}
use Rattle.std.specs.Int.{w32}
use Rattle.pg_base.specs.Cells.{be, cell_of, frame, concat, fits_prefix, max_length}
use Rattle.pg_base.specs.Counts.{count_bytes, number_width}
use Rattle.pg_base.proofs.FrameLaws.{parts_of}
use Rattle.pg_base.specs.Hstore.{Entry, entries_bytes, hstore_bytes, borrowed_entry}
use Rattle.pg_base.proofs.Concat.{Bytes, concat-assoc, concat-nil, nil-concat, none_of, short_count, sum_len}

abbrev pub BorrowedEntry : Type 0
BorrowedEntry = Bor (List ℕ) × Option (Bor (List ℕ))

entries-append : (xs ys : List Entry) → entries_bytes (xs ++ ys) ≡ concat (entries_bytes xs) (entries_bytes ys)
entries-append [] ys = sym (nil-concat (entries_bytes ys))
entries-append (x ∷ xs) ys =
    let first : Bytes = concat (frame (Some x.0)) (frame x.1) in
    ap (concat first) (entries-append xs ys) ∙ sym (concat-assoc first (entries_bytes xs) (entries_bytes ys))

-- one more entry
entries-push : (xs : List Entry) (e : Entry) (bs f g : List ℕ) → entries_bytes xs ≡ Some bs → frame (Some e.0) ≡ Some f
    → frame e.1 ≡ Some g
    → entries_bytes (xs ++ e ∷ []) ≡ Some (bs ++ (f ++ g))
entries-push xs e bs f g xs_are key value =
    entries-append xs (e ∷ []) ∙ ap (concat (entries_bytes xs)) (concat-nil (concat (frame (Some e.0)) (frame e.1)))
    ∙ rw (xs_are, key, value) refl

-- the entry at a place, what comes before it, and what comes after it
entry_at : (es : List BorrowedEntry) (i : ℕ) (d : BorrowedEntry) → i < length es
    → map borrowed_entry es ≡ map borrowed_entry (take i es) ++ borrowed_entry (get_or es i d)
    ∷ map borrowed_entry (drop (i + 1) es)
entry_at es i d h =
    let whole : es ≡ (take i es ++ get_or es i d ∷ []) ++ drop (i + 1) es = sym (take-append-drop (i + 1) es)
    ∙ ap (λ l. l ++ drop (i + 1) es) (take_more es i d h) in
    ap (map borrowed_entry) (whole ∙ append_assoc (take i es) (get_or es i d ∷ []) (drop (i + 1) es))
    ∙ map-append borrowed_entry (take i es) (get_or es i d ∷ drop (i + 1) es)

pub entries_next : (es : List BorrowedEntry) (i : ℕ) (d : BorrowedEntry) (bs f g : List ℕ) → i < length es
    → entries_bytes (map borrowed_entry (take i es)) ≡ Some bs
    → frame (Some (get_or es i d).0.now) ≡ Some f → frame (cell_of (get_or es i d).1) ≡ Some g
    → entries_bytes (map borrowed_entry (take (i + 1) es)) ≡ Some (bs ++ (f ++ g))
entries_next es i d bs f g h so_far key value =
    let e : Entry = borrowed_entry (get_or es i d) in
    let one_more : map borrowed_entry (take (i + 1) es) ≡ map borrowed_entry (take i es) ++ e ∷ []
    = ap (map borrowed_entry) (take_more es i d h) ∙ map-append borrowed_entry (take i es) (get_or es i d ∷ []) in
    ap entries_bytes one_more ∙ entries-push (map borrowed_entry (take i es)) e bs f g so_far key value

-- where all entries have bytes, each has, and they are no longer than all
pub record HasEntry (e : Entry) (bs total : List ℕ) : Type 0 where
  pub key : List ℕ
  pub value : List ℕ
  pub key_is : frame (Some e.0) ≡ Some key
  pub value_is : frame e.1 ≡ Some value
  pub fits : length bs + (length key + length value) ≤ length total

pub has_entry : (es : List BorrowedEntry) (i : ℕ) (d : BorrowedEntry) (bs total : List ℕ) → i < length es
    → entries_bytes (map borrowed_entry (take i es)) ≡ Some bs
    → entries_bytes (map borrowed_entry es) ≡ Some total → HasEntry (borrowed_entry (get_or es i d)) bs total
has_entry es i d bs total h so_far all =
    let e : Entry = borrowed_entry (get_or es i d) in
    let before : List Entry = map borrowed_entry (take i es) in
    let later : List Entry = map borrowed_entry (drop (i + 1) es) in
    let parts = parts_of (entries_bytes before) (entries_bytes (e ∷ later)) total
    (sym (entries-append before (e ∷ later)) ∙ ap entries_bytes (sym (entry_at es i d h)) ∙ all) in
    let here =
    parts_of (concat (frame (Some e.0)) (frame e.1)) (entries_bytes later) parts.second parts.second_is in
    let texts = parts_of (frame (Some e.0)) (frame e.1) here.first here.first_is in
    let same : Some bs ≡ Some parts.first = sym so_far ∙ parts.first_is in
    let bs_is : bs ≡ parts.first = cc in
    let bs_len : length bs ≡ length parts.first = subst (λ (s : List ℕ). length bs ≡ length s) bs_is refl in
    record {
      key = texts.first;
      value = texts.second;
      key_is = texts.first_is;
      value_is = texts.second_is;
      fits = omega (
        arith,
        bs_len,
        sum_len total parts.first parts.second parts.whole,
        sum_len parts.second here.first here.second here.whole,
        sum_len here.first texts.first texts.second texts.whole,
      );
    }

count_of : (t : Bool) (b x : List ℕ) → cond t (Some b) None ≡ Some x → x ≡ b
count_of true b x e = cc
count_of false b x e = let no : ⊥ = cc in absurd no

-- all bytes are the count's four and the entries'
whole_parts : (es : List Entry) (b : List ℕ) → hstore_bytes es ≡ Some b → (t : List ℕ) × (entries_bytes es ≡ Some t)
    × (length b ≡ number_width + length t)
whole_parts es b e =
    let n : ℕ = length es in
    let parts = parts_of (count_bytes n) (entries_bytes es) b e in
    let four : parts.first ≡ be w32 (pos n) = count_of (fits_prefix n) (be w32 (pos n)) parts.first parts.first_is in
    let sum : length b ≡ length parts.first + length parts.second = sum_len b parts.first parts.second parts.whole in
    (parts.second, parts.second_is, sum ∙ ap (λ (s : List ℕ). length s + length parts.second) four)

-- what is left of room for all entries has room for the next
pub record HasRoom (e : Entry) (room : ℕ) : Type 0 where
  pub key : List ℕ
  pub value : List ℕ
  pub key_is : frame (Some e.0) ≡ Some key
  pub value_is : frame e.1 ≡ Some value
  pub fits : length key + length value ≤ room

pub has_room : (es : List BorrowedEntry) (i : ℕ) (d : BorrowedEntry) (bs b : List ℕ) (start now : ℕ) → i < length es
    → entries_bytes (map borrowed_entry (take i es)) ≡ Some bs
    → hstore_bytes (map borrowed_entry es) ≡ Some b → start ≤ now + length bs → length b ≤ start + number_width
    → HasRoom (borrowed_entry (get_or es i d)) now
has_room es i d bs b start now h so_far all room enough =
    let whole = whole_parts (map borrowed_entry es) b all in
    let has = has_entry es i d bs whole.0 h so_far whole.1 in
    record {
      key = has.key;
      value = has.value;
      key_is = has.key_is;
      value_is = has.value_is;
      fits =
          omega (arith, has.fits, whole.2);
    }

-- where an entry has no bytes, there are none of all
pub key_none : (es : List BorrowedEntry) (i : ℕ) (d : BorrowedEntry) (bs : List ℕ) → i < length es
    → entries_bytes (map borrowed_entry (take i es)) ≡ Some bs
    → frame (Some (get_or es i d).0.now) ≡ None → hstore_bytes (map borrowed_entry es) ≡ None
key_none es i d bs h so_far none = none_of (hstore_bytes (map borrowed_entry es)) (λ t e.
    let parts = parts_of (count_bytes (length (map borrowed_entry es))) (entries_bytes (map borrowed_entry es)) t e in
    let has = has_entry es i d bs parts.second h so_far parts.second_is in
    let no : None ≡ Some has.key = sym none ∙ has.key_is in cc)

pub value_none : (es : List BorrowedEntry) (i : ℕ) (d : BorrowedEntry) (bs : List ℕ) → i < length es
    → entries_bytes (map borrowed_entry (take i es)) ≡ Some bs
    → frame (cell_of (get_or es i d).1) ≡ None → hstore_bytes (map borrowed_entry es) ≡ None
value_none es i d bs h so_far none = none_of (hstore_bytes (map borrowed_entry es)) (λ t e.
    let parts = parts_of (count_bytes (length (map borrowed_entry es))) (entries_bytes (map borrowed_entry es)) t e in
    let has = has_entry es i d bs parts.second h so_far parts.second_is in
    let no : None ≡ Some has.value = sym none ∙ has.value_is in cc)

-- the bytes of a short list of entries that have bytes
pub short_list : (es : List BorrowedEntry) (i : ℕ) (bs : List ℕ) → length es ≤ max_length → length es ≤ i
    → entries_bytes (map borrowed_entry (take i es)) ≡ Some bs
    → hstore_bytes (map borrowed_entry es) ≡ Some (be w32 (pos (length es)) ++ bs)
short_list es i bs h whole are =
    let all : entries_bytes (map borrowed_entry es) ≡ Some bs =
    ap (λ (l : List BorrowedEntry). entries_bytes (map borrowed_entry l)) (sym (take_all i es whole)) ∙ are in
    rw (short_count borrowed_entry es h, all) refl
