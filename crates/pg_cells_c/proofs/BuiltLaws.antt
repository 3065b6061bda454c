-- What closes make of lists.
use Rattle.std.specs.Prelude.{◌≡◌, ◌==◌, ◌||◌, ℕ, ◌+◌, ◌≤◌, ℤ, pos, List, [], ◌∷◌, ◌++◌, length, take, drop, Bool}
use Rattle.std.specs.Prelude.{true}
use Rattle.std.specs.Prelude.{false, if◌then◌else◌, nat_le, Option, Some, None, option_map, is_none, refl}
use Rattle.std.specs.List.{list_any}
use Rattle.std.specs.Int.{w16, w32, to_be_bytes}
use Rattle.std.specs.Str.{is_utf8}
use Rattle.std.proofs.Common.{arith, ap, sym, subst, ◌∙◌, append_assoc}
use Rattle.std.proofs.lemmas.Bool.Decides.{nat_tests}
use Rattle.std.proofs.lemmas.List.{drop_at, length-append, take_at}
use Rattle.pg_base.specs.Appending.{wire_of}
use Rattle.pg_base.specs.Arrays.{array_head, flags_of, has_null, head_bytes}
use Rattle.pg_base.specs.Cells.{Cell, be, concat, fits_prefix, frame, frames}
use Rattle.pg_base.specs.Counts.{count_bytes}
use Rattle.pg_base.specs.Hstore.{Entry, entries_bytes}
use Rattle.pg_cells_c.specs.Builders.{Closes, array_head_in, array_width, count_width, entry_bytes, field_bytes}
use Rattle.pg_cells_c.specs.Builders.{flags_in}
use Rattle.pg_cells_c.specs.Builders.{params_head, params_width, text_frame}
use Rattle.pg_cells_c.specs.Built.{BeginsWithCell, Builds, ClosesList, items_bytes, wire_array, wire_entries}
use Rattle.pg_cells_c.specs.Built.{wire_params}
use Rattle.pg_cells_c.specs.Built.{wire_record}
use Rattle.pg_cells_c.specs.declared.builders.Builder.{Builder}

-- a head that is written before the items' bytes makes the cell
head_before : {A : Type 0} (spell : A → Option (List ℕ)) (null : A → Bool) (width : ℕ) (b : Builder) (old new : List ℕ)
    (items : List A) (h : List ℕ) (built : Builds spell null width b old items) → length h ≡ width
    → new ≡ (if nat_le b.len (length old) then h ++ drop (length h) old else old)
    → (take b.len new ≡ h ++ built.bytes) × (b.len ≡ length (h ++ built.bytes))
head_before spell null width b old new items h built wide is =
    let all : length old ≡ length built.room + (length built.bytes + length built.rest) =
    ap length built.is ∙ length-append built.room (built.bytes ++ built.rest)
    ∙ ap (λ k. length built.room + k) (length-append built.bytes built.rest) in
    let whole : b.len ≤ length old = omega (arith, all, built.ends, built.wide) in
    let test : nat_le b.len (length old) ≡ true = grind (arith, nat_tests) in
    let len : length (h ++ built.bytes) ≡ b.len = omega (arith, length-append h built.bytes, built.ends, wide) in
    let rest : drop (length h) old ≡ built.bytes ++ built.rest =
    ap (drop (length h)) built.is ∙ drop_at built.room (built.bytes ++ built.rest) (length h) (built.wide ∙ sym wide) in
    let parts : new ≡ (h ++ built.bytes) ++ built.rest =
    is ∙ rw test (ap (λ r. h ++ r) rest ∙ sym (append_assoc h built.bytes built.rest)) in
    (ap (take b.len) parts ∙ take_at (h ++ built.bytes) built.rest b.len len, sym len)

-- a close makes the cell of a head and the items
closes_by : {A : Type 0} (spell : A → Option (List ℕ)) (null : A → Bool) (width : ℕ) (b : Builder) (old new : List ℕ)
    (items : List A) (n : ℕ) (head parts : Option (List ℕ)) (built : Builds spell null width b old items)
    → ((h : List ℕ) → head ≡ Some h → length h ≡ width) → parts ≡ Some built.bytes → Closes width head b old new n
    → BeginsWithCell (wire_of (concat head parts)) new n
unfolding Closes
closes_by spell null width b old new items n None parts built wide is closes =
    let room : nat_le width b.len ≡ true = grind (arith, nat_tests, built.ends) in
    (rw room at closes).1
closes_by spell null width b old new items n (Some h) parts built wide is closes =
    let room : nat_le width b.len ≡ true = grind (arith, nat_tests, built.ends) in
    let done = rw room at closes in
    let cell = head_before spell null width b old new items h built (wide h refl) done.0 in
    rw is (ap (λ k. take k new) done.1 ∙ cell.0, done.1 ∙ cell.1)

-- ---- heads

count_wide : (n : ℕ) (test : Bool) (h : List ℕ) → (if test then Some (be w32 (pos n)) else None) ≡ Some h
    → length h ≡ 4
count_wide n true h e = let is : be w32 (pos n) ≡ h = cc in ap length (sym is)
count_wide n false h e = absurd (cc)

params_wide : (n : ℕ) (test : Bool) (h : List ℕ) → (if test then Some (to_be_bytes w16 n) else None) ≡ Some h
    → length h ≡ 2
params_wide n true h e = let is : to_be_bytes w16 n ≡ h = cc in ap length (sym is)
params_wide n false h e = absurd (cc)

array_wide : (flags : ℤ) (oid n : ℕ) (test : Bool) (h : List ℕ)
    → option_map (head_bytes flags (pos 1) oid) (if test then Some (be w32 (pos n)) else None) ≡ Some h → length h ≡ 20
array_wide flags oid n true h e =
    let is : head_bytes flags (pos 1) oid (be w32 (pos n)) ≡ h = cc in ap length (sym is)
array_wide flags oid n false h e = absurd (cc)

-- the flags are those of the cells
null_is : (cells : List Cell) → has_null cells ≡ list_any is_none cells
null_is [] = refl
null_is (c ∷ cells) = ap (λ t. is_none c || t) (null_is cells)

flags_by : (n : ℕ) (test : Bool) → n ≡ (if test then 1 else 0)
    → (if n == 0 then pos 0 else pos 1) ≡ (if test then pos 1 else pos 0)
flags_by n true is = rw is refl
flags_by n false is = rw is refl

flags_are : (b : Builder) (cells : List Cell) → b.has_null ≡ (if list_any is_none cells then 1 else 0)
    → flags_in b ≡ flags_of cells
flags_are b cells is =
    flags_by b.has_null (list_any is_none cells) is ∙ ap (λ t. if t then pos 1 else pos 0) (sym (null_is cells))

-- ---- items

frames_are : (cells : List Cell) → items_bytes frame cells ≡ frames cells
frames_are [] = refl
frames_are (c ∷ cells) = ap (λ r. concat (frame c) r) (frames_are cells)

-- bytes that are there as others are
concat_same : (o p q r : Option (List ℕ)) (s : List ℕ) → ((a : List ℕ) → o ≡ Some a → q ≡ Some a)
    → ((a : List ℕ) → p ≡ Some a → r ≡ Some a) → concat o p ≡ Some s → concat q r ≡ Some s
concat_same None p q r s first second e = absurd (cc)
concat_same (Some a) None q r s first second e = absurd (cc)
concat_same (Some a) (Some d) q r s first second e = rw (first a refl, second d refl) e

text_frame_by : (text : List ℕ) (test : Bool) (s : List ℕ) → (if test then frame (Some text) else None) ≡ Some s
    → frame (Some text) ≡ Some s
text_frame_by text true s e = e
text_frame_by text false s e = absurd (cc)

text_frame_is : (c : Cell) (s : List ℕ) → text_frame c ≡ Some s → frame c ≡ Some s
text_frame_is None s e = e
text_frame_is (Some text) s e = text_frame_by text (is_utf8 text) s e

entries_are : (es : List Entry) (s : List ℕ) → items_bytes entry_bytes es ≡ Some s → entries_bytes es ≡ Some s
entries_are [] s e = e
entries_are (e ∷ es) s is =
    concat_same (entry_bytes e) (items_bytes entry_bytes es) (concat (frame (Some e.0)) (frame e.1))
    (entries_bytes es) s
    (λ a first. concat_same (text_frame (Some e.0)) (text_frame e.1) (frame (Some e.0)) (frame e.1) a
    (text_frame_is (Some e.0)) (text_frame_is e.1) first) (entries_are es) is

-- ---- the lists

pub array_closes : (oid : ℕ) → ClosesList frame is_none array_width (array_head_in oid) (wire_array oid)
array_closes oid b old new cells n built closes =
    let head : array_head_in oid b ≡ array_head (pos 1) oid cells =
    ap (λ k. option_map (head_bytes (flags_in b) (pos 1) oid) (count_bytes k)) built.counts
    ∙ ap (λ f. option_map (head_bytes f (pos 1) oid) (count_bytes (length cells))) (flags_are b cells built.null) in
    subst (λ h. BeginsWithCell (wire_of (concat h (frames cells))) new n) head
    (closes_by frame is_none array_width b old new cells n (array_head_in oid b) (frames cells) built
    (array_wide (flags_in b) oid b.count (fits_prefix b.count)) (sym (frames_are cells) ∙ built.spelled) closes)

pub params_close : ClosesList frame is_none params_width (λ b. params_head b.count) wire_params
params_close b old new cells n built closes =
    subst (λ k. BeginsWithCell (wire_of (concat (params_head k) (frames cells))) new n) built.counts
    (closes_by frame is_none params_width b old new cells n (params_head b.count) (frames cells) built
    (params_wide b.count (nat_le b.count 65535)) (sym (frames_are cells) ∙ built.spelled) closes)

pub record_closes : ClosesList field_bytes (λ f. is_none f.1) count_width (λ b. count_bytes b.count) wire_record
record_closes b old new fields n built closes =
    subst (λ k. BeginsWithCell (wire_of (concat (count_bytes k) (items_bytes field_bytes fields))) new n) built.counts
    (closes_by field_bytes (λ f. is_none f.1) count_width b old new fields n (count_bytes b.count)
    (items_bytes field_bytes fields) built (count_wide b.count (fits_prefix b.count)) built.spelled closes)

pub hstore_closes : ClosesList entry_bytes (λ e. is_none e.1) count_width (λ b. count_bytes b.count) wire_entries
hstore_closes b old new entries n built closes =
    subst (λ k. BeginsWithCell (wire_of (concat (count_bytes k) (entries_bytes entries))) new n) built.counts
    (closes_by entry_bytes (λ e. is_none e.1) count_width b old new entries n (count_bytes b.count)
    (entries_bytes entries) built (count_wide b.count (fits_prefix b.count))
    (entries_are entries built.bytes built.spelled) closes)
