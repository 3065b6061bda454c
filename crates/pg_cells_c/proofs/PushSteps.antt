-- Steps of pushing items, and of closing cells.
use Rattle.std.specs.Prelude.{◌≡◌, ℕ, ◌+◌, ◌-◌, ◌<◌, ◌≤◌, List, [], ◌++◌, length, take, drop, nat_le, nat_lt, Bool}
use Rattle.std.specs.Prelude.{true}
use Rattle.std.specs.Prelude.{false, refl, Option, Some, None, replicate}
use Rattle.std.proofs.Common.{arith, ap, sym, subst, ◌∙◌, append_assoc}
use Rattle.std.proofs.lemmas.List.{append-nil, drop-drop, length-append, length-drop, length-replicate, length-take-le}
use Rattle.std.proofs.lemmas.List.{length-take, take-append-drop}
use Rattle.std.proofs.Common.{leb-true}
use Rattle.std.proofs.lemmas.Bool.Decides.{nat_tests}
use Rattle.std.specs.Prelude.{pos, negsuc, IsUtf8, if◌then◌else◌}
use Rattle.std.specs.Str.{is_utf8}
use Rattle.std.proofs.lemmas.Str.{is_utf8-from_IsUtf8}
use Rattle.pg_cells_c.proofs.WritingSteps.{no_utf8}
use Rattle.pg_base.specs.Counts.{count_bytes}
use Rattle.std.specs.Int.{w32}
use Rattle.pg_base.specs.Cells.{Cell, be, concat, fits_prefix, frame, max_length}
use Rattle.pg_cells_c.proofs.BuilderSteps.{parts_len}
use Rattle.pg_cells_c.specs.Builders.{Closes, ClosesWith, Pushes, PushesWritten, PutsItem, StandsAt}
use Rattle.pg_cells_c.specs.Builders.{array_head_in, array_width, count_width, entry_bytes, field_bytes, goes_on}
use Rattle.pg_cells_c.specs.Builders.{has_room, params_head, params_width, text_frame, with_bytes_at}
use Rattle.pg_cells_c.specs.Writings.{WritesInto, no_cell}
use Rattle.pg_cells_c.specs.declared.builders.Builder.{Builder}
use Rattle.pg_base.proofs.Concat.{long_frame}

counts : (b : Builder) → b.count < max_length → nat_lt b.count max_length ≡ true
counts b few = grind (arith, nat_tests)

-- bytes are pushed
pub pushed_bytes : (s : List ℕ) (null : Bool) (b c : Builder) (old new : List ℕ) (n : ℕ) → b.count < max_length
    → new ≡ with_bytes_at b.len s old → c ≡ goes_on (length s) null (length old) b → n ≡ length s
    → Pushes (Some s) null b c old new n
unfolding Pushes
pushed_bytes s null b c old new n few is goes len = rw (counts b few) (is, goes, len)

-- an item of four parts is pushed
pub pushed : (p q r s : List ℕ) (null : Bool) (b c : Builder) (old new : List ℕ) (n : ℕ) → b.count < max_length
    → new ≡ with_bytes_at b.len (p ++ q ++ r ++ s) old
    → c ≡ goes_on (length p + length q + length r + length s) null (length old) b
    → n ≡ length p + length q + length r + length s → Pushes (Some (p ++ q ++ r ++ s)) null b c old new n
pushed p q r s null b c old new n few is goes len =
    pushed_bytes (p ++ q ++ r ++ s) null b c old new n few is
    (goes ∙ ap (λ k. goes_on k null (length old) b) (sym (parts_len p q r s))) (len ∙ sym (parts_len p q r s))

-- no count says that there is one item more
pub uncounted : (item : Option (List ℕ)) (null : Bool) (b c : Builder) (old new : List ℕ) (n : ℕ)
    → max_length ≤ b.count → new ≡ old → c ≡ b → n ≡ no_cell → Pushes item null b c old new n
unfolding Pushes
uncounted item null b c old new n many is same none =
    let past : nat_lt b.count max_length ≡ false = grind (arith, nat_tests) in rw past (is, same, none)

-- the head is written where the buffer has the whole cell
pub closed : (h old new : List ℕ) (b : Builder) (n : ℕ) → length h ≤ b.len → b.len ≤ length old
    → WritesInto h old new n → Closes (length h) (Some h) b old new b.len
unfolding Closes WritesInto
closed h old new b n wide fits writes =
    let room : nat_le (length h) b.len ≡ true = grind (arith, nat_tests) in
    let whole : nat_le b.len (length old) ≡ true = grind (arith, nat_tests) in
    let head : nat_le (length h) (length old) ≡ true = grind (arith, nat_tests) in
    rw (room, whole) (writes.0 ∙ rw head refl, refl)

-- and else it is not
pub not_closed : (h old : List ℕ) (b : Builder) → length h ≤ b.len → length old < b.len
    → Closes (length h) (Some h) b old old b.len
unfolding Closes
not_closed h old b wide long =
    let room : nat_le (length h) b.len ≡ true = grind (arith, nat_tests) in
    let part : nat_le b.len (length old) ≡ false = grind (arith, nat_tests) in
    rw (room, part) (refl, refl)

-- a head that has no room is not written
pub narrow : (width : ℕ) (head : Option (List ℕ)) (b : Builder) (old new : List ℕ) (n : ℕ) → b.len < width → new ≡ old
    → n ≡ no_cell → Closes width head b old new n
unfolding Closes
narrow width head b old new n less is none =
    let no_room : nat_le width b.len ≡ false = grind (arith, nat_tests) in rw no_room (is, none)

-- what stands at a place, with zeros where the buffer ends before
standing : ℕ → ℕ → List ℕ → List ℕ
standing at n buffer = let part = take n (drop at buffer) in part ++ replicate (n - length part) 0

-- it has that many bytes
standing_len : (at n : ℕ) (buffer : List ℕ) → length (standing at n buffer) ≡ n
unfolding standing
standing_len at n buffer =
    let part = take n (drop at buffer) in
    let pad : List ℕ = replicate (n - length part) 0 in
    let pad_len : length pad ≡ n - length part = length-replicate (n - length part) 0 in
    omega (arith, length-append part pad, pad_len, length-take n (drop at buffer))

-- and is what stands there where the buffer goes on
standing_is : (at n : ℕ) (buffer : List ℕ) → at + n ≤ length buffer → standing at n buffer ≡ take n (drop at buffer)
unfolding standing
standing_is at n buffer fits =
    let part = take n (drop at buffer) in
    let len : length part ≡ n = length-take-le n (drop at buffer) (omega (arith, length-drop at buffer)) in
    let none : n - length part ≡ 0 = omega (arith, len) in
    ap (λ k. part ++ replicate k 0) none ∙ append-nil part

-- the cell that is pushed of what was written
pub cell_at : (at n : ℕ) (buffer : List ℕ) → (cell : List ℕ) × StandsAt at n buffer cell
cell_at at n buffer = (standing at n buffer, (standing_len at n buffer, standing_is at n buffer))

-- the bytes after a prefix stay where they are
prefix_put : (at n : ℕ) (p cell old : List ℕ) → cell ≡ take n (drop (at + length p) old)
    → take at old ++ (p ++ drop (at + length p) old) ≡ take at old ++ ((p ++ cell) ++ drop (at + (length p + n)) old)
prefix_put at n p cell old is =
    let place = at + length p in
    let rest : drop n (drop place old) ≡ drop (at + (length p + n)) old =
    drop-drop n place old ∙ ap (λ k. drop k old) (omega arith) in
    ap (λ s. take at old ++ (p ++ s)) (sym (take-append-drop n (drop place old))
    ∙ ap (λ r. take n (drop place old) ++ r) rest
    ∙ ap (λ s. s ++ drop (at + (length p + n)) old) (sym is))
    ∙ ap (λ s. take at old ++ s) (sym (append_assoc p cell (drop (at + (length p + n)) old)))

-- a prefix is put before what stands there
pub put_before : (at n : ℕ) (p cell old : List ℕ) → has_room at (length p + n) (length old) ≡ true
    → StandsAt (at + length p) n old cell → with_bytes_at at p old ≡ with_bytes_at at (p ++ cell) old
put_before at n p cell old room stands =
    let len : length (p ++ cell) ≡ length p + n = length-append p cell ∙ ap (λ k. length p + k) stands.0 in
    let inside : at + (length p + n) ≤ length old = leb-true (at + (length p + n)) (length old) room in
    let head : has_room at (length p) (length old) ≡ true = grind (arith, nat_tests) in
    let whole : has_room at (length (p ++ cell)) (length old) ≡ true =
    ap (λ k. has_room at k (length old)) len ∙ room in
    rw (head, whole) (prefix_put at n p cell old (stands.1 (omega (arith, inside)))
    ∙ ap (λ k. take at old ++ ((p ++ cell) ++ drop (at + k) old)) (sym len))

-- nothing is put where there is no room
pub none_put : (at n : ℕ) (p cell old : List ℕ) → has_room at (length p + n) (length old) ≡ false
    → length cell ≡ n → old ≡ with_bytes_at at (p ++ cell) old
none_put at n p cell old room is =
    let len : length (p ++ cell) ≡ length p + n = length-append p cell ∙ ap (λ k. length p + k) is in
    let whole : has_room at (length (p ++ cell)) (length old) ≡ false =
    ap (λ k. has_room at k (length old)) len ∙ room in
    rw whole refl

-- what was written is pushed
pub pushed_written : (p q cell : List ℕ) (b c : Builder) (n : ℕ) (old new : List ℕ) → b.count < max_length
    → StandsAt (b.len + (length p + length q)) n old cell → new ≡ with_bytes_at b.len ((p ++ q) ++ cell) old
    → c ≡ goes_on (length p + length q + n) false (length old) b
    → PushesWritten (λ s. Some (p ++ q ++ s)) (length p + length q) n b c old new (length p + length q + n)
pushed_written p q cell b c n old new few stands is goes =
    let len : length p + length q + n ≡ length (p ++ q ++ cell) =
    omega (arith, length-append (p ++ q) cell, length-append p q, stands.0) in (
      cell,
      stands,
      pushed_bytes (p ++ q ++ cell) false b c old new (length p + length q + n) few is
          (goes ∙ ap (λ k. goes_on k false (length old) b) len) len,
    )

-- or nothing is, since no count says that there is one item more
pub uncounted_written : (spelled : List ℕ → Option (List ℕ)) (prefix n : ℕ) (b : Builder) (old : List ℕ)
    → max_length ≤ b.count → PushesWritten spelled prefix n b b old old no_cell
uncounted_written spelled prefix n b old many =
    let cell = cell_at (b.len + prefix) n old in
    (cell.0, cell.1, uncounted (spelled cell.0) false b b old old no_cell many refl refl refl)

-- ---- the items

fits : (n : ℕ) → n ≤ max_length → fits_prefix n ≡ true
fits n few = grind (arith, nat_tests)

too_long : (n : ℕ) → max_length < n → fits_prefix n ≡ false
too_long n long = grind (arith, nat_tests)

-- what has no bytes is not pushed
no_item_put : (test null : Bool) (b : Builder) (old : List ℕ)
    → PutsItem (if test then None else None) null b b old old no_cell
no_item_put true null b old = (refl, refl, refl)
no_item_put false null b old = (refl, refl, refl)

pub not_pushed : (item : Option (List ℕ)) (null : Bool) (b : Builder) (old : List ℕ) → item ≡ None
    → Pushes item null b b old old no_cell
unfolding Pushes
not_pushed item null b old none = rw none (no_item_put (nat_lt b.count max_length) null b old)

-- an item's bytes are pushed
pub pushed_as : (s : List ℕ) (item : Option (List ℕ)) (null : Bool) (b c : Builder) (old new : List ℕ) (n : ℕ)
    → item ≡ Some s → Pushes (Some s) null b c old new n → Pushes item null b c old new n
pushed_as s item null b c old new n is pushed = subst (λ i. Pushes i null b c old new n) (sym is) pushed

-- a cell's frame is pushed
pub pushed_frame : (cell head : List ℕ) (b c : Builder) (old new : List ℕ) (n : ℕ) → length cell ≤ max_length
    → head ≡ be w32 (pos (length cell)) → Pushes (Some (head ++ cell ++ [] ++ [])) false b c old new n
    → Pushes (frame (Some cell)) false b c old new n
pushed_frame cell head b c old new n short is pushed =
    pushed_as (head ++ cell ++ [] ++ []) (frame (Some cell)) false b c old new n
    (rw (fits (length cell) short) (ap Some (sym (append-nil (head ++ cell ++ []) ∙ append-nil (head ++ cell)
    ∙ ap (λ h. h ++ cell) is)))) pushed

-- a cell that is too long has none
pub no_frame : (cell : List ℕ) (b : Builder) (old : List ℕ) → max_length < length cell
    → Pushes (frame (Some cell)) false b b old old no_cell
no_frame cell b old long =
    not_pushed (frame (Some cell)) false b old (rw (too_long (length cell) long) refl)

-- nor does what was written have one
pub no_written : (spelled : List ℕ → Option (List ℕ)) (prefix n : ℕ) (b : Builder) (old : List ℕ) → max_length < n
    → ((cell : List ℕ) → max_length < length cell → spelled cell ≡ None)
    → PushesWritten spelled prefix n b b old old no_cell
no_written spelled prefix n b old long none =
    let cell = cell_at (b.len + prefix) n old in
    let is : max_length < length cell.0 = omega (arith, cell.1.0) in
    (cell.0, cell.1, not_pushed (spelled cell.0) false b old (none cell.0 is))

pub long_field : (oid : ℕ) (cell : List ℕ) → max_length < length cell → field_bytes (oid, Some cell) ≡ None
long_field oid cell long = rw (too_long (length cell) long) refl

-- a field whose cell is too long has no bytes
pub no_field : (oid : ℕ) (cell : List ℕ) (b : Builder) (old : List ℕ) → max_length < length cell
    → Pushes (field_bytes (oid, Some cell)) false b b old old no_cell
no_field oid cell b old long = not_pushed (field_bytes (oid, Some cell)) false b old (long_field oid cell long)

-- a head that has no bytes closes nothing
no_head : (test : Bool) (b : Builder) (old : List ℕ) → ClosesWith (if test then None else None) b old old no_cell
no_head true b old = (refl, refl)
no_head false b old = (refl, refl)

not_closed_with : (width : ℕ) (head : Option (List ℕ)) (b : Builder) (old : List ℕ) → head ≡ None
    → Closes width head b old old no_cell
unfolding Closes
not_closed_with width head b old none = rw none (no_head (nat_le width b.len) b old)

-- a count that is too large has none
pub no_count : (b : Builder) (old : List ℕ) → max_length < b.count
    → Closes count_width (count_bytes b.count) b old old no_cell
no_count b old many =
    not_closed_with count_width (count_bytes b.count) b old (rw (too_long b.count many) refl)

pub no_array : (oid : ℕ) (b : Builder) (old : List ℕ) → max_length < b.count
    → Closes array_width (array_head_in oid b) b old old no_cell
no_array oid b old many =
    not_closed_with array_width (array_head_in oid b) b old (rw (too_long b.count many) refl)

pub no_params : (b : Builder) (old : List ℕ) → 65535 < b.count
    → Closes params_width (params_head b.count) b old old no_cell
no_params b old many =
    let past : nat_le b.count 65535 ≡ false = grind (arith, nat_tests) in
    not_closed_with params_width (params_head b.count) b old (rw past refl)

-- ---- the entries of an hstore

-- the frame of a text
pub text_framed : (text prefix : List ℕ) → IsUtf8 text → length text ≤ max_length → prefix ≡ be w32 (pos (length text))
    → (text_frame (Some text) ≡ Some (prefix ++ text)) × (length text ≤ max_length)
text_framed text prefix is short number =
    let tested : is_utf8 text ≡ true = is_utf8-from_IsUtf8 text is in
    (rw (tested, fits (length text) short) (ap (λ p. Some (p ++ text)) (sym number)), short)

-- what is not UTF-8 has none
pub no_text_frame : (text : List ℕ) → (IsUtf8 text → ⊥) → text_frame (Some text) ≡ None
no_text_frame text other = rw (no_utf8 text other) refl

-- nor what is too long
if_none : (test : Bool) (a : Option (List ℕ)) → a ≡ None → (if test then a else None) ≡ None
if_none true a is = is
if_none false a is = refl

pub long_text : (text : List ℕ) → max_length < length text → text_frame (Some text) ≡ None
long_text text long = if_none (is_utf8 text) (frame (Some text)) (long_frame text long)

concat_none : (a : Option (List ℕ)) → concat a None ≡ None
concat_none None = refl
concat_none (Some s) = refl

-- an entry of which a text has no frame is not pushed
pub no_key : (key : List ℕ) (value : Cell) (null : Bool) (b : Builder) (old : List ℕ) → text_frame (Some key) ≡ None
    → Pushes (entry_bytes (key, value)) null b b old old no_cell
no_key key value null b old none =
    not_pushed (entry_bytes (key, value)) null b old (ap (λ f. concat f (text_frame value)) none)

pub no_value : (key value : List ℕ) (null : Bool) (b : Builder) (old : List ℕ) → text_frame (Some value) ≡ None
    → Pushes (entry_bytes (key, Some value)) null b b old old no_cell
no_value key value null b old none =
    let key_frame = text_frame (Some key) in
    not_pushed (entry_bytes (key, Some value)) null b old (ap (λ f. concat key_frame f) none ∙ concat_none key_frame)

-- the frames of a key and a value are pushed
pub entry_pushed : (p key q value : List ℕ) (b c : Builder) (old new : List ℕ) (n : ℕ)
    → text_frame (Some key) ≡ Some (p ++ key) → text_frame (Some value) ≡ Some (q ++ value)
    → Pushes (Some (p ++ key ++ q ++ value)) false b c old new n
    → Pushes (entry_bytes (key, Some value)) false b c old new n
entry_pushed p key q value b c old new n first second pushed =
    pushed_as (p ++ key ++ q ++ value) (entry_bytes (key, Some value)) false b c old new n
    (ap (λ f. concat f (text_frame (Some value))) first ∙ ap (λ f. concat (Some (p ++ key)) f) second
    ∙ ap Some (sym (append_assoc (p ++ key) q value))) pushed

-- and those of a key and NULL
pub null_entry_pushed : (p key q : List ℕ) (b c : Builder) (old new : List ℕ) (n : ℕ)
    → text_frame (Some key) ≡ Some (p ++ key) → q ≡ be w32 (negsuc 0)
    → Pushes (Some (p ++ key ++ q ++ [])) true b c old new n → Pushes (entry_bytes (key, None)) true b c old new n
null_entry_pushed p key q b c old new n first null pushed =
    pushed_as (p ++ key ++ q ++ []) (entry_bytes (key, None)) true b c old new n
    (ap (λ f. concat f (frame None)) first ∙ ap (λ s. Some ((p ++ key) ++ s)) (sym null)
    ∙ ap Some (sym (append-nil (p ++ key ++ q)))) pushed
