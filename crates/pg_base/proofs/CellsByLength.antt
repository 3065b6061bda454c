-- Cells by their lengths, and their frames one after another.
use Rattle.std.proofs.Common.{◌≡◌, suc, ◌<◌, ◌≤◌, ◌+◌, ◌*◌, ◌++◌, ℕ, ℤ, List, [], ◌∷◌, length, take, drop, get_or}
use Rattle.std.proofs.Common.{Option, Some, option_map}
use Rattle.std.proofs.Common.{None, Bool, true, false, not, ◌||◌, pos, negsuc, cond, refl, sym, ap, ap₂, ◌∙◌, subst}
use Rattle.std.proofs.Common.{append_assoc, arith, length-append}
use Rattle.std.proofs.lemmas.Bool.Decides.{nat_tests}
use Rattle.std.proofs.Math.Bool.{or-true, or-false}
use Rattle.std.proofs.Math.Seq.{take-append_seam}
use Rattle.std.proofs.lemmas.List.{drop_all, drop_at, drop_more, length-take-le, length-drop}
use Rattle.std.specs.Int.{w32}
use Rattle.bytes.specs.Filled.{Filled}
use Rattle.pg_base.specs.Appending.{Extends, HasRoomFor}
use Rattle.pg_base.specs.Arrays.{array_bytes, array_head, cells_of, flags_of, has_long, has_none, has_null, head_bytes, total_len}
use Rattle.pg_base.specs.Cells.{be, concat, fits_prefix, frame, frames, max_length}
use Rattle.pg_base.specs.Counts.{count_bytes, number_width}
use Rattle.pg_base.proofs.Concat.{Bytes, concat-assoc, cond_passes, extends_both, room_for_first}
use Rattle.pg_base.proofs.Concat.{room_for_second, short_frame}
use Rattle.std.proofs.lemmas.Bool.{or_parts}

pub null_by_length : (bytes : List ℕ) (lens : List (Option ℕ)) → has_null (cells_of bytes lens) ≡ has_none lens
null_by_length bytes [] = refl
null_by_length bytes (None ∷ lens) = refl
null_by_length bytes (Some n ∷ lens) = null_by_length (drop n bytes) lens

pub count_by_length : (bytes : List ℕ) (lens : List (Option ℕ)) → length (cells_of bytes lens) ≡ length lens
count_by_length bytes [] = refl
count_by_length bytes (None ∷ lens) = ap suc (count_by_length bytes lens)
count_by_length bytes (Some n ∷ lens) = ap suc (count_by_length (drop n bytes) lens)

-- so many cells have a count
pub short_lens : (bytes : List ℕ) (lens : List (Option ℕ)) → length lens ≤ max_length
    → count_bytes (length (cells_of bytes lens)) ≡ Some (be w32 (pos (length lens)))
short_lens bytes lens h =
    let fits : fits_prefix (length lens) ≡ true = grind (arith, nat_tests) in
    ap count_bytes (count_by_length bytes lens)
    ∙ cond_passes (fits_prefix (length lens)) (be w32 (pos (length lens))) fits

-- lengths that add up to so little are short
pub none_long : (lens : List (Option ℕ)) → total_len lens ≤ max_length → has_long lens ≡ false
none_long [] h = refl
none_long (None ∷ lens) h = none_long lens h
none_long (Some n ∷ lens) h =
    let fits : fits_prefix n ≡ true = grind (arith, nat_tests) in
    rw (fits, none_long lens (omega (arith, h))) refl

not_not : (a : Bool) → not a ≡ false → a ≡ true
not_not true e = refl
not_not false e = let no : ⊥ = cc in absurd no

fits_le : (n : ℕ) → fits_prefix n ≡ true → n ≤ max_length
fits_le n h = grind (arith, nat_tests)

-- the bytes of the cells after the first
rest_len : (n : ℕ) (bytes : List ℕ) (lens : List (Option ℕ)) → n + total_len lens ≡ length bytes
    → total_len lens ≡ length (drop n bytes)
rest_len n bytes lens e = omega (arith, e, length-drop n bytes)

-- short cells have frames: for each the length prefix and its bytes
pub framed_by_length : (bytes : List ℕ) (lens : List (Option ℕ)) → total_len lens ≡ length bytes
    → has_long lens ≡ false
    → (b : List ℕ) × (frames (cells_of bytes lens) ≡ Some b) × (length b ≡ number_width * length lens + length bytes)
framed_by_length bytes [] e h = ([], refl, omega (arith, e))
framed_by_length bytes (None ∷ lens) e h =
    let p = framed_by_length bytes lens e h in
    (be w32 (negsuc 0) ++ p.0, rw p.1 refl, omega (arith, p.2, length-append (be w32 (negsuc 0)) p.0))
framed_by_length bytes (Some n ∷ lens) e h =
    let short = or_parts (not (fits_prefix n)) (has_long lens) h in
    let le = fits_le n (not_not (fits_prefix n) short.0) in
    let len = length-take-le n bytes (omega (arith, e)) in
    let f = short_frame (take n bytes) (omega (arith, len, le)) in
    let p = framed_by_length (drop n bytes) lens (rest_len n bytes lens e) short.1 in (
      f.0 ++ p.0,
      rw (f.1, p.1) refl,
      omega (arith, e, len, f.2, p.2, length-drop n bytes, length-append f.0 p.0),
    )

concat-none : (a : Bytes) → concat a None ≡ None
concat-none None = refl
concat-none (Some b) = refl

long_frame : (x : List ℕ) → fits_prefix (length x) ≡ false → frame (Some x) ≡ None
long_frame x h = ap (λ t. cond t (Some (be w32 (pos (length x)) ++ x)) None) h

first_or_later : (n : ℕ) (bytes : List ℕ) (lens : List (Option ℕ)) → n ≤ length bytes
    → (has_long lens ≡ true → frames (cells_of (drop n bytes) lens) ≡ None)
    → (t : Bool) → fits_prefix n ≡ t → (not t || has_long lens) ≡ true
    → frames (cells_of bytes (Some n ∷ lens)) ≡ None
first_or_later n bytes lens le later true fits h =
    ap (concat (frame (Some (take n bytes)))) (later h) ∙ concat-none (frame (Some (take n bytes)))
first_or_later n bytes lens le later false fits h =
    ap (λ f. concat f (frames (cells_of (drop n bytes) lens)))
    (long_frame (take n bytes) (ap fits_prefix (length-take-le n bytes le) ∙ fits))

-- a long cell has none
pub unframed_by_length : (bytes : List ℕ) (lens : List (Option ℕ)) → total_len lens ≡ length bytes
    → has_long lens ≡ true → frames (cells_of bytes lens) ≡ None
unframed_by_length bytes [] e h = let no : ⊥ = cc in absurd no
unframed_by_length bytes (None ∷ lens) e h =
    ap (concat (frame None)) (unframed_by_length bytes lens e h) ∙ concat-none (frame None)
unframed_by_length bytes (Some n ∷ lens) e h =
    first_or_later n bytes lens (omega (arith, e))
    (unframed_by_length (drop n bytes) lens (rest_len n bytes lens e)) (fits_prefix n) refl h

-- an array of so many cells has a head
pub short_head : (lower_bound : ℤ) (oid : ℕ) (bytes : List ℕ) (lens : List (Option ℕ)) → length lens ≤ max_length
    → array_head lower_bound oid (cells_of bytes lens)
    ≡ Some (head_bytes (flags_of (cells_of bytes lens)) lower_bound oid (be w32 (pos (length lens))))
short_head lower_bound oid bytes lens few =
    ap (option_map (head_bytes (flags_of (cells_of bytes lens)) lower_bound oid)) (short_lens bytes lens few)

-- four bytes after the first four are put right
pub put_right : (old one wrong right rest before : List ℕ) → length one ≡ number_width
    → length wrong ≡ number_width → before ≡ old ++ (one ++ (wrong ++ rest))
    → take (length old + number_width) before ++ (right ++ drop (length old + number_width + number_width) before)
    ≡ old ++ (one ++ (right ++ rest))
put_right old one wrong right rest before four width is =
    let front : length (old ++ one) ≡ length old + number_width = omega (arith, four, length-append old one) in
    let both : length ((old ++ one) ++ wrong) ≡ length old + number_width + number_width
    = omega (arith, front, width, length-append (old ++ one) wrong) in
    let apart : before ≡ (old ++ one) ++ (wrong ++ rest) = is ∙ sym (append_assoc old one (wrong ++ rest)) in
    let first : take (length old + number_width) before ≡ old ++ one
    = ap (take (length old + number_width)) apart
    ∙ ap (λ n. take n ((old ++ one) ++ (wrong ++ rest))) (sym front)
    ∙ take-append_seam (old ++ one) (wrong ++ rest) in
    let last : drop (length old + number_width + number_width) before ≡ rest
    = ap (drop (length old + number_width + number_width)) (apart ∙ sym (append_assoc (old ++ one) wrong rest))
    ∙ drop_at ((old ++ one) ++ wrong) rest (length old + number_width + number_width) both in
    ap₂ (λ s t. s ++ (right ++ t)) first last ∙ append_assoc old one (right ++ rest)

pub array_by_length : (lower_bound : ℤ) (oid : ℕ) (bytes : List ℕ) (lens : List (Option ℕ)) → length lens ≤ max_length
    → total_len lens ≡ length bytes → has_long lens ≡ false
    → (b : List ℕ) × (array_bytes lower_bound oid (cells_of bytes lens) ≡ Some b)
    × (length b ≡ 20 + number_width * length lens + length bytes)
array_by_length lower_bound oid bytes lens few whole short =
    let head : List ℕ = head_bytes (flags_of (cells_of bytes lens)) lower_bound oid (be w32 (pos (length lens))) in
    let f = framed_by_length bytes lens whole short in (
      head ++ f.0,
      ap₂ concat (short_head lower_bound oid bytes lens few) f.1,
      omega (arith, f.2, length-append head f.0),
    )

-- and more cells have none
pub long_count : (lower_bound : ℤ) (oid : ℕ) (bytes : List ℕ) (lens : List (Option ℕ)) → max_length < length lens
    → array_bytes lower_bound oid (cells_of bytes lens) ≡ None
long_count lower_bound oid bytes lens many =
    let past : fits_prefix (length lens) ≡ false = grind (arith, nat_tests) in
    let none : count_bytes (length (cells_of bytes lens)) ≡ None
    = ap count_bytes (count_by_length bytes lens)
    ∙ ap (λ t. cond t (Some (be w32 (pos (length lens)))) None) past in
    rw none refl

pub long_cell : (lower_bound : ℤ) (oid : ℕ) (bytes : List ℕ) (lens : List (Option ℕ)) → total_len lens ≡ length bytes
    → has_long lens ≡ true → array_bytes lower_bound oid (cells_of bytes lens) ≡ None
long_cell lower_bound oid bytes lens whole long =
    ap (concat (array_head lower_bound oid (cells_of bytes lens))) (unframed_by_length bytes lens whole long)
    ∙ concat-none (array_head lower_bound oid (cells_of bytes lens))

-- of these bytes the first were appended, and the others are still to come
pub record IsOnTheWay (all others : Bytes) (start now : Filled) : Type 0 where
  -- the first bytes
  pub first : List ℕ
  -- they and the others are all
  pub is : all ≡ concat (Some first) others
  -- they were appended
  pub extends : Extends (Some first) start now

-- there is room for what comes next where there is room for all
pub next_has_room : (all next others : Bytes) (start now : Filled) → HasRoomFor all start.spare
    → IsOnTheWay all (concat next others) start now → HasRoomFor next now.spare
next_has_room all next others start now room p =
    let parts = p.is ∙ sym (concat-assoc (Some p.first) next others) in
    room_for_second (Some p.first) next start now
    (room_for_first (concat (Some p.first) next) others start.spare
    (subst (λ b. HasRoomFor b start.spare) parts room)) p.extends

pub goes_on : (all next others : Bytes) (start now new : Filled) → IsOnTheWay all (concat next others) start now
    → Extends next now new → IsOnTheWay all others start new
goes_on all None others start now new p h = absurd h
goes_on all (Some b) others start now new p h = record {
  first = p.first ++ b;
  is = p.is ∙ sym (concat-assoc (Some p.first) (Some b) others);
  extends = extends_both (Some p.first) (Some b) start now new p.extends h;
}

-- the frames so far were appended, and the rest is the bytes of the cells of these lengths, which are still to come
abbrev pub IsFramedUpTo : Bytes → List ℕ → List (Option ℕ) → Filled → Filled → Type 0
IsFramedUpTo all rest lens start now =
    (total_len lens ≡ length rest) × IsOnTheWay all (frames (cells_of rest lens)) start now

-- the next of them has this length
pub at_next : (all : Bytes) (rest : List ℕ) (lens : List (Option ℕ)) (i : ℕ) (d n : Option ℕ) (start now : Filled)
    → i < length lens → get_or lens i d ≡ n → IsFramedUpTo all rest (drop i lens) start now
    → IsFramedUpTo all rest (n ∷ drop (i + 1) lens) start now
at_next all rest lens i d n start now h is so_far =
    subst (λ l. IsFramedUpTo all rest l start now) (drop_more lens i d h ∙ ap (λ m. m ∷ drop (i + 1) lens) is) so_far

pub null_framed : (all : Bytes) (rest : List ℕ) (lens : List (Option ℕ)) (start now new : Filled)
    → IsFramedUpTo all rest (None ∷ lens) start now → Extends (frame None) now new
    → IsFramedUpTo all rest lens start new
null_framed all rest lens start now new p h =
    (p.0, goes_on all (frame None) (frames (cells_of rest lens)) start now new p.1 h)

pub cell_framed : (all : Bytes) (rest : List ℕ) (n : ℕ) (lens : List (Option ℕ)) (start now new : Filled)
    → IsFramedUpTo all rest (Some n ∷ lens) start now → Extends (frame (Some (take n rest))) now new
    → IsFramedUpTo all (drop n rest) lens start new
cell_framed all rest n lens start now new p h = (
  rest_len n rest lens p.0,
  goes_on all (frame (Some (take n rest))) (frames (cells_of (drop n rest) lens)) start now new p.1 h,
)

-- whether one of the lengths is that of NULL: one was found, or is still to come
abbrev pub HasNone : Bool → List (Option ℕ) → List (Option ℕ) → Type 0
HasNone found lens rest = has_none lens ≡ (found || has_none rest)

module _ (found : Bool) (lens : List (Option ℕ)) (i : ℕ) (d : Option ℕ) (h : i < length lens) where
  next_first : (n : Option ℕ) → get_or lens i d ≡ n → has_none (drop i lens) ≡ has_none (n ∷ drop (i + 1) lens)
  next_first n is = ap has_none (drop_more lens i d h ∙ ap (λ m. m ∷ drop (i + 1) lens) is)

  -- the next is that of NULL
  pub none_found : get_or lens i d ≡ None → HasNone found lens (drop i lens) → HasNone true lens (drop (i + 1) lens)
  none_found is so_far = so_far ∙ ap (λ t. found || t) (next_first None is) ∙ or-true found

  -- it is that of another cell
  pub some_found : (n : ℕ) → get_or lens i d ≡ Some n → HasNone found lens (drop i lens)
      → HasNone found lens (drop (i + 1) lens)
  some_found n is so_far = so_far ∙ ap (λ t. found || t) (next_first (Some n) is)

-- all were looked at
pub all_found : (found : Bool) (lens : List (Option ℕ)) (i : ℕ) → length lens ≤ i → HasNone found lens (drop i lens)
    → found ≡ has_none lens
all_found found lens i end so_far =
    let none : drop i lens ≡ [] = drop_all i lens end in
    sym (so_far ∙ ap (λ rest. found || has_none rest) none ∙ or-false found)
