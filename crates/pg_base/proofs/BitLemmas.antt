-- Lemmas on bits and packed bytes.
use Rattle.std.proofs.Common.{◌&&◌, ◌≡◌, ℕ, suc, zero, ◌+◌, ◌-◌, ◌*◌, ◌/◌, ◌%◌, ◌^◌, ◌<◌, ◌≤◌, Bool, true, false}
use Rattle.std.proofs.Common.{cond, eqb, Some, None, Vec, Global, List, [], ◌∷◌, ◌++◌, length, take, set, get_or}
use Rattle.std.proofs.Common.{refl, ap, sym, ◌∙◌, arith, subst, ⊎_elim}
use Rattle.std.specs.Int.{bit_at, w8, bit_not}
use Rattle.std.specs.Int.RustNames.{bit_or}
use lib.Bits.{bit_and}
use Rattle.std.specs.List.{slice_get}
use Rattle.std.specs.Vec.{vec_len}
use Rattle.std.proofs.lemmas.Bool.{cases_lt, cases_eq, eq-eqb, ne_eqb}
use Rattle.std.proofs.lemmas.Bool.Decides.{eqb_tells, nat_tests, same_from_decides, Decides-like, Decides-and}
use Rattle.std.proofs.lemmas.Bool.Decides.{Decides-eqb}
use Rattle.std.proofs.lemmas.Slice.Eq.{slice_eq-Decides, bytes_eq-Decides}
use Rattle.std.specs.Bool.{Decides, beq}
use Rattle.std.specs.Cmp.{booleans_Decides}
use Rattle.std.specs.Cmp.Lexicographic.{pointwise}
use Rattle.std.proofs.lemmas.List.{ext_get_or, get_or_past, get_or_push, set_at, get_or_read_under, get_or-set_same}
use Rattle.std.proofs.lemmas.List.{get_or-set_other, get_or-take, length-take-le, length_push, length-set}
use Rattle.std.proofs.lemmas.List.{get_or_append_left, get_or-append_right}
use Rattle.std.proofs.lemmas.Option.{slice_get-get_or, slice_get_past}
use Rattle.std.proofs.lemmas.List.FromFn.{length-map-range_with_len, get_or-map-range_with_len}
use Rattle.std.proofs.lemmas.List.FromFn.{map-range_with_len_more, fill_by_all}
use Rattle.std.proofs.lemmas.Nat.Bits.{same_from_bits_below, bit_at-lt, bit_at-zero, bit_at_set_same}
use Rattle.std.proofs.lemmas.Nat.Bits.{bit_at_set_other, bit_at_clear_same, bit_at_clear_other, shr_and_one}
use mir.Val.{bits}
use Rattle.pg_base.specs.Bits.{bit_of, nth_bit, first_bits, bytes_for, digit, packed_byte, packed}

-- ---- the first bits of bytes
pub first_bits_len : (n : ℕ) (b : List ℕ) → length (first_bits n b) ≡ n
unfolding first_bits
first_bits_len n b = length-map-range_with_len (nth_bit b) 0 n

pub first_bits_at : (n : ℕ) (b : List ℕ) (i : ℕ) (d : Bool) → i < n → get_or (first_bits n b) i d ≡ nth_bit b i
unfolding first_bits
first_bits_at n b i d h = get_or-map-range_with_len (nth_bit b) 0 n i i d h (omega arith)

pub first_bits_get : (n : ℕ) (b : List ℕ) (i : ℕ) → i < n → slice_get (first_bits n b) i ≡ Some (nth_bit b i)
first_bits_get n b i h = slice_get-get_or (first_bits n b) i false (rw first_bits_len h)
    ∙ ap (λ x. Some x) (first_bits_at n b i false h)

pub first_bits_none : (n : ℕ) (b : List ℕ) (i : ℕ) → n ≤ i → slice_get (first_bits n b) i ≡ None
first_bits_none n b i h = slice_get_past (first_bits n b) i (rw first_bits_len h)

pub first_bits_more : (n : ℕ) (b : List ℕ) → first_bits (n + 1) b ≡ first_bits n b ++ nth_bit b n ∷ []
unfolding first_bits
first_bits_more n b = map-range_with_len_more (nth_bit b) 0 n n (omega arith)

-- a list whose items are the first bits
pub first_bits_all : (b : List ℕ) (v : List Bool) (n : ℕ) → length v ≡ n
    → ((i : ℕ) → i < n → get_or v i false ≡ nth_bit b i) → v ≡ first_bits n b
unfolding first_bits
first_bits_all b v n e h = fill_by_all (nth_bit b) v n false e h

-- bytes with the same first bits
pub first_bits_same : (n : ℕ) (b c : List ℕ) → ((i : ℕ) → i < n → nth_bit b i ≡ nth_bit c i) → first_bits n b
    ≡ first_bits n c
first_bits_same n b c h = first_bits_all c (first_bits n b) n (first_bits_len n b)
    (λ i k. first_bits_at n b i false k ∙ h i k)

-- ---- the bits of a byte
-- what holds of the eight places of a byte
at_each : (P : ℕ → Type 0) → P 0 → P 1 → P 2 → P 3 → P 4 → P 5 → P 6 → P 7 → (j : ℕ) → j < 8 → P j
at_each P a b c d e f g h zero k = a
at_each P a b c d e f g h (suc zero) k = b
at_each P a b c d e f g h (suc (suc zero)) k = c
at_each P a b c d e f g h (suc (suc (suc zero))) k = d
at_each P a b c d e f g h (suc (suc (suc (suc zero)))) k = e
at_each P a b c d e f g h (suc (suc (suc (suc (suc zero))))) k = f
at_each P a b c d e f g h (suc (suc (suc (suc (suc (suc zero)))))) k = g
at_each P a b c d e f g h (suc (suc (suc (suc (suc (suc (suc zero))))))) k = h
at_each P a b c d e f g h (suc (suc (suc (suc (suc (suc (suc (suc j)))))))) k = absurd (omega arith)

digit_le : (v : List Bool) (i : ℕ) → digit v i ≤ 1
digit_le v i = elim (get_or v i false) as (λ t. cond t 1 0 ≤ 1) [ true ↦ omega arith | false ↦ omega arith ]

digit_is : (v : List Bool) (i : ℕ) → eqb (digit v i) 1 ≡ get_or v i false
digit_is v i = elim (get_or v i false) as (λ t. eqb (cond t 1 0) 1 ≡ t) [ true ↦ refl | false ↦ refl ]

pub packed_byte_below : (v : List Bool) (k : ℕ) → packed_byte v k < 256
unfolding packed_byte
packed_byte_below v k =
    let a = digit_le v (8 * k) in
    let b = digit_le v (8 * k + 1) in
    let c = digit_le v (8 * k + 2) in
    let d = digit_le v (8 * k + 3) in
    let e = digit_le v (8 * k + 4) in
    let f = digit_le v (8 * k + 5) in
    let g = digit_le v (8 * k + 6) in
    let h = digit_le v (8 * k + 7) in
    omega arith

-- the digits of a byte
module _ (a b c d e f g h : ℕ) (a1 : a ≤ 1) (b1 : b ≤ 1) (c1 : c ≤ 1) (d1 : d ≤ 1) (e1 : e ≤ 1) (f1 : f ≤ 1)
    (g1 : g ≤ 1) (h1 : h ≤ 1) where
  digit_0 : (128 * a + 64 * b + 32 * c + 16 * d + 8 * e + 4 * f + 2 * g + h) / 128 % 2 ≡ a
  digit_0 = omega arith

  digit_1 : (128 * a + 64 * b + 32 * c + 16 * d + 8 * e + 4 * f + 2 * g + h) / 64 % 2 ≡ b
  digit_1 = omega arith

  digit_2 : (128 * a + 64 * b + 32 * c + 16 * d + 8 * e + 4 * f + 2 * g + h) / 32 % 2 ≡ c
  digit_2 = omega arith

  digit_3 : (128 * a + 64 * b + 32 * c + 16 * d + 8 * e + 4 * f + 2 * g + h) / 16 % 2 ≡ d
  digit_3 = omega arith

  digit_4 : (128 * a + 64 * b + 32 * c + 16 * d + 8 * e + 4 * f + 2 * g + h) / 8 % 2 ≡ e
  digit_4 = omega arith

  digit_5 : (128 * a + 64 * b + 32 * c + 16 * d + 8 * e + 4 * f + 2 * g + h) / 4 % 2 ≡ f
  digit_5 = omega arith

  digit_6 : (128 * a + 64 * b + 32 * c + 16 * d + 8 * e + 4 * f + 2 * g + h) / 2 % 2 ≡ g
  digit_6 = omega arith

  digit_7 : (128 * a + 64 * b + 32 * c + 16 * d + 8 * e + 4 * f + 2 * g + h) / 1 % 2 ≡ h
  digit_7 = omega arith

packed_byte_at : (v : List Bool) (k j : ℕ) → j < 8 → bit_at (packed_byte v k) (7 - j) ≡ digit v (8 * k + j)
unfolding packed_byte
packed_byte_at v k =
    let a = digit v (8 * k) in
    let b = digit v (8 * k + 1) in
    let c = digit v (8 * k + 2) in
    let d = digit v (8 * k + 3) in
    let e = digit v (8 * k + 4) in
    let f = digit v (8 * k + 5) in
    let g = digit v (8 * k + 6) in
    let h = digit v (8 * k + 7) in
    let le : (i : ℕ) → digit v i ≤ 1 = digit_le v in
    let first : 8 * k + 0 ≡ 8 * k = omega arith in
    at_each (λ j. bit_at (packed_byte v k) (7 - j) ≡ digit v (8 * k + j))
    (rw first (digit_0 a b c d e f g h (le _) (le _) (le _) (le _) (le _) (le _) (le _) (le _)))
    (digit_1 a b c d e f g h (le _) (le _) (le _) (le _) (le _) (le _) (le _) (le _))
    (digit_2 a b c d e f g h (le _) (le _) (le _) (le _) (le _) (le _) (le _) (le _))
    (digit_3 a b c d e f g h (le _) (le _) (le _) (le _) (le _) (le _) (le _) (le _))
    (digit_4 a b c d e f g h (le _) (le _) (le _) (le _) (le _) (le _) (le _) (le _))
    (digit_5 a b c d e f g h (le _) (le _) (le _) (le _) (le _) (le _) (le _) (le _))
    (digit_6 a b c d e f g h (le _) (le _) (le _) (le _) (le _) (le _) (le _) (le _))
    (digit_7 a b c d e f g h (le _) (le _) (le _) (le _) (le _) (le _) (le _) (le _))

-- a bit of bytes is one of a byte
pub nth_bit_at : (b : List ℕ) (k j i : ℕ) → j < 8 → i ≡ 8 * k + j → nth_bit b i ≡ eqb (bit_at (get_or b k 0) (7 - j)) 1
nth_bit_at b k j i h e =
    let q : i / 8 ≡ k = omega arith in
    let r : i % 8 ≡ j = omega arith in
    rw (q, r) refl

pub nth_bit_past : (b : List ℕ) (i : ℕ) → 8 * length b ≤ i → nth_bit b i ≡ false
nth_bit_past b i h =
    let e : get_or b (i / 8) 0 ≡ 0 = get_or_past b (i / 8) 0 (omega arith) in
    rw (e, bit_at-zero (7 - i % 8)) refl

-- ---- packed bytes
pub packed_len : (v : List Bool) → length (packed v) ≡ bytes_for (length v)
unfolding packed
packed_len v = length-map-range_with_len (packed_byte v) 0 (bytes_for (length v))

packed_at : (v : List Bool) (k : ℕ) → k < bytes_for (length v) → get_or (packed v) k 0 ≡ packed_byte v k
unfolding packed
packed_at v k h = get_or-map-range_with_len (packed_byte v) 0 (bytes_for (length v)) k k 0 h (omega arith)

pub packed_below : (v : List Bool) (k : ℕ) → get_or (packed v) k 0 < 256
packed_below v k =
    ⊎_elim (λ h. rw (packed_at v k h) (packed_byte_below v k))
    (λ h. rw (get_or_past (packed v) k 0 (rw packed_len h)) (omega arith))
    (cases_lt k (bytes_for (length v)))

packed_bit_inside : (v : List Bool) (k j i : ℕ) → j < 8 → i ≡ 8 * k + j → k < bytes_for (length v)
    → nth_bit (packed v) i ≡ get_or v i false
packed_bit_inside v k j i low e h =
    nth_bit_at (packed v) k j i low e ∙ ap (λ x. eqb (bit_at x (7 - j)) 1) (packed_at v k h)
    ∙ ap (λ x. eqb x 1) (packed_byte_at v k j low) ∙
    digit_is v (8 * k + j) ∙ ap (λ x. get_or v x false) (sym e)

packed_bit_past : (v : List Bool) (i : ℕ) → bytes_for (length v) ≤ i / 8 → nth_bit (packed v) i ≡ get_or v i false
packed_bit_past v i h = nth_bit_past (packed v) i (rw packed_len (omega arith))
    ∙ sym (get_or_past v i false (omega arith))

-- the bits of packed bytes are the items, and then 0
pub packed_bit : (v : List Bool) (i : ℕ) → nth_bit (packed v) i ≡ get_or v i false
packed_bit v i = ⊎_elim (packed_bit_inside v (i / 8) (i % 8) i (omega arith) (omega arith)) (packed_bit_past v i)
    (cases_lt (i / 8) (bytes_for (length v)))

same_digit : (m n : ℕ) → m < 2 → n < 2 → eqb m 1 ≡ eqb n 1 → m ≡ n
same_digit m n a b e = grind (arith, nat_tests)

same_bit : (b c : List ℕ) (k i : ℕ) → i < 8 → nth_bit b (8 * k + (7 - i)) ≡ nth_bit c (8 * k + (7 - i))
    → bit_at (get_or b k 0) i ≡ bit_at (get_or c k 0) i
same_bit b c k i h e =
    let j : 7 - (7 - i) ≡ i = omega arith in
    let low : 7 - i < 8 = omega arith in
    let f = sym (nth_bit_at b k (7 - i) (8 * k + (7 - i)) low refl) ∙ e
    ∙ nth_bit_at c k (7 - i) (8 * k + (7 - i)) low refl in
    same_digit (bit_at (get_or b k 0) i) (bit_at (get_or c k 0) i) (bit_at-lt (get_or b k 0) i)
    (bit_at-lt (get_or c k 0) i) (rw j at f)

-- bytes with the same bits are the same
same_bytes : (b c : List ℕ) → length b ≡ length c → ((k : ℕ) → get_or b k 0 < 256) → ((k : ℕ) → get_or c k 0 < 256)
    → ((i : ℕ) → i < 8 * length b → nth_bit b i ≡ nth_bit c i) → b ≡ c
same_bytes b c e bl cl h = ext_get_or 0 b c e
    (λ k k_in. same_from_bits_below 8 (get_or b k 0) (get_or c k 0) (bl k) (cl k)
    (λ i i_in. same_bit b c k i i_in (h (8 * k + (7 - i)) (omega arith))))

-- bytes whose bits are the items and then 0 are the packed ones
pub packed_single : (v : List Bool) (b : List ℕ) → length b ≡ bytes_for (length v) → ((k : ℕ) → get_or b k 0 < 256)
    → ((i : ℕ) → i < 8 * length b → nth_bit b i ≡ get_or v i false) → b ≡ packed v
packed_single v b e below h = same_bytes b (packed v) (e ∙ sym (packed_len v)) below (packed_below v)
    (λ i k. h i k ∙ sym (packed_bit v i))

-- packing and taking the bits gives the list back
pub first_bits_packed : (v : List Bool) → first_bits (length v) (packed v) ≡ v
first_bits_packed v = sym (first_bits_all (packed v) v (length v) refl (λ i h. sym (packed_bit v i)))

-- ---- one bit of a byte
pub read_bit : (byte place : ℕ) → eqb (bit_and (byte / 2 ^ (7 - place)) 1) 1 ≡ bit_of byte place
read_bit byte place = ap (λ x. eqb x 1) (shr_and_one byte (7 - place))

-- a test of two places tells which of two values stands
by_place : (at place : ℕ) (x t u : Bool) → (at ≡ place → x ≡ t) → ((at ≡ place → ⊥) → x ≡ u) → x
    ≡ cond (eqb at place) t u
by_place at place x t u same other =
    ⊎_elim (λ h. rw h.0 (same h.1)) (λ h. rw h.0 (other h.1)) (eqb_tells at place)

pub set_bit : (byte place at : ℕ) → place < 8 → at < 8 → bit_of (bit_or byte (1 * 2 ^ (7 - place) % 2 ^ bits w8)) at
    ≡ cond (eqb at place) true (bit_of byte at)
set_bit byte place at p a =
    by_place at place (bit_of (bit_or byte (1 * 2 ^ (7 - place) % 2 ^ bits w8)) at) true (bit_of byte at)
    (λ e. rw e (ap (λ x. eqb x 1) (bit_at_set_same w8 byte (7 - place) (omega arith))))
    (λ e. ap (λ x. eqb x 1) (bit_at_set_other w8 byte (7 - place) (omega arith) (7 - at) (λ f. e (omega arith))))

pub clear_bit : (byte place at : ℕ) → place < 8 → at < 8
    → bit_of (bit_and byte (bit_not w8 (1 * 2 ^ (7 - place) % 2 ^ bits w8))) at
    ≡ cond (eqb at place) false (bit_of byte at)
clear_bit byte place at p a =
    by_place at place (bit_of (bit_and byte (bit_not w8 (1 * 2 ^ (7 - place) % 2 ^ bits w8))) at) false (bit_of byte at)
    (λ e. rw e (ap (λ x. eqb x 1) (bit_at_clear_same w8 byte (7 - place) (omega arith))))
    (λ e. ap (λ x. eqb x 1) (bit_at_clear_other w8 byte (7 - place) (omega arith) (7 - at) (omega arith)
    (λ f. e (omega arith))))

-- ---- one bit of bytes
-- x is byte k of b with t put at a place
abbrev pub IsPut : List ℕ → ℕ → ℕ → Bool → ℕ → Type 0
IsPut b k place t x = (at : ℕ) → at < 8 → bit_of x at ≡ cond (eqb at place) t (bit_of (get_or b k 0) at)

pub is_put : (b : List ℕ) (k place x y : ℕ) (t : Bool) → y ≡ get_or b k 0
    → ((at : ℕ) → at < 8 → bit_of x at ≡ cond (eqb at place) t (bit_of y at)) → IsPut b k place t x
is_put b k place x y t e h at a = h at a ∙ ap (λ z. cond (eqb at place) t (bit_of z at)) e

pub put_same : (b : List ℕ) (k place i x : ℕ) (t : Bool) → k < length b → place < 8 → IsPut b k place t x → i
    ≡ 8 * k + place → nth_bit (set b k x) i ≡ t
put_same b k place i x t h low put e =
    nth_bit_at (set b k x) k place i low e ∙ ap (λ y. bit_of y place) (get_or-set_same b k x 0 h) ∙ put place low ∙
    ap (λ y. cond y t (bit_of (get_or b k 0) place)) (eq-eqb place place refl)

put_near : (b : List ℕ) (k place i x : ℕ) (t : Bool) → k < length b → IsPut b k place t x → (i ≡ 8 * k + place → ⊥)
    → i / 8 ≡ k → nth_bit (set b k x) i ≡ nth_bit b i
put_near b k place i x t h put ne e =
    let there : get_or (set b k x) (i / 8) 0 ≡ x = rw e (get_or-set_same b k x 0 h) in
    let apart : eqb (i % 8) place ≡ false = ne_eqb (i % 8) place (λ f. ne (omega arith)) in
    ap (λ y. bit_of y (i % 8)) there ∙ put (i % 8) (omega arith)
    ∙ ap (λ y. cond y t (bit_of (get_or b k 0) (i % 8))) apart ∙
    ap (λ y. bit_of (get_or b y 0) (i % 8)) (sym e)

pub put_far : (b : List ℕ) (k i x : ℕ) → (i / 8 ≡ k → ⊥) → nth_bit (set b k x) i ≡ nth_bit b i
put_far b k i x e = ap (λ y. bit_of y (i % 8)) (get_or-set_other b k (i / 8) x 0 e)

pub put_other : (b : List ℕ) (k place i x : ℕ) (t : Bool) → k < length b → IsPut b k place t x
    → (i ≡ 8 * k + place → ⊥) → nth_bit (set b k x) i ≡ nth_bit b i
put_other b k place i x t h put ne = ⊎_elim (put_near b k place i x t h put ne) (put_far b k i x) (cases_eq (i / 8) k)

pub put_below : (b : List ℕ) (k x : ℕ) → k < length b → x < 256 → ((m : ℕ) → get_or b m 0 < 256) → (m : ℕ)
    → get_or (set b k x) m 0 < 256
put_below b k x h low below m =
    ⊎_elim (λ e. subst (λ y. get_or (set b k x) y 0 < 256) (sym e) (rw (get_or-set_same b k x 0 h) low))
    (λ e. rw (get_or-set_other b k m x 0 e) (below m)) (cases_eq m k)

zero_at : (m : ℕ) → get_or {A = ℕ} (0 ∷ []) m 0 ≡ 0
zero_at zero = refl
zero_at (suc m) = refl

-- a byte 0 after bytes
pub more_at : (b : List ℕ) (m : ℕ) → get_or (b ++ 0 ∷ []) m 0 ≡ get_or b m 0
more_at b m =
    ⊎_elim (λ h. get_or_append_left b (0 ∷ []) 0 m h)
    (λ h. get_or-append_right b (0 ∷ []) (length b) m 0 refl h ∙ zero_at (m - length b) ∙ sym (get_or_past b m 0 h))
    (cases_lt m (length b))

-- ---- bytes that are packed
-- bytes of which every one is needed and whose pad is 0 are packed
pub tidy : (n : ℕ) (b : List ℕ) → length b ≡ bytes_for n → ((k : ℕ) → get_or b k 0 < 256)
    → ((i : ℕ) → n ≤ i → nth_bit b i ≡ false) → b ≡ packed (first_bits n b)
tidy n b e below pad =
    packed_single (first_bits n b) b (e ∙ ap bytes_for (sym (first_bits_len n b))) below
    (λ i h. ⊎_elim (λ k. sym (first_bits_at n b i false k))
    (λ k. pad i k ∙ sym (get_or_past (first_bits n b) i false (rw first_bits_len k))) (cases_lt i n))

-- packed bytes are as many as are needed, and their pad is 0
pub tidy_len : (n : ℕ) (b : List ℕ) → b ≡ packed (first_bits n b) → length b ≡ bytes_for n
tidy_len n b e = ap length e ∙ packed_len (first_bits n b) ∙ ap bytes_for (first_bits_len n b)

pub tidy_below : (n : ℕ) (b : List ℕ) → b ≡ packed (first_bits n b) → (k : ℕ) → get_or b k 0 < 256
tidy_below n b e k = subst (λ x. get_or x k 0 < 256) (sym e) (packed_below (first_bits n b) k)

pub tidy_pad : (n : ℕ) (b : List ℕ) → b ≡ packed (first_bits n b) → (i : ℕ) → n ≤ i → nth_bit b i ≡ false
tidy_pad n b e i h = ap (λ x. nth_bit x i) e ∙ packed_bit (first_bits n b) i
    ∙ get_or_past (first_bits n b) i false (rw first_bits_len h)

-- all bits of bytes
pub all_bits : (n : ℕ) (b : List ℕ) → n ≡ 8 * length b → ((k : ℕ) → get_or b k 0 < 256) → b ≡ packed (first_bits n b)
all_bits n b e below = tidy n b (omega arith) below (λ i h. nth_bit_past b i (omega arith))

-- lists of bits are compared bit by bit
pub bits_compared : (a b : List Bool) → Decides (pointwise beq a b) (a ≡ b)
bits_compared a b = slice_eq-Decides booleans_Decides a b (pointwise beq a b) refl

-- packed bytes and how many bits they hold are the same where the bits are
pub same_packed : (n m : ℕ) (b c : List ℕ) → b ≡ packed (first_bits n b) → c ≡ packed (first_bits m c)
    → pointwise beq (first_bits n b) (first_bits m c) ≡ (eqb n m && pointwise eqb b c)
same_packed n m b c e f =
    same_from_decides (pointwise beq (first_bits n b) (first_bits m c)) (eqb n m && pointwise eqb b c)
    (bits_compared (first_bits n b) (first_bits m c))
    (Decides-like (eqb n m && pointwise eqb b c) (λ p. ap (λ x. first_bits x b) p.0 ∙ ap (first_bits m) p.1)
    (λ p. (sym (first_bits_len n b) ∙ ap length p ∙ first_bits_len m c, e ∙ ap packed p ∙ sym f))
    (Decides-and (eqb n m) (pointwise eqb b c) (Decides-eqb n m) (bytes_eq-Decides b c)))

-- ---- a bit more, and a bit fewer
-- bytes with room for one bit after n bits
pub record HasRoom (n : ℕ) (b c : List ℕ) : Type 0 where
  pub count : length c ≡ bytes_for (n + 1)
  pub below : (k : ℕ) → get_or c k 0 < 256
  pub same : (i : ℕ) → nth_bit c i ≡ nth_bit b i

module _ (n : ℕ) (b : List ℕ) (e : b ≡ packed (first_bits n b)) where
  pub room_in_next : n % 8 ≡ 0 → HasRoom n b (b ++ 0 ∷ [])
  room_in_next h = record {
    count = length_push b 0 ∙ ap (λ x. x + 1) (tidy_len n b e) ∙ omega arith;
    below = λ k. rw (more_at b k) (tidy_below n b e k);
    same = λ i. ap (λ y. bit_of y (i % 8)) (more_at b (i / 8));
  }

  pub room_in_last : (n % 8 ≡ 0 → ⊥) → HasRoom n b b
  room_in_last h = record {
    count = tidy_len n b e ∙ omega arith;
    below = tidy_below n b e;
    same = λ i. refl;
  }

  module _ (c : List ℕ) (x : ℕ) (t : Bool) (room : HasRoom n b c) (put : IsPut c (n / 8) (n % 8) t x)
      (low : x < 256) where
    pushed_within : n / 8 < length c
    pushed_within = rw room.count (omega arith)

    pub pushed_view : first_bits (n + 1) (set c (n / 8) x) ≡ first_bits n b ++ t ∷ []
    pushed_view =
        first_bits_more n (set c (n / 8) x) ∙
        ap (λ y. y ++ nth_bit (set c (n / 8) x) n ∷ [])
        (first_bits_same n (set c (n / 8) x) b
        (λ i h. put_other c (n / 8) (n % 8) i x t pushed_within put (λ f. omega arith) ∙ room.same i)) ∙
        ap (λ y. first_bits n b ++ y ∷ []) (put_same c (n / 8) (n % 8) n x t pushed_within (omega arith) put
        (omega arith))

    pub pushed_tidy : set c (n / 8) x ≡ packed (first_bits (n + 1) (set c (n / 8) x))
    pushed_tidy =
        tidy (n + 1) (set c (n / 8) x) (length-set c (n / 8) x ∙ room.count)
        (put_below c (n / 8) x pushed_within low room.below)
        (λ i h. put_other c (n / 8) (n % 8) i x t pushed_within put (λ f. omega arith) ∙ room.same i
        ∙ tidy_pad n b e i (omega arith))

  module _ (x : ℕ) (t : Bool) (first : n % 8 ≡ 0)
      (put : (at : ℕ) → at < 8 → bit_of x at ≡ cond (eqb at (n % 8)) t (bit_of 0 at)) (low : x < 256) where
    next_at : n / 8 ≡ length b
    next_at = sym (tidy_len n b e ∙ omega arith)

    next_put : IsPut (b ++ 0 ∷ []) (n / 8) (n % 8) t x
    next_put = is_put (b ++ 0 ∷ []) (n / 8) (n % 8) x 0 t (sym (get_or_push b 0 0 (n / 8) (sym next_at))) put

    next_set : set (b ++ 0 ∷ []) (n / 8) x ≡ b ++ x ∷ []
    next_set = set_at b 0 [] x (n / 8) (sym next_at)

    pub next_view : first_bits (n + 1) (b ++ x ∷ []) ≡ first_bits n b ++ t ∷ []
    next_view = ap (first_bits (n + 1)) (sym next_set) ∙ pushed_view (b ++ 0 ∷ []) x t (room_in_next first) next_put low

    pub next_tidy : b ++ x ∷ [] ≡ packed (first_bits (n + 1) (b ++ x ∷ []))
    next_tidy = subst (λ y. y ≡ packed (first_bits (n + 1) y)) next_set
        (pushed_tidy (b ++ 0 ∷ []) x t (room_in_next first) next_put low)

module _ (n m : ℕ) (b : List ℕ) (e : b ≡ packed (first_bits n b)) (s : n ≡ m + 1) where
  pub popped_within : m / 8 < length b
  popped_within = rw (tidy_len n b e) (omega arith)

  -- what n bits are where the first m of others are the same
  all_but_last : (c : List ℕ) → ((i : ℕ) → i < m → nth_bit c i ≡ nth_bit b i) → first_bits n b ≡ first_bits m c
      ++ nth_bit b m ∷ []
  all_but_last c h = ap (λ y. first_bits y b) s ∙ first_bits_more m b
      ∙ ap (λ y. y ++ nth_bit b m ∷ []) (sym (first_bits_same m c b h))

  -- where the last byte holds one bit alone, it is dropped
  module _ (k : ℕ) (one : m % 8 ≡ 0) (whole : k ≡ m / 8) where
    same_bits : (i : ℕ) → i < m → nth_bit (take k b) i ≡ nth_bit b i
    same_bits i h = ap (λ y. bit_of y (i % 8)) (get_or-take k b (i / 8) 0 (omega arith))

    kept_len : length (take k b) ≡ m / 8
    kept_len = length-take-le k b (omega (arith, popped_within)) ∙ whole

    kept_below : (i : ℕ) → get_or (take k b) i 0 < 256
    kept_below i =
        ⊎_elim (λ h. rw (get_or-take k b i 0 h) (tidy_below n b e i))
        (λ h. rw (get_or_past (take k b) i 0 (omega (arith, kept_len))) (omega arith)) (cases_lt i k)

    pub dropped_view : first_bits n b ≡ first_bits m (take k b) ++ nth_bit b m ∷ []
    dropped_view = all_but_last (take k b) same_bits

    pub dropped_tidy : take k b ≡ packed (first_bits m (take k b))
    dropped_tidy = tidy m (take k b) (kept_len ∙ omega arith) kept_below
        (λ i h. nth_bit_past (take k b) i (omega (arith, kept_len)))

  -- where it holds more, the bit is cleared
  module _ (x : ℕ) (more : m % 8 ≡ 0 → ⊥) (put : IsPut b (m / 8) (m % 8) false x) (low : x < 256) where
    pub cleared_view : first_bits n b ≡ first_bits m (set b (m / 8) x) ++ nth_bit b m ∷ []
    cleared_view = all_but_last (set b (m / 8) x)
        (λ i h. put_other b (m / 8) (m % 8) i x false popped_within put (λ f. omega arith))

    cleared_pad : (i : ℕ) → m ≤ i → nth_bit (set b (m / 8) x) i ≡ false
    cleared_pad i h =
        ⊎_elim (λ f. put_same b (m / 8) (m % 8) i x false popped_within (omega arith) put (omega arith))
        (λ f. put_other b (m / 8) (m % 8) i x false popped_within put (λ g. f (omega arith))
        ∙ tidy_pad n b e i (omega arith)) (cases_eq i m)

    pub cleared_tidy : set b (m / 8) x ≡ packed (first_bits m (set b (m / 8) x))
    cleared_tidy =
        tidy m (set b (m / 8) x) (length-set b (m / 8) x ∙ tidy_len n b e ∙ omega arith)
        (put_below b (m / 8) x popped_within low (tidy_below n b e)) cleared_pad

-- what reading a byte of a Vec gives
pub byte_read : (v : Vec ℕ Global) (k x : ℕ) → k < vec_len v → x ≡ get_or v.items k x → x ≡ get_or v.items k 0
byte_read v k x h e = get_or_read_under v.items k v.len x 0 e h v.ok.0

-- the byte of a bit is one of the bytes
pub byte_within : (n i : ℕ) (v : Vec ℕ Global) → v.items ≡ packed (first_bits n v.items) → i < n → i / 8 < vec_len v
byte_within n i v e h = omega (arith, tidy_len n v.items e, v.ok.0)

-- the byte after the last bit is one of the bytes, where the last byte is not full
pub trailing_byte : (n : ℕ) (v : Vec ℕ Global) → v.items ≡ packed (first_bits n v.items) → (n % 8 ≡ 0 → ⊥)
    → n / 8 < vec_len v
trailing_byte n v e h = omega (arith, tidy_len n v.items e, v.ok.0)
