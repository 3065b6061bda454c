-- Lemmas on the bits that pad the last byte.
use Rattle.std.proofs.Common.{◌≡◌, ℕ, ◌+◌, ◌-◌, ◌*◌, ◌/◌, ◌%◌, ◌^◌, ◌<◌, ◌≤◌, false, eqb, List, [], ◌∷◌, ◌++◌}
use Rattle.std.proofs.Common.{length, set, get_or, refl, ap, sym, ◌∙◌, arith, ⊎_elim}
use Rattle.std.specs.Int.{bit_at}
use Rattle.std.proofs.lemmas.Bool.{cases_eq}
use Rattle.std.proofs.lemmas.List.{get_or-set_same, get_or_push, length-set, length_push, nil_from_length, set_at}
use Rattle.std.proofs.lemmas.Nat.{mod_below, div-add-mod', pow_pos}
use Rattle.std.proofs.lemmas.Nat.Bits.{bit_at-zero, bit_at_cat_low, bit_at_cat_high}
use Rattle.std.proofs.Math.Nat.{add-zero, div-mul-le_self}
use Rattle.pg_base.specs.Bits.{bit_of, nth_bit, first_bits, bytes_for, packed, pad_of, without_low}
use Rattle.pg_base.proofs.BitLemmas.{first_bits_len, first_bits_same, packed_len, nth_bit_past, put_below, put_far}
use Rattle.pg_base.proofs.BitLemmas.{tidy}

-- ---- a byte without its lowest bits
low_clear : (byte k i : ℕ) → i < k → bit_at (without_low k byte) i ≡ 0
low_clear byte k i h = ap (λ y. bit_at y i) (sym (add-zero (byte / 2 ^ k * 2 ^ k)))
    ∙ bit_at_cat_low (byte / 2 ^ k) k 0 i h ∙ bit_at-zero i

high_kept : (byte k i : ℕ) → k ≤ i → bit_at (without_low k byte) i ≡ bit_at byte i
high_kept byte k i h =
    ap (λ y. bit_at y i) (sym (add-zero (byte / 2 ^ k * 2 ^ k))) ∙ bit_at_cat_high (byte / 2 ^ k) k 0 i (pow_pos k) h ∙
    sym (bit_at_cat_high (byte / 2 ^ k) k (byte % 2 ^ k) i (mod_below byte (2 ^ k) (pow_pos k)) h)
    ∙ ap (λ y. bit_at y i) (div-add-mod' byte (2 ^ k))

pub without_low_le : (k byte : ℕ) → without_low k byte ≤ byte
without_low_le k byte = div-mul-le_self byte (2 ^ k)

-- ---- bytes whose last one is without its pad
module _ (n m x : ℕ) (p : List ℕ) (count : length p ≡ bytes_for n) (last : m + 1 ≡ length p)
    (below : (k : ℕ) → get_or p k 0 < 256) (x_is : x ≡ without_low (pad_of n) (get_or p m 0)) where
  masked_at : (i : ℕ) → i / 8 ≡ m → get_or (set p m x) (i / 8) 0 ≡ without_low (pad_of n) (get_or p m 0)
  masked_at i e = ap (λ y. get_or (set p m x) y 0) e ∙ get_or-set_same p m x 0 (omega arith) ∙ x_is

  masked_near : (i : ℕ) → i < n → i / 8 ≡ m → nth_bit (set p m x) i ≡ nth_bit p i
  masked_near i h e =
      ap (λ y. bit_of y (i % 8)) (masked_at i e)
      ∙ ap (λ y. eqb y 1) (high_kept (get_or p m 0) (pad_of n) (7 - i % 8) (omega arith)) ∙
      ap (λ y. bit_of (get_or p y 0) (i % 8)) (sym e)

  masked_inside : (i : ℕ) → i < n → nth_bit (set p m x) i ≡ nth_bit p i
  masked_inside i h = ⊎_elim (masked_near i h) (put_far p m i x) (cases_eq (i / 8) m)

  masked_zero : (i : ℕ) → n ≤ i → i / 8 ≡ m → nth_bit (set p m x) i ≡ false
  masked_zero i h e = ap (λ y. bit_of y (i % 8)) (masked_at i e)
      ∙ ap (λ y. eqb y 1) (low_clear (get_or p m 0) (pad_of n) (7 - i % 8) (omega arith))

  masked_past : (i : ℕ) → n ≤ i → (i / 8 ≡ m → ⊥) → nth_bit (set p m x) i ≡ false
  masked_past i h e = nth_bit_past (set p m x) i (rw length-set (omega arith))

  masked_pad : (i : ℕ) → n ≤ i → nth_bit (set p m x) i ≡ false
  masked_pad i h = ⊎_elim (masked_zero i h) (masked_past i h) (cases_eq (i / 8) m)

  masked_below : x < 256
  masked_below = omega (arith, x_is, without_low_le (pad_of n) (get_or p m 0), below m)

  pub masked_view : first_bits n (set p m x) ≡ first_bits n p
  masked_view = first_bits_same n (set p m x) p masked_inside

  pub masked_packed : set p m x ≡ packed (first_bits n (set p m x))
  masked_packed = tidy n (set p m x) (length-set p m x ∙ count)
      (put_below p m x (omega arith) masked_below below) masked_pad

-- packed bytes are the bytes with the last one cleared of its padding
pub packed_parts : (n : ℕ) (p whole : List ℕ) (last : ℕ) → length p ≡ bytes_for n → ((k : ℕ) → get_or p k 0 < 256) → p
    ≡ whole ++ last ∷ [] → packed (first_bits n p) ≡ whole ++ without_low (pad_of n) last ∷ []
packed_parts n p whole last count below e =
    let m = length whole in
    let x = without_low (pad_of n) last in
    let end : m + 1 ≡ length p = sym (ap length e ∙ length_push whole last) in
    let at : get_or p m 0 ≡ last = ap (λ y. get_or y m 0) e ∙ get_or_push whole last 0 m refl in
    let x_is : x ≡ without_low (pad_of n) (get_or p m 0) = ap (without_low (pad_of n)) (sym at) in
    ap packed (sym (masked_view n m x p count end below x_is)) ∙ sym (masked_packed n m x p count end below x_is)
    ∙ ap (λ y. set y m x) e ∙
    set_at whole last [] x m refl

pub packed_none : (n : ℕ) (p : List ℕ) → length p ≡ bytes_for n → length p ≡ 0 → packed (first_bits n p) ≡ []
packed_none n p count none = nil_from_length (packed (first_bits n p))
    (packed_len (first_bits n p) ∙ ap bytes_for (first_bits_len n p) ∙ sym count ∙ none)

-- no bytes are packed, and hold no bits
pub none_tidy : (n : ℕ) (p : List ℕ) → length p ≡ bytes_for n → length p ≡ 0 → p ≡ packed (first_bits n p)
none_tidy n p count none = nil_from_length p none ∙ sym (packed_none n p count none)
