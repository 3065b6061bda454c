-- From a vector's masks to bytes that stand for themselves.
use Rattle.std.proofs.Common.{◌≡◌, ℕ, zero, suc, ◌+◌, ◌-◌, ◌*◌, ◌%◌, ◌^◌, ◌<◌, ◌≤◌, Bool, true, false, cond, eqb, ltb}
use Rattle.std.proofs.Common.{List, [], ◌∷◌, get_or, length, map, replicate, refl, ap, sym, ◌∙◌, arith, w8}
use Rattle.std.proofs.Common.{eq-zero-or-pos, inl, inr, ◌==◌}
use Rattle.std.proofs.lemmas.Bool.{eqb-true, ltb-false, ne_eqb, OnTrue_from}
use Rattle.std.proofs.lemmas.Simd.{bitmask_splat, get_or-chunk, length-chunk}
use Rattle.std.specs.Bool.{OnTrue}
use Rattle.std.specs.List.{list_all}
use lib.Lanes.{chunk, mask_l, top, zip2}
use Rattle.pg_copy.specs.Escapes.{PlainBetween, is_plain}

unset : (b : Bool) (n : ℕ) → cond b 1 0 + 2 * n ≡ 0 → (b ≡ false) × (n ≡ 0)
unset true n e = absurd (omega arith)
unset false n e = (refl, omega arith)

-- where no bit is set, no lane passes the test
none_passes : (p : ℕ → Bool) (xs : List ℕ) → mask_l (map p xs) ≡ 0 → (k : ℕ) → k < length xs
    → p (get_or xs k 0) ≡ false
none_passes p [] e k h = absurd (omega arith)
none_passes p (x ∷ xs) e zero h = (unset (p x) (mask_l (map p xs)) e).0
none_passes p (x ∷ xs) e (suc k) h =
    none_passes p xs (unset (p x) (mask_l (map p xs)) e).1 k (omega arith)

-- nor does one of the bytes that were loaded to n lanes
none_passes_at : (n : ℕ) (t : ℕ → ℕ → Bool) (y : ℕ) (text : List ℕ) (at : ℕ) → n ≤ 64 → at + n ≤ length text
    → mask_l (map (top 7) (zip2 (λ a b. cond (t a b) 255 0) (chunk at n text) (replicate n y))) % 2 ^ 64 ≡ 0
    → (k : ℕ) → at ≤ k → k < at + n → t (get_or text k 0) y ≡ false
none_passes_at n t y text at few room none k from to =
    let long = length-chunk at n text room in
    let mask = bitmask_splat w8 t (chunk at n text) n y long few in
    let back : at + (k - at) ≡ k = omega arith in
    let byte = sym (get_or-chunk at n text (k - at) 0 (omega arith) ∙ ap (λ j. get_or text j 0) back) in
    ap (λ b. t b y) byte
    ∙ none_passes (λ b. t b y) (chunk at n text) (sym mask ∙ none) (k - at) (omega arith)

-- neither a control character nor a backslash
plain_byte : (byte : ℕ) → ltb byte 32 ≡ false → eqb byte 92 ≡ false → is_plain byte ≡ true
plain_byte byte printed other =
    let from : 32 ≤ byte = ltb-false byte 32 printed in
    rw (
      ne_eqb byte 8 (λ e. omega (arith, e)),
      ne_eqb byte 9 (λ e. omega (arith, e)),
      ne_eqb byte 10 (λ e. omega (arith, e)),
      ne_eqb byte 11 (λ e. omega (arith, e)),
      ne_eqb byte 12 (λ e. omega (arith, e)),
      ne_eqb byte 13 (λ e. omega (arith, e)),
      other,
    ) refl

-- the two tests of the lanes, as the code makes them
pub plain_lanes : (n : ℕ) (text : List ℕ) (at : ℕ) → n ≤ 64 → at + n ≤ length text
    → mask_l (map (top 7) (zip2 (λ a b. cond (ltb a b) 255 0) (chunk at n text) (replicate n 32))) % 2 ^ 64 ≡ 0
    → OnTrue
    (mask_l (map (top 7) (zip2 (λ a b. cond (eqb a b) 255 0) (chunk at n text) (replicate n 92))) % 2 ^ 64 == 0)
    (PlainBetween text at (at + n))
plain_lanes n text at few room printed =
    OnTrue_from _ (PlainBetween text at (at + n)) (λ e k from to. plain_byte (get_or text k 0)
    (none_passes_at n ltb 32 text at few room printed k from to)
    (none_passes_at n eqb 92 text at few room (eqb-true _ 0 e) k from to))

-- the bytes before an index and those from there
pub plain_until : (text : List ℕ) (from at to : ℕ) → from ≤ at → PlainBetween text 0 at → PlainBetween text from to
    → PlainBetween text 0 to
plain_until text from at to le before after k start end =
    elim (eq-zero-or-pos (at - k)) [
      | inl none ↦ after k (omega arith) end
      | inr more ↦ before k start (omega arith)
    ]

all_plain : (text : List ℕ) → PlainBetween text 0 (length text) → list_all is_plain text ≡ true
all_plain [] h = refl
all_plain (byte ∷ text) h =
    rw (h 0 (omega arith) (omega arith)) (all_plain text (λ k from to. h (suc k) (omega arith) (omega arith)))

-- the whole text, if its last n bytes stand for themselves
pub plain_to_end : (n : ℕ) (b : Bool) (text : List ℕ) (from at : ℕ) → from ≤ at → from + n ≡ length text
    → PlainBetween text 0 at → OnTrue b (PlainBetween text from (from + n))
    → OnTrue b (list_all is_plain text ≡ true)
plain_to_end n false text from at le len before after = tt
plain_to_end n true text from at le len before after =
    all_plain text (λ k start end. plain_until text from at (from + n) le before after k start (omega arith))
