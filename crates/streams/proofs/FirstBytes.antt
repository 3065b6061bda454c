-- The first separator among bytes.
use Rattle.std.proofs.Common.{◌≡◌, ◌+◌, ◌*◌, ◌%◌, ◌^◌, ◌<◌, ◌≤◌, ℕ, Bool, true, false, List, [], ◌∷◌, cond, eqb, length, map}
use Rattle.std.proofs.Common.{suc, ap, arith, eq-zero-or-pos, inl, inr, not, refl, replicate, sym, ◌∙◌, w8}
use Rattle.std.proofs.lemmas.Bool.{cases_lt}
use Rattle.std.proofs.lemmas.Simd.{bitmask_splat, length-chunk, none_from_empty_mask, run_in_chunk_fails, run_in_chunk_le}
use Rattle.std.proofs.lemmas.Simd.{run_in_chunk_stops, trailing_mask_l}
use Rattle.std.specs.List.{prefix_len}
use lib.Count.{count_trailing_zeros}
use lib.Lanes.{chunk, mask_l, top, zip2}
use Rattle.memchr.specs.Find.{NoneBefore, Nowhere, Passes, is_byte}

-- where no lane passes the test, no bit is set
no_bit : (p : ℕ → Bool) (xs : List ℕ) → prefix_len (λ x. not (p x)) xs ≡ length xs → mask_l (map p xs) ≡ 0
no_bit p [] e = refl
no_bit p (x ∷ xs) e = first_bit (p x) (no_bit p xs) e where
  first_bit : (b : Bool) → (prefix_len (λ x. not (p x)) xs ≡ length xs → mask_l (map p xs) ≡ 0)
      → cond (not b) (1 + prefix_len (λ x. not (p x)) xs) 0 ≡ suc (length xs) → cond b 1 0 + 2 * mask_l (map p xs) ≡ 0
  first_bit true others e = absurd (omega (arith, e))
  first_bit false others e = let none = others (omega (arith, e)) in omega (arith, none)

module _ (bytes : List ℕ) (separator at : ℕ) (room : at + 16 ≤ length bytes) where
  -- the bits of the lanes that are the separator
  abbrev bits : ℕ
  bits =
      mask_l (map (top 7) (zip2 (λ a b. cond (eqb a b) 255 0) (chunk at 16 bytes) (replicate 16 separator))) % 2 ^ 64

  bits_are : bits ≡ mask_l (map (λ b. eqb b separator) (chunk at 16 bytes))
  bits_are = bitmask_splat w8 eqb (chunk at 16 bytes) 16 separator (length-chunk at 16 bytes room) (omega arith)

  pub none_of_16 : bits ≡ 0 → Nowhere (Passes (is_byte separator) bytes) at (at + 16)
  none_of_16 none k from to passes =
      let fails = none_from_empty_mask (λ b. eqb b separator) bytes at 16 0 room (sym bits_are ∙ none) k from to in
      let no : ⊥ = cc in no

  pub first_of_16 : (bits ≡ 0 → ⊥)
      → NoneBefore (Passes (is_byte separator) bytes) at (at + 16) (at + count_trailing_zeros 64 bits)
      × Passes (is_byte separator) bytes (at + count_trailing_zeros 64 bits)
  first_of_16 some =
      let p : ℕ → Bool = λ b. eqb b separator in
      let xs = chunk at 16 bytes in
      let long = length-chunk at 16 bytes room in
      let r = count_trailing_zeros 64 bits in
      let set : 0 < mask_l (map p xs) = elim (eq-zero-or-pos (mask_l (map p xs))) [
        | inl none ↦ absurd (some (bits_are ∙ none))
        | inr more ↦ more
      ] in
      let counted : r ≡ prefix_len (λ x. not (p x)) xs =
      ap (count_trailing_zeros 64) bits_are ∙ trailing_mask_l p 64 xs (omega (arith, long)) set in
      let less : r < 16 = elim (cases_lt r 16) [
        | inl lt ↦ lt
        | inr ge ↦
            absurd (some (bits_are ∙ no_bit p xs (omega (arith, counted, ge, long, run_in_chunk_le p bytes at 16 r 0 room counted))))
      ] in (
        record {
          low = omega arith;
          high = omega (arith, less);
          before = λ k from to passes.
              let fails = run_in_chunk_fails p bytes at 16 r 0 room counted k from to in
              let no : ⊥ = cc in
              no;
        },
        run_in_chunk_stops p bytes at 16 r 0 room counted less,
      )
