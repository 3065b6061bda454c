-- Laws of the header of a binary COPY.
use Rattle.std.proofs.Common.{◌≡◌, ◌==◌, ◌-◌, ◌≤◌, ◌<◌, ◌<ℤ◌, ℕ, ℤ, pos, negsuc, List, [], ◌∷◌, ◌++◌, Some, true}
use Rattle.std.proofs.Common.{Result, Ok, Err, IfErr, IsErrAnd, length, take, drop, slice_index, ap, arith, inl, inr}
use Rattle.std.proofs.Common.{refl}
use Rattle.std.proofs.Common.{subst, sym, ◌∙◌, take-append-drop}
use Rattle.std.proofs.lemmas.Int.{ints}
use Rattle.std.proofs.lemmas.List.{take_all}
use Rattle.std.proofs.lemmas.Slice.Eq.{bytes_eq-Decides}
use Rattle.std.specs.Cmp.Lexicographic.{pointwise}
use Rattle.std.specs.Int.{w32}
use Rattle.pg_base.proofs.FrameLaws.{frame-bytes}
use Rattle.pg_base.specs.Cells.{IsBe}
use Rattle.pg_tuples.specs.Reading.{AwaitsExtension, EndsInHeader, TakesHeader}
use Rattle.pg_tuples.specs.Refusals.{HasNegativeExtension, RefusesFlags, RefusesHeader}
use Rattle.pg_tuples.specs.Tuples.{signature}
use Rattle.pg_tuples.specs.declared.header.HeaderFault.{HeaderFault}
use Rattle.pg_tuples.specs.declared.header.HeaderFault.TheVariants.{Oids, Flags}

-- what is known of an error holds of the one that is answered
pub answered : {T E : Type 0} (P : E → Type 0) (r : Result T E) (x : E) → IsErrAnd r (λ e. e ≡ x) → P x → IfErr r P
answered P (Ok v) x h p = tt
answered P (Err e) x h p = subst P (sym h) p

same_bytes : (xs ys : List ℕ) → pointwise ◌==◌ xs ys ≡ true → xs ≡ ys
same_bytes xs ys e = (bytes_eq-Decides xs ys).0 e

-- bytes that the signature begins with
pub ends_in_signature : (s : List ℕ) → pointwise ◌==◌ s (take (length s) signature) ≡ true → EndsInHeader s
ends_in_signature s e =
    let same = same_bytes s (take (length s) signature) e in
    inl (
      drop (length s) signature,
      ap (λ (l : List ℕ). l ++ drop (length s) signature) same ∙ take-append-drop (length s) signature,
    )

-- what comes after the first four of more bytes
abbrev pub after_four : List ℕ → List ℕ
after_four s = take (length s - 4) (drop 4 s)

four_first : (s : List ℕ) → 4 ≤ length s
    → s ≡ slice_index s 0 ∷ slice_index s 1 ∷ slice_index s 2 ∷ slice_index s 3 ∷ after_four s
four_first [] h = let no : ⊥ = omega (arith, h) in absurd no
four_first (a ∷ []) h = let no : ⊥ = omega (arith, h) in absurd no
four_first (a ∷ b ∷ []) h = let no : ⊥ = omega (arith, h) in absurd no
four_first (a ∷ b ∷ c ∷ []) h = let no : ⊥ = omega (arith, h) in absurd no
four_first (a ∷ b ∷ c ∷ d ∷ s) h =
    let all : take (length (a ∷ b ∷ c ∷ d ∷ s) - 4) s ≡ s = take_all (length (a ∷ b ∷ c ∷ d ∷ s) - 4) s
    (omega arith) in
    ap (λ l. a ∷ b ∷ c ∷ d ∷ l) (sym all)

awaits : (a b : ℕ) (h : List ℕ) (len : ℕ) → IsBe w32 h (pos len)
    → AwaitsExtension len (signature ++ 0 ∷ 0 ∷ a ∷ b ∷ h)
awaits a b h len spelled more count =
    (a, b, more, h ++ more, frame-bytes h more (subst (λ n. IsBe w32 h (pos n)) (sym count) spelled), refl)

negative : (z : ℤ) → z <ℤ pos 0 → (n : ℕ) × (z ≡ negsuc n)
negative (pos n) h = let no : ⊥ = omega (arith, ints, h) in absurd no
negative (negsuc n) h = (n, refl)

-- the flags come after the signature
module _ (s flags : List ℕ) (signed : pointwise ◌==◌ (take (length signature) s) signature ≡ true)
    (then : flags ≡ drop (length signature) s) where
  pub signed_flags : s ≡ signature ++ flags
  signed_flags =
      sym (take-append-drop (length signature) s)
      ∙ ap (λ (l : List ℕ). l ++ drop (length signature) s) (same_bytes (take (length signature) s) signature signed)
      ∙ ap (λ (l : List ℕ). signature ++ l) (sym then)

  module _ (long : 4 ≤ length flags) where
    all_four : s ≡ signature ++ slice_index flags 0 ∷ slice_index flags 1 ∷ slice_index flags 2
        ∷ slice_index flags 3 ∷ after_four flags
    all_four = signed_flags ∙ ap (λ (l : List ℕ). signature ++ l) (four_first flags long)

    pub flags_refused : (fault : HeaderFault)
        → RefusesFlags (slice_index flags 0) (slice_index flags 1) fault → RefusesHeader s fault
    flags_refused Oids refused = (
      slice_index flags 0,
      slice_index flags 1,
      slice_index flags 2,
      slice_index flags 3,
      after_four flags,
      all_four,
      refused,
    )
    flags_refused Flags refused = (
      slice_index flags 0,
      slice_index flags 1,
      slice_index flags 2,
      slice_index flags 3,
      after_four flags,
      all_four,
      refused,
    )
    flags_refused fault refused = absurd refused

    module _ (high : slice_index flags 0 ≡ 0) (low : slice_index flags 1 ≡ 0) where
      no_critical : s ≡ signature ++ 0 ∷ 0 ∷ slice_index flags 2 ∷ slice_index flags 3 ∷ after_four flags
      no_critical =
          all_four
          ∙ ap (λ (x : ℕ). signature ++ x ∷ slice_index flags 1 ∷ slice_index flags 2 ∷ slice_index flags 3
          ∷ after_four flags) high
          ∙ ap (λ (x : ℕ). signature ++ 0 ∷ x ∷ slice_index flags 2 ∷ slice_index flags 3 ∷ after_four flags) low

      pub ends_in_length : length (after_four flags) < 4 → EndsInHeader s
      ends_in_length few =
          inr (inr (slice_index flags 2, slice_index flags 3, after_four flags, no_critical, few))

      module _ (rest : List ℕ) (z : ℤ)
          (number : (h : List ℕ) × (after_four flags ≡ h ++ rest) × IsBe w32 h z) where
        pub header_taken : (len : ℕ) → z ≡ pos len → TakesHeader s (Some len) rest
        header_taken len is = (
          signature ++ 0 ∷ 0 ∷ slice_index flags 2 ∷ slice_index flags 3 ∷ number.0,
          awaits (slice_index flags 2) (slice_index flags 3) number.0 len (subst (IsBe w32 number.0) is number.2),
          no_critical
              ∙ ap (λ (l : List ℕ). signature ++ 0 ∷ 0 ∷ slice_index flags 2 ∷ slice_index flags 3 ∷ l) number.1,
        )

        pub extension_refused : z <ℤ pos 0 → HasNegativeExtension s
        extension_refused below =
            let n = negative z below in (
              slice_index flags 2,
              slice_index flags 3,
              n.0,
              number.0,
              rest,
              subst (IsBe w32 number.0) n.1 number.2,
              no_critical
                  ∙ ap (λ (l : List ℕ). signature ++ 0 ∷ 0 ∷ slice_index flags 2 ∷ slice_index flags 3 ∷ l) number.1,
            )
