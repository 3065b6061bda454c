-- The checks of the head of an array are complete.
use Rattle.std.specs.Prelude.{◌≡◌, ◌++◌, ◌∷◌, ℕ, zero, suc, List, length, drop, take, None, true, nat_le, refl}
use Rattle.std.proofs.Common.{sym, ◌∙◌, ap, arith, length-take, length-drop, take-append-drop}
use Rattle.std.proofs.lemmas.Bool.{leb-true}
use Rattle.std.proofs.lemmas.Bool.Decides.{nat_tests}
use Rattle.pg_base.proofs.ArrayLaws.{head_passes, head_single}
use Rattle.pg_base.proofs.CellRows.{trailing_bytes}
use Rattle.pg_base.proofs.Completeness.{both_pass, first_passes}
use Rattle.pg_base.proofs.CompletenessBits.{count_at_front, count_from, number_at_front}
use Rattle.pg_base.specs.Arrays.{SpellsDimensions, SpellsHead, dimension_checks, head_checks, pair_width}
use Rattle.pg_base.specs.Cells.{AreBytes}
use Rattle.pg_base.specs.Counts.{ToRead, count_checks, count_or_zero, has_number, not_negative, number_in}
use Rattle.pg_base.specs.Counts.{after_number, number_width}
use Rattle.pg_base.specs.Formats.{IsComplete, IsGrammar, first_fault_of}
use Rattle.pg_types.specs.Faults.{count, size}

eight_have_four : (s : List ℕ) → nat_le pair_width (length s) ≡ true → has_number s ≡ true
eight_have_four s e = let long = leb-true pair_width (length s) e in grind (arith, nat_tests)

dimensions_at_front : (d : ℕ) (s : List ℕ) → AreBytes s → first_fault_of (dimension_checks d s) ≡ None
    → (r : ToRead) × SpellsDimensions d s r
dimensions_at_front zero s h e = (record { left = 0; bytes = s }, (refl, refl))
dimensions_at_front (suc zero) s h e =
    let eight = first_passes (nat_le pair_width (length s)) size _ e in
    let sign = first_passes (not_negative (number_in s)) count None eight.1 in
    let number = number_at_front s h (eight_have_four s eight.0) in
    let long = leb-true pair_width (length s) eight.0 in
    let four : length (take number_width (after_number s)) ≡ number_width =
    simp (length-take, length-drop) (omega (arith, long)) in (
      record { left = count_or_zero (number_in s); bytes = drop number_width (after_number s) },
      record {
        length_bytes = take number_width s;
        lower_bound_bytes = take number_width (after_number s);
        is = number.whole ∙ ap (λ x. take number_width s ++ x) (sym (take-append-drop number_width (after_number s)));
        counts = count_from (number_in s) (take number_width s) number.number sign.0;
        width = four;
      },
    )
dimensions_at_front (suc (suc d)) s h e = let no : ⊥ = cc in absurd no

pub head_grammar : IsGrammar (λ r q. r ≡ q) SpellsHead (λ b. first_fault_of (head_checks b))
head_grammar = record { passes = head_passes; single = head_single }

pub head_complete : IsComplete SpellsHead (λ b. first_fault_of (head_checks b))
head_complete b h e =
    let d = count_or_zero (number_in b) in
    let rest = after_number b in
    let later = drop pair_width rest in
    let passes = both_pass (count_checks b) ((nat_le pair_width (length rest), size) ∷ dimension_checks d later) e in
    let number = count_at_front b h passes.0 in
    let eight = first_passes (nat_le pair_width (length rest)) size _ passes.1 in
    let long = leb-true pair_width (length rest) eight.0 in
    let parts : rest ≡ take pair_width rest ++ later = sym (take-append-drop pair_width rest) in
    let len : length (take pair_width rest) ≡ pair_width = simp length-take (omega (arith, long)) in
    let bytes = trailing_bytes rest (take pair_width rest) later parts
    (trailing_bytes b (take number_width b) rest number.1 h) in
    let p = dimensions_at_front d later bytes eight.1 in (
      p.0,
      record {
        dimension_count = d;
        count_prefix = take number_width b;
        flags_and_oid = take pair_width rest;
        remaining = later;
        is = number.1 ∙ ap (λ x. take number_width b ++ x) parts;
        counts = number.0;
        width = len;
        spells = p.1;
      },
    )
