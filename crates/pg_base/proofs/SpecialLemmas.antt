-- Lemmas on numbers that are no infinity.
use Rattle.std.specs.Prelude.{◌≢◌, ℕ, ℤ, List, length}
use Rattle.std.proofs.Common.{◌∙◌, ap, arith}
use Rattle.std.specs.Int.{w32, w64, cast_unsigned}
use Rattle.pg_base.specs.Cells.{IsBe}
use Rattle.pg_base.proofs.FormatLaws.{length-bytes_high_first, int4_grammar, int8_grammar}
use Rattle.pg_base.specs.Special.{IsFiniteCell, infinity_number, minus_infinity_number}

-- the bytes of a number of 4 bytes that is neither the greatest nor the least are finite
pub finite_date : (b : List ℕ) (n : ℤ) → IsBe w32 b n → n ≢ infinity_number w32 → n ≢ minus_infinity_number w32
    → IsFiniteCell w32 b
finite_date b n is not_greatest not_least = record {
  width = ap length is.1 ∙ length-bytes_high_first 4 (cast_unsigned w32 n);
  not_infinity = λ e. not_greatest
      (int4_grammar.single b n (infinity_number w32) is (record { sfits = omega arith }, e));
  not_minus_infinity = λ e. not_least
      (int4_grammar.single b n (minus_infinity_number w32) is (record { sfits = omega arith }, e));
}

-- and those of a number of 8 bytes
pub finite_timestamp : (b : List ℕ) (n : ℤ) → IsBe w64 b n → n ≢ infinity_number w64
    → n ≢ minus_infinity_number w64 → IsFiniteCell w64 b
finite_timestamp b n is not_greatest not_least = record {
  width = ap length is.1 ∙ length-bytes_high_first 8 (cast_unsigned w64 n);
  not_infinity = λ e. not_greatest (int8_grammar.single b n (infinity_number w64) is
      (record { sfits = omega arith }, e));
  not_minus_infinity = λ e. not_least
      (int8_grammar.single b n (minus_infinity_number w64) is (record { sfits = omega arith }, e));
}
