-- Laws of timestamps.
use Rattle.std.specs.Prelude.{◌≡◌, ◌<◌, ◌<ℤ◌, ℕ, ℤ, pos, ◌+ℤ◌, ◌*ℤ◌}
use Rattle.std.proofs.Common.{Ordering, Less, Equal, Greater, arith, sym, ◌∙◌, ap}
use Rattle.jiff.proofs.SpanFacts.{signed_arith}
use Rattle.std.specs.Cmp.{int_cmp_is, int_ranks, ranks}
use Rattle.std.specs.Ordering.{MatchOrdering, int_cmp, nat_cmp, ordering_then}
use Rattle.pg_base.specs.Formats.{IsGrammar}
use Rattle.pg_base.proofs.FormatLaws.{int8_grammar}
use Rattle.pg_base.specs.Timestamps.{base_nanos, FormTimestamp}
use Rattle.pg_base.specs.Numbers.{first_fault_number}

pub timestamp_grammar : {A : Type 0} (nanos : A → ℤ)
    → IsGrammar (λ v w. nanos v ≡ nanos w) (FormTimestamp nanos) (first_fault_number 8)
timestamp_grammar nanos = record {
  passes = λ b v h. int8_grammar.passes b h.0 h.1;
  single = λ b v w h k. h.2 ∙ ap (λ micros. base_nanos +ℤ micros *ℤ pos 1000) (int8_grammar.single b h.0 k.0 h.1 k.1)
      ∙ sym k.2;
}

-- the number of these seconds and nanoseconds
abbrev in_nanos : ℤ → ℕ → ℤ
in_nanos secs nanos = secs *ℤ pos 1_000_000_000 +ℤ pos nanos

-- where the nanoseconds are less than a second, the order by seconds and then by nanoseconds is that of the numbers
by_parts : (s t : ℤ) (m n : ℕ) → m < 1_000_000_000 → n < 1_000_000_000 → (p q : Ordering)
    → MatchOrdering p (s <ℤ t) (s ≡ t) (t <ℤ s) → MatchOrdering q (m < n) (m ≡ n) (n < m)
    → MatchOrdering (ordering_then p q) (in_nanos s m <ℤ in_nanos t n) (in_nanos s m ≡ in_nanos t n)
    (in_nanos t n <ℤ in_nanos s m)
by_parts s t m n a b Less q h k = omega (arith, signed_arith, h)
by_parts s t m n a b Greater q h k = omega (arith, signed_arith, h)
by_parts s t m n a b Equal Less h k = omega (arith, signed_arith, h, k)
by_parts s t m n a b Equal Equal h k = omega (arith, signed_arith, h, k)
by_parts s t m n a b Equal Greater h k = omega (arith, signed_arith, h, k)

-- the same of the orders' answers
pub order_by_parts : (s t : ℤ) (m n : ℕ) → m < 1_000_000_000 → n < 1_000_000_000
    → ordering_then (int_cmp s t) (nat_cmp m n)
    ≡ int_cmp (s *ℤ pos 1_000_000_000 +ℤ pos m) (t *ℤ pos 1_000_000_000 +ℤ pos n)
order_by_parts s t m n a b = int_cmp_is _ _ _
    (by_parts s t m n a b (int_cmp s t) (nat_cmp m n) (int_ranks s t) (ranks m n))
