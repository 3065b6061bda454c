-- Laws of the format of bits: it is a grammar.
use Rattle.std.specs.Prelude.{◌≡◌, ℕ, pos, List, ◌++◌, length, None, Bool, refl}
use Rattle.std.proofs.Common.{sym, ◌∙◌, ap}
use Rattle.std.proofs.lemmas.Bool.{eq-eqb}
use Rattle.pg_base.specs.Bits.{FormBits, bytes_for, first_bits, first_fault_bits}
use Rattle.pg_base.proofs.CountLaws.{number_then}
use Rattle.pg_base.specs.Counts.{IsCount}
use Rattle.pg_base.specs.Formats.{IsGrammar}

bits_pass : (b s p : List ℕ) (n : ℕ) → b ≡ s ++ p → IsCount s n → length p ≡ bytes_for n → first_fault_bits b ≡ None
bits_pass b s p n e is whole =
    let one = number_then b s p (pos n) e is in
    rw (one.has, one.number, one.rest, eq-eqb (length p) (bytes_for n) whole) refl

bits_single : (b s t p q : List ℕ) (n m : ℕ) → b ≡ s ++ p → b ≡ t ++ q → IsCount s n → IsCount t m → (n ≡ m) × (p ≡ q)
bits_single b s t p q n m e f is it =
    let one = number_then b s p (pos n) e is in
    let two = number_then b t q (pos m) f it in
    let same : pos n ≡ pos m = sym one.number ∙ two.number in
    (cc, sym one.rest ∙ two.rest)

pub bits_grammar : {A : Type 0} (bits_of : A → List Bool)
    → IsGrammar (λ v w. bits_of v ≡ bits_of w) (FormBits bits_of) first_fault_bits
bits_grammar bits_of = record {
  passes = λ b v h. bits_pass b h.count_prefix h.bits_bytes (length (bits_of v)) h.is h.counts h.width;
  single = λ b v w h k.
      let same = bits_single b h.count_prefix k.count_prefix h.bits_bytes k.bits_bytes (length (bits_of v))
      (length (bits_of w)) h.is k.is h.counts k.counts in
      h.first ∙ ap (λ n. first_bits n h.bits_bytes) same.0 ∙ ap (first_bits (length (bits_of w))) same.1 ∙ sym k.first;
}
