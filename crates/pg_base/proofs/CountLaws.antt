-- Laws of counts and lengths, the 4-byte prefixes.
use Rattle.std.specs.Prelude.{◌≡◌, ℕ, ℤ, pos, List, Some, ◌++◌, ◌≤◌, length, true, refl}
use Rattle.std.proofs.Common.{sym, ◌∙◌, ap, subst, arith}
use Rattle.std.proofs.lemmas.Bool.Decides.{nat_tests}
use Rattle.std.proofs.lemmas.List.{length-append}
use Rattle.std.proofs.lemmas.Nat.{from_be_bytes-to_be_bytes_4}
use Rattle.std.specs.Int.{w32}
use Rattle.pg_base.specs.Cells.{be, IsBe, signed_in, fits_prefix}
use Rattle.pg_base.specs.Counts.{IsCount, after_number, count_bytes, has_number, number_in, number_width}
use Rattle.pg_base.proofs.FormatLaws.{be-back}
use Rattle.pg_base.proofs.FrameLaws.{fits_length, some_of}

-- what is known of bytes that are this prefix and then u
pub record IsNumberThen (s : List ℕ) (n : ℤ) (u : List ℕ) : Type 0 where
  pub has : has_number s ≡ true
  pub number : number_in s ≡ n
  pub rest : after_number s ≡ u

has_four : (s : List ℕ) → number_width ≤ length s → has_number s ≡ true
has_four s h = grind (arith, nat_tests)

be_then : (n : ℤ) (u : List ℕ) → signed_in w32 (be w32 n) ≡ n → IsNumberThen (be w32 n ++ u) n u
be_then n u back = record {
  has = has_four (be w32 n ++ u) (omega (arith, length-append (be w32 n) u));
  number =
      back;
  rest = refl;
}

pub number_then : (b h u : List ℕ) (n : ℤ) → b ≡ h ++ u → IsBe w32 h n → IsNumberThen b n u
number_then b h u n e p =
    subst (λ s. IsNumberThen s n u) (sym (e ∙ ap (λ s. s ++ u) p.1))
    (be_then n u (be-back w32 from_be_bytes-to_be_bytes_4 n p.0))

-- the bytes of a count are a count
pub count_is : (n : ℕ) (s : List ℕ) → count_bytes n ≡ Some s → IsCount s n
count_is n s e =
    let p = some_of (fits_prefix n) (be w32 (pos n)) s e in
    (fits_length n p.0, p.1)
