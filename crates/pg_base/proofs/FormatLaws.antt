-- Laws of formats: which of them are grammars.
use Rattle.std.specs.Prelude.{◌≡◌, ◌++◌, [], ◌∷◌, Some, ℕ, suc, zero, ◌<◌, ◌^◌, ◌-◌, ◌==◌, ℤ, pos, negsuc, List}
use Rattle.std.specs.Prelude.{length, None, Bool, true, false, not, FitsSigned, refl}
use Rattle.std.proofs.Common.{sym, ◌∙◌, ap, subst, arith, cond, drop}
use Rattle.std.proofs.Math.Facts.{Fits-of_z}
use Rattle.std.proofs.lemmas.Bool.{eq-eqb, lt-ltb, ltb-true}
use Rattle.std.proofs.lemmas.Int.{to_z-of_z}
use Rattle.std.proofs.lemmas.Nat.{from_be_bytes-to_be_bytes_2, from_be_bytes-to_be_bytes_4, from_be_bytes-to_be_bytes_8}
use Rattle.std.proofs.lemmas.Str.{is_utf8-from_IsUtf8}
use Rattle.std.specs.Int.{Width, w8, w16, w32, w64, w128, byte_len, bytes_high_first, cast_unsigned, cast_signed}
use Rattle.std.specs.Int.{to_be_bytes, from_be_bytes}
use mir.Val.{bits, hbits}
use Rattle.pg_base.specs.Bytea.{FormBytes, first_fault_bytes}
use Rattle.pg_base.specs.Cells.{be, signed_in, IsBe, IsBeUnsigned}
use Rattle.pg_types.specs.Faults.{Refusal}
use Rattle.pg_base.specs.Formats.{Checks, IsGrammar, first_fault_of}
use Rattle.pg_base.specs.Numbers.{FormSigned, FormUnsigned, FormBool, first_fault_number, fits_signed}
use Rattle.pg_base.specs.Texts.{FormText, first_fault_text}

-- checks that pass leave the answer to the later ones
passed_by : (t : Bool) (r : Refusal) (xs ys : Checks)
    → ((first_fault_of xs ≡ None) → first_fault_of (xs ++ ys) ≡ first_fault_of ys)
    → cond t (first_fault_of xs) (Some r) ≡ None → cond t (first_fault_of (xs ++ ys)) (Some r) ≡ first_fault_of ys
passed_by true r xs ys later e = later e
passed_by false r xs ys later e = let no : ⊥ = cc in absurd no

pub checks_passed : (xs ys : Checks) → first_fault_of xs ≡ None → first_fault_of (xs ++ ys) ≡ first_fault_of ys
checks_passed [] ys e = refl
checks_passed (x ∷ xs) ys e = passed_by x.0 x.1 xs ys (checks_passed xs ys) e

-- and the first that fails is the first of more
failed_by : (t : Bool) (r s : Refusal) (xs ys : Checks)
    → ((first_fault_of xs ≡ Some s) → first_fault_of (xs ++ ys) ≡ Some s)
    → cond t (first_fault_of xs) (Some r) ≡ Some s → cond t (first_fault_of (xs ++ ys)) (Some r) ≡ Some s
failed_by true r s xs ys later e = later e
failed_by false r s xs ys later e = e

pub check_failed : (xs ys : Checks) (s : Refusal) → first_fault_of xs ≡ Some s → first_fault_of (xs ++ ys) ≡ Some s
check_failed [] ys s e = let no : ⊥ = cc in absurd no
check_failed (x ∷ xs) ys s e = failed_by x.0 x.1 s xs ys (check_failed xs ys s) e

pub length-bytes_high_first : (k n : ℕ) → length (bytes_high_first k n) ≡ k
length-bytes_high_first zero n = refl
length-bytes_high_first (suc k) n = ap suc (length-bytes_high_first k n)

-- bytes of the width's length pass the check
pub passes_number : (width : ℕ) (b : List ℕ) → length b ≡ width → first_fault_number width b ≡ None
passes_number width b h = rw (eq-eqb (length b) width h) refl

-- the bytes of a number are as many as the width has
pub be-length : (w : Width) (b : List ℕ) (z : ℤ) → IsBe w b z → length b ≡ byte_len w
be-length w b z h = ap length h.1 ∙ length-bytes_high_first (byte_len w) (cast_unsigned w z)

-- over a width whose bytes give the number back
module _ (w : Width) (back : (n : ℕ) → n < 2 ^ bits w → from_be_bytes w (to_be_bytes w n) ≡ n) where
  be_unsigned-single : (b : List ℕ) (m n : ℕ) → IsBeUnsigned w b m → IsBeUnsigned w b n → m ≡ n
  be_unsigned-single b m n h k = sym (back m h.0) ∙ ap (from_be_bytes w) (sym h.1 ∙ k.1) ∙ back n k.0

  pub be-back : (z : ℤ) → FitsSigned w z → signed_in w (be w z) ≡ z
  be-back z h = ap (cast_signed w) (back (cast_unsigned w z) (Fits-of_z h).fits) ∙ to_z-of_z w z h

  -- bytes are those of one number
  pub be-single : (b : List ℕ) (v u : ℤ) → IsBe w b v → IsBe w b u → v ≡ u
  be-single b v u h k = sym (be-back v h.0) ∙ ap (signed_in w) (sym h.1 ∙ k.1) ∙ be-back u k.0

  signed_grammar : IsGrammar (λ v u. v ≡ u) (FormSigned w) (first_fault_number (byte_len w))
  signed_grammar = record {
    passes = λ b v h. passes_number (byte_len w) b (be-length w b v h);
    single = be-single;
  }

  unsigned_grammar : IsGrammar (λ m n. m ≡ n) (FormUnsigned w) (first_fault_number (byte_len w))
  unsigned_grammar = record {
    passes = λ b n h. passes_number (byte_len w) b (ap length h.1 ∙ length-bytes_high_first (byte_len w) n);
    single = be_unsigned-single;
  }

half_width : (w : Width) → bits w - 1 ≡ hbits w
half_width w8 = refl
half_width w16 = refl
half_width w32 = refl
half_width w64 = refl
half_width w128 = refl

-- a number that the width holds passes the test of it, and one that passes is held
pub fits : (w : Width) (z : ℤ) → FitsSigned w z → fits_signed w z ≡ true
fits w (pos n) h = rw (half_width w) (lt-ltb n _ h.sfits)
fits w (negsuc n) h = rw (half_width w) (lt-ltb n _ h.sfits)

pub has_fitted : (w : Width) (z : ℤ) → fits_signed w z ≡ true → FitsSigned w z
has_fitted w (pos n) h = record { sfits = subst (λ k. n < 2 ^ k) (half_width w) (ltb-true n _ h) }
has_fitted w (negsuc n) h = record { sfits = subst (λ k. n < 2 ^ k) (half_width w) (ltb-true n _ h) }

one_byte-back : (n : ℕ) → n < 2 ^ bits w8 → from_be_bytes w8 (to_be_bytes w8 n) ≡ n
one_byte-back n h = omega (arith, h)

pub char_grammar : IsGrammar (λ v w. v ≡ w) (FormSigned w8) (first_fault_number 1)
char_grammar = signed_grammar w8 one_byte-back

pub int2_grammar : IsGrammar (λ v w. v ≡ w) (FormSigned w16) (first_fault_number 2)
int2_grammar = signed_grammar w16 from_be_bytes-to_be_bytes_2

pub int4_grammar : IsGrammar (λ v w. v ≡ w) (FormSigned w32) (first_fault_number 4)
int4_grammar = signed_grammar w32 from_be_bytes-to_be_bytes_4

pub int8_grammar : IsGrammar (λ v w. v ≡ w) (FormSigned w64) (first_fault_number 8)
int8_grammar = signed_grammar w64 from_be_bytes-to_be_bytes_8

pub unsigned4_grammar : IsGrammar (λ v w. v ≡ w) (FormUnsigned w32) (first_fault_number 4)
unsigned4_grammar = unsigned_grammar w32 from_be_bytes-to_be_bytes_4

pub unsigned8_grammar : IsGrammar (λ v w. v ≡ w) (FormUnsigned w64) (first_fault_number 8)
unsigned8_grammar = unsigned_grammar w64 from_be_bytes-to_be_bytes_8

pub bool_grammar : IsGrammar (λ v w. v ≡ w) FormBool (first_fault_number 1)
bool_grammar = record {
  passes = λ b v h. ap (first_fault_number 1) h.1;
  single = λ b v w h k. let same : h.0 ≡ k.0 = cc (h.1, k.1) in h.2 ∙ ap (λ n. not (n == 0)) same ∙ sym k.2;
}

text_passes : {A : Type 0} (bytes_of : A → List ℕ) (versioned : Bool) (b : List ℕ) (v : A)
    → FormText bytes_of versioned b v → first_fault_text versioned b ≡ None
text_passes bytes_of false b v h = ap (first_fault_text false) h.1 ∙ (rw (is_utf8-from_IsUtf8 (bytes_of v) h.0) refl)
text_passes bytes_of true b v h = ap (first_fault_text true) h.1 ∙ (rw (is_utf8-from_IsUtf8 (bytes_of v) h.0) refl)

text_single : {A : Type 0} (bytes_of : A → List ℕ) (versioned : Bool) (b : List ℕ) (v w : A)
    → FormText bytes_of versioned b v → FormText bytes_of versioned b w → bytes_of v ≡ bytes_of w
text_single bytes_of false b v w h k = sym h.1 ∙ k.1
text_single bytes_of true b v w h k = ap (drop 1) (sym h.1 ∙ k.1)

pub text_grammar : {A : Type 0} (bytes_of : A → List ℕ) (versioned : Bool)
    → IsGrammar (λ v w. bytes_of v ≡ bytes_of w) (FormText bytes_of versioned) (first_fault_text versioned)
text_grammar bytes_of versioned = record
    { passes = text_passes bytes_of versioned; single = text_single bytes_of versioned }

pub bytes_grammar : {A : Type 0} (bytes_of : A → List ℕ)
    → IsGrammar (λ v w. bytes_of v ≡ bytes_of w) (FormBytes bytes_of) first_fault_bytes
bytes_grammar bytes_of = record { passes = λ b v h. refl; single = λ b v w h k. h ∙ sym k }
