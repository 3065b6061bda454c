-- Laws of booleans and integers: each is written as bytes that read as it, or refused, so the types are lawful.
use Rattle.std.specs.Prelude.{◌≡◌, ℕ, ℤ, ◌^◌, nat_lt, Bool, true, false, List, Some, None, Ok, Err, refl}
use Rattle.std.proofs.Common.{sym, ◌∙◌, subst}
use Rattle.std.proofs.lemmas.Bool.{ltb-true}
use Rattle.std.specs.Int.{Width, byte_len}
use mir.Val.{bits}
use Rattle.pg_base.specs.Appending.{Wire}
use Rattle.pg_base.specs.Cells.{IsBe}
use Rattle.pg_base.specs.Formats.{IsGrammar}
use Rattle.pg_base.proofs.FormatLaws.{bool_grammar, has_fitted}
use Rattle.pg_base.specs.Numbers.{FormBool, FormSigned, FormUnsigned, ReadsBool, ReadsSigned, ReadsUnsigned}
use Rattle.pg_base.specs.Numbers.{first_fault_number, fits_signed, wire_bool, wire_signed, wire_unsigned}
use Rattle.pg_base.specs.Special.{IsFiniteCell}
use Rattle.postgres_types.specs.Laws.Plain.{plain_lawful, written_if}
use Rattle.postgres_types.specs.ReadingBack.{BackKept, IsLawful, KeepsFinite, WrittenAsBytes, WrittenFinite}

bool_written : (v : Bool) → WrittenAsBytes ReadsBool v (wire_bool v)
bool_written true = (1, refl, refl)
bool_written false = (0, refl, refl)

pub bool_lawful : IsLawful (λ v w. v ≡ w) ReadsBool wire_bool (BackKept (λ v w. v ≡ w))
bool_lawful = plain_lawful (λ v. v) FormBool (first_fault_number 1) bool_grammar wire_bool bool_written

-- a number is written as its bytes
pub signed_written : (w : Width) (z : ℤ) → WrittenAsBytes (ReadsSigned w) z (wire_signed w z)
signed_written w z = written_if (ReadsSigned w) z (fits_signed w z) _ _ (λ h. (has_fitted w z h, refl))

pub signed_lawful : (w : Width) → IsGrammar (λ v u. v ≡ u) (FormSigned w) (first_fault_number (byte_len w))
    → IsLawful (λ v u. v ≡ u) (ReadsSigned w) (wire_signed w) (BackKept (λ v u. v ≡ u))
signed_lawful w grammar = plain_lawful (λ z. z) (FormSigned w) (first_fault_number (byte_len w)) grammar
    (wire_signed w) (signed_written w)

finite_by : (w u : Width) (b : List ℕ) (z : ℤ) (x : Wire) → IsBe u b z → IsFiniteCell w b
    → WrittenAsBytes (ReadsSigned u) z x → WrittenFinite w x
finite_by w u b z (Ok None) h k y = y
finite_by w u b z (Ok (Some c)) h k y = subst (IsFiniteCell w) (h.1 ∙ sym y.1) k
finite_by w u b z (Err r) h k y = tt

-- and so as the finite bytes that it was read from
pub signed_finite : (w u : Width) → KeepsFinite w (ReadsSigned u) (wire_signed u)
signed_finite w u b z k h = finite_by w u b z (wire_signed u z) h k (signed_written u z)

unsigned_written : (w : Width) (n : ℕ) → WrittenAsBytes (ReadsUnsigned w) n (wire_unsigned w n)
unsigned_written w n = written_if (ReadsUnsigned w) n (nat_lt n (2 ^ bits w)) _ _ (λ h. (ltb-true n _ h, refl))

pub unsigned_lawful : (w : Width) → IsGrammar (λ m n. m ≡ n) (FormUnsigned w) (first_fault_number (byte_len w))
    → IsLawful (λ m n. m ≡ n) (ReadsUnsigned w) (wire_unsigned w) (BackKept (λ m n. m ≡ n))
unsigned_lawful w grammar = plain_lawful (λ n. n) (FormUnsigned w) (first_fault_number (byte_len w)) grammar
    (wire_unsigned w) (unsigned_written w)
