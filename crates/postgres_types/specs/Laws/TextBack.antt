-- Laws of texts and bytes, where the first argument tells a value's bytes.
use Rattle.std.specs.Prelude.{◌≡◌, ℕ, Bool, List, refl}
use Rattle.std.proofs.lemmas.Str.{IsUtf8-from_is_utf8}
use Rattle.std.specs.Str.{is_utf8}
use Rattle.pg_base.specs.Bytea.{FormBytes, ReadsBytes, first_fault_bytes, wire_bytes}
use Rattle.pg_base.proofs.FormatLaws.{bytes_grammar, text_grammar}
use Rattle.pg_base.specs.Texts.{FormText, ReadsText, first_fault_text, wire_text}
use Rattle.postgres_types.specs.Laws.Plain.{plain_lawful, written_if}
use Rattle.postgres_types.specs.ReadingBack.{BackKept, IsLawful, WrittenAsBytes}

text_written : (versioned : Bool) (s : List ℕ) → WrittenAsBytes (ReadsText (λ t. t) versioned) s (wire_text versioned s)
text_written versioned s = written_if (ReadsText (λ t. t) versioned) s (is_utf8 s) _ _
    (λ h. (IsUtf8-from_is_utf8 s h, refl))

pub text_lawful : {A : Type 0} (bytes_of : A → List ℕ) (versioned : Bool)
    → IsLawful (λ v w. bytes_of v ≡ bytes_of w) (ReadsText bytes_of versioned) (λ v. wire_text versioned (bytes_of v))
    (BackKept (λ v w. bytes_of v ≡ bytes_of w))
text_lawful bytes_of versioned =
    plain_lawful bytes_of (FormText (λ t. t) versioned) (first_fault_text versioned) (text_grammar (λ t. t) versioned)
    (wire_text versioned) (text_written versioned)

pub bytes_lawful : {A : Type 0} (bytes_of : A → List ℕ)
    → IsLawful (λ v w. bytes_of v ≡ bytes_of w) (ReadsBytes bytes_of) (λ v. wire_bytes (bytes_of v))
    (BackKept (λ v w. bytes_of v ≡ bytes_of w))
bytes_lawful bytes_of = plain_lawful bytes_of (FormBytes (λ s. s)) first_fault_bytes
    (bytes_grammar (λ s. s)) wire_bytes (λ s. refl)
