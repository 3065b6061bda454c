-- Laws of bytes of a fixed number, as those of a MAC address or a UUID.
use Rattle.std.specs.Prelude.{◌≡◌, ℕ, ◌==◌, List, length, refl}
use Rattle.std.proofs.lemmas.Bool.{eqb-true}
use Rattle.pg_base.specs.FixedBytes.{FormFixedBytes, ReadsFixedBytes, wire_fixed_bytes}
use Rattle.pg_base.proofs.FixedBytesLaws.{fixed_bytes_grammar}
use Rattle.pg_base.specs.Numbers.{first_fault_number}
use Rattle.postgres_types.specs.Laws.Plain.{plain_lawful, written_if}
use Rattle.postgres_types.specs.ReadingBack.{BackKept, IsLawful, WrittenAsBytes}

fixed_bytes_written : (width : ℕ) (v : List ℕ) → WrittenAsBytes (ReadsFixedBytes width) v (wire_fixed_bytes width v)
fixed_bytes_written width v = written_if (ReadsFixedBytes width) v (length v == width) _ _
    (λ h. (refl, eqb-true (length v) width h))

pub fixed_bytes_lawful : (width : ℕ)
    → IsLawful (λ v w. v ≡ w) (ReadsFixedBytes width) (wire_fixed_bytes width) (BackKept (λ v w. v ≡ w))
fixed_bytes_lawful width =
    plain_lawful (λ v. v) (FormFixedBytes width) (first_fault_number width) (fixed_bytes_grammar width)
    (wire_fixed_bytes width) (fixed_bytes_written width)
