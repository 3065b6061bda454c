-- Laws of identifiers: their formats are grammars.
use Rattle.std.specs.Prelude.{◌≡◌, ℕ}
use Rattle.std.proofs.Common.{sym, ◌∙◌}
use Rattle.pg_base.proofs.FormatLaws.{passes_number}
use Rattle.pg_base.specs.Formats.{IsGrammar}
use Rattle.pg_base.specs.FixedBytes.{FormFixedBytes}
use Rattle.pg_base.specs.Numbers.{first_fault_number}

pub fixed_bytes_grammar : (width : ℕ) → IsGrammar (λ v w. v ≡ w) (FormFixedBytes width) (first_fault_number width)
fixed_bytes_grammar width = record { passes = λ b v h. passes_number width b h.1; single = λ b v w h k. h.0 ∙ sym k.0 }
