-- Laws of lists of bits.
use Rattle.std.specs.Prelude.{◌≡◌, ℕ, pos, ◌++◌, FitsSigned, Bool, true, false, if◌then◌else◌, List, length, Some, None}
use Rattle.std.specs.Prelude.{Ok, refl}
use Rattle.std.proofs.Common.{sym, arith}
use Rattle.std.proofs.lemmas.Bool.{leb-true}
use Rattle.std.specs.Int.{w32}
use mir.Val.{bits}
use Rattle.pg_base.proofs.BitLemmas.{first_bits_packed, packed_len}
use Rattle.pg_base.specs.Appending.{wire_of}
use Rattle.pg_base.specs.Bits.{FormBits, ReadsBits, first_fault_bits, packed, wire_bits}
use Rattle.pg_base.proofs.BitsLaws.{bits_grammar}
use Rattle.pg_base.specs.Cells.{be, fits_prefix, max_length}
use Rattle.postgres_types.specs.Laws.Plain.{plain_lawful}
use Rattle.postgres_types.specs.ReadingBack.{BackKept, IsLawful, WrittenAsBytes}

-- the number of bits and the bits packed spell them
packed_spells : (v : List Bool) → fits_prefix (length v) ≡ true
    → FormBits (λ u. u) (be w32 (pos (length v)) ++ packed v) v
packed_spells v h =
    let holds : FitsSigned w32 (pos (length v)) = record { sfits = omega (arith, leb-true (length v) max_length h) } in
    record {
      count_prefix = be w32 (pos (length v));
      bits_bytes = packed v;
      is = refl;
      counts = (holds, refl);
      width = packed_len v;
      first = sym (first_bits_packed v);
    }

bits_written_if : (v : List Bool) (t : Bool) (b : List ℕ) → (t ≡ true → ReadsBits (λ u. u) (Some b) (Ok v))
    → WrittenAsBytes (ReadsBits (λ u. u)) v (wire_of (if t then Some b else None))
bits_written_if v true b h = h refl
bits_written_if v false b h = tt

bits_written : (v : List Bool) → WrittenAsBytes (ReadsBits (λ u. u)) v (wire_bits v)
bits_written v = bits_written_if v (fits_prefix (length v)) _ (packed_spells v)

pub bits_lawful : IsLawful (λ v w. v ≡ w) (ReadsBits (λ u. u)) wire_bits (BackKept (λ v w. v ≡ w))
bits_lawful = plain_lawful (λ v. v) (FormBits (λ u. u)) first_fault_bits (bits_grammar (λ u. u)) wire_bits bits_written
