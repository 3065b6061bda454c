-- Steps of rewriting: what a cell is rewritten to is the cell of the value that it spells.
use Rattle.std.specs.Prelude.{◌≡◌, ◌==◌, ◌≤◌, ◌^◌, ◌++◌, ℕ, ℤ, pos, List, [], ◌∷◌, Bool, true, false, not, refl}
use Rattle.std.specs.Prelude.{Option, Some, None, Ok, length}
use Rattle.std.specs.Int.{Width, w8, w16, w32, w64}
use mir.Val.{bits}
use Rattle.std.proofs.Common.{arith, ap, sym, cond, ◌∙◌}
use Rattle.std.proofs.lemmas.Bool.{eq-eqb, le-leb, lt-ltb}
use Rattle.std.proofs.lemmas.Bool.Decides.{nat_tests}
use Rattle.std.proofs.lemmas.Int.{ints}
use Rattle.pg_base.proofs.Completeness.{bool_complete, bytes_complete, char_complete, fixed_bytes_complete}
use Rattle.pg_base.proofs.Completeness.{int2_complete, int4_complete, int8_complete, lsn_complete, oid_complete}
use Rattle.pg_base.proofs.Completeness.{text_complete}
use Rattle.pg_base.proofs.CompletenessBits.{bits_complete}
use Rattle.pg_base.proofs.CompletenessNetwork.{cidr_complete, inet_complete}
use Rattle.pg_base.proofs.CountLaws.{number_then}
use Rattle.pg_base.proofs.FormatLaws.{fits}
use Rattle.pg_base.proofs.IntervalLaws.{interval_complete}
use Rattle.pg_base.proofs.TextLemmas.{wire_utf8}
use Rattle.pg_base.specs.Appending.{Wire}
use Rattle.pg_base.specs.Bits.{FormBits, first_bits, packed, wire_bits}
use Rattle.pg_base.specs.Bytea.{FormBytes, wire_bytes}
use Rattle.pg_base.specs.Cells.{AreBytes, be, fits_prefix, max_length}
use Rattle.pg_base.specs.FixedBytes.{FormFixedBytes, wire_fixed_bytes}
use Rattle.pg_base.specs.Counts.{after_number}
use Rattle.pg_base.specs.Formats.{IsComplete}
use Rattle.pg_base.specs.Interval.{FormInterval, wire_interval}
use Rattle.pg_base.specs.Network.{FormCidr, FormInet, Network, wire_cidr, wire_inet}
use Rattle.pg_base.specs.Numbers.{FormBool, FormSigned, FormUnsigned, first_fault_number, wire_bool, wire_signed}
use Rattle.pg_base.specs.Numbers.{wire_unsigned}
use Rattle.pg_base.specs.Texts.{FormText, wire_text}
use Rattle.pg_base.specs.declared.interval.Interval.{Interval}
use Rattle.pg_cells_c.specs.Kinds.{bit_count, bytes_of_kind, kind_of_row, or_fault, rewritten}
use Rattle.pg_cells_c.specs.Kinds.{with_zero_pad, without_flag}
use Rattle.pg_cells_c.specs.Rewriting.{RewrittenRow, RewrittenTo}
use Rattle.pg_cells_c.specs.declared.rewrite.kinds.Kind.{Kind}
use Rattle.pg_cells_c.specs.declared.rewrite.kinds.Kind.TheVariants as kind
use Rattle.pg_types.specs.Faults.{Refusal}
use Rattle.pg_types.specs.declared.types.built_in.BuiltIn.{BuiltIn as Row}
use Rattle.pg_types.specs.declared.types.built_in.BuiltIn.TheVariants as row

-- over a format whose checks are complete, and whose values are written as `anew` says of the bytes that spell them
module _ {A : Type 0} (form : List ℕ → A → Type 0) (first_fault : List ℕ → Option Refusal) (wire : A → Wire)
    (complete : IsComplete form first_fault) (anew : List ℕ → List ℕ)
    (written : (b : List ℕ) (v : A) → form b v → wire v ≡ Ok (Some (anew b))) where
  outcome_by : (b : List ℕ) (fault : Option Refusal) → AreBytes b → first_fault b ≡ fault
      → RewrittenTo form first_fault wire b (or_fault fault (anew b))
  outcome_by b (Some r) h e = e
  outcome_by b None h e = let p = complete b h e in (p.0, p.1, written b p.0 p.1)

  rewritten_to : (b : List ℕ) → AreBytes b → RewrittenTo form first_fault wire b (or_fault (first_fault b) (anew b))
  rewritten_to b h = outcome_by b (first_fault b) h refl

-- what is written of values, by the bytes that spell them
signed_written : (w : Width) (b : List ℕ) (z : ℤ) → FormSigned w b z → wire_signed w z ≡ Ok (Some b)
signed_written w b z h = rw (fits w z h.0) (ap (λ c. Ok (Some c)) (sym h.1))

unsigned_written : (w : Width) (b : List ℕ) (n : ℕ) → FormUnsigned w b n → wire_unsigned w n ≡ Ok (Some b)
unsigned_written w b n h = rw (lt-ltb n (2 ^ bits w) h.0) (ap (λ c. Ok (Some c)) (sym h.1))

text_written : (b s : List ℕ) → FormText (λ s. s) false b s → wire_text false s ≡ Ok (Some b)
text_written b s h = wire_utf8 false s h.0 ∙ ap (λ c. Ok (Some c)) (sym h.1)

bytea_written : (b v : List ℕ) → FormBytes (λ s. s) b v → wire_bytes v ≡ Ok (Some b)
bytea_written b v h = ap (λ c. Ok (Some c)) h

fixed_bytes_written : (width : ℕ) (b v : List ℕ) → FormFixedBytes width b v → wire_fixed_bytes width v ≡ Ok (Some b)
fixed_bytes_written width b v h =
    rw (eq-eqb (length v) width (ap length h.0 ∙ h.1)) (ap (λ c. Ok (Some c)) h.0)

interval_written : (b : List ℕ) (v : Interval) → FormInterval b v → wire_interval v ≡ Ok (Some b)
interval_written b v h =
    rw (fits w64 v.microseconds h.0, fits w32 v.days h.1, fits w32 v.months h.2) (ap (λ c. Ok (Some c)) (sym h.3))

bool_by : (is_zero : Bool) → wire_bool (not is_zero) ≡ Ok (Some (cond is_zero 0 1 ∷ []))
bool_by true = refl
bool_by false = refl

bool_written : (b : List ℕ) (v : Bool) → FormBool b v → wire_bool v ≡ Ok (Some (bytes_of_kind kind.Bool b))
bool_written b v h =
    ap wire_bool h.2 ∙ bool_by (h.0 == 0) ∙ ap (λ s. Ok (Some (bytes_of_kind kind.Bool s))) (sym h.1)

bits_written : (b : List ℕ) (v : List Bool) → FormBits (λ v. v) b v → wire_bits v ≡ Ok (Some (with_zero_pad b))
bits_written b v h =
    let number = number_then b h.count_prefix h.bits_bytes (pos (length v)) h.is h.counts in
    let few : length v ≤ max_length = omega (arith, ints, h.counts.0) in
    let within : fits_prefix (length v) ≡ true = grind (arith, nat_tests) in
    let count : bit_count b ≡ length v = rw number.number refl in
    let first : v ≡ first_bits (bit_count b) (after_number b) = h.first ∙ ap (first_bits (length v)) (sym number.rest)
    ∙ ap (λ n. first_bits n (after_number b)) (sym count) in
    rw within (ap (λ n. Ok (Some (be w32 (pos n) ++ packed v))) (sym count)
    ∙ ap (λ s. Ok (Some (be w32 (pos (bit_count b)) ++ packed s))) first)

inet_written : (b : List ℕ) (n : Network) → FormInet b n → wire_inet n ≡ Ok (Some (without_flag b))
inet_written b n h =
    rw (eq-eqb _ _ h.len, le-leb _ _ h.fits) (ap (λ s. Ok (Some (without_flag s))) (sym h.is))

cidr_written : (b : List ℕ) (n : Network) → FormCidr b n → wire_cidr n ≡ Ok (Some (without_flag b))
cidr_written b n h =
    rw (eq-eqb _ _ h.0.len, le-leb _ _ h.0.fits, eq-eqb _ 0 h.1) (ap (λ s. Ok (Some (without_flag s))) (sym h.0.is))

-- what a cell of a format is rewritten to is what one of the type is
abbrev pub IsSound : Row → List ℕ → Option Kind → Type 0
IsSound r b None = Unit {0}
IsSound r b (Some k) = RewrittenRow r b (rewritten k b)

text_sound : (b : List ℕ) → AreBytes b → IsSound row.Text b (Some kind.Text)
text_sound = rewritten_to (FormText (λ s. s) false) _ (wire_text false) (text_complete false) (λ b. b) text_written

bits_sound : (b : List ℕ) → AreBytes b → IsSound row.Bit b (Some kind.Bits)
bits_sound = rewritten_to (FormBits (λ v. v)) _ wire_bits bits_complete with_zero_pad bits_written

int4_sound : (b : List ℕ) → AreBytes b → IsSound row.Int4 b (Some (kind.Fixed 4))
int4_sound = rewritten_to (FormSigned w32) _ (wire_signed w32) int4_complete (λ b. b) (signed_written w32)

int8_sound : (b : List ℕ) → AreBytes b → IsSound row.Int8 b (Some (kind.Fixed 8))
int8_sound = rewritten_to (FormSigned w64) _ (wire_signed w64) int8_complete (λ b. b) (signed_written w64)

fixed_sound : (width : ℕ) (b : List ℕ) → AreBytes b
    → RewrittenTo (FormFixedBytes width) (first_fault_number width) (wire_fixed_bytes width) b
    (rewritten (kind.Fixed width) b)
fixed_sound width = rewritten_to (FormFixedBytes width) _ (wire_fixed_bytes width) (fixed_bytes_complete width) (λ b. b)
    (fixed_bytes_written width)

pub row_sound : (r : Row) (b : List ℕ) → AreBytes b → IsSound r b (kind_of_row r)
row_sound row.Bool b h = rewritten_to FormBool _ wire_bool bool_complete (bytes_of_kind kind.Bool) bool_written b h
row_sound row.Bytea b h = rewritten_to (FormBytes (λ s. s)) _ wire_bytes bytes_complete (λ b. b) bytea_written b h
row_sound row.Char b h =
    rewritten_to (FormSigned w8) _ (wire_signed w8) char_complete (λ b. b) (signed_written w8) b h
row_sound row.Name b h = text_sound b h
row_sound row.Int8 b h = int8_sound b h
row_sound row.Int2 b h =
    rewritten_to (FormSigned w16) _ (wire_signed w16) int2_complete (λ b. b) (signed_written w16) b h
row_sound row.Int4 b h = int4_sound b h
row_sound row.Text b h = text_sound b h
row_sound row.Oid b h =
    rewritten_to (FormUnsigned w32) _ (wire_unsigned w32) oid_complete (λ b. b) (unsigned_written w32) b h
row_sound row.Cidr b h = rewritten_to FormCidr _ wire_cidr cidr_complete without_flag cidr_written b h
row_sound row.Unknown b h = text_sound b h
row_sound row.Macaddr b h = fixed_sound 6 b h
row_sound row.Inet b h = rewritten_to FormInet _ wire_inet inet_complete without_flag inet_written b h
row_sound row.Bpchar b h = text_sound b h
row_sound row.Varchar b h = text_sound b h
row_sound row.Date b h = int4_sound b h
row_sound row.Time b h = int8_sound b h
row_sound row.Timestamp b h = int8_sound b h
row_sound row.Timestamptz b h = int8_sound b h
row_sound row.Interval b h =
    rewritten_to FormInterval _ wire_interval interval_complete (λ b. b) interval_written b h
row_sound row.Bit b h = bits_sound b h
row_sound row.Varbit b h = bits_sound b h
row_sound row.Uuid b h = fixed_sound 16 b h
row_sound row.PgLsn b h =
    rewritten_to (FormUnsigned w64) _ (wire_unsigned w64) lsn_complete (λ b. b) (unsigned_written w64) b h
row_sound _ b h = tt
