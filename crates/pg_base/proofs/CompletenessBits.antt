-- The checks of BIT and VARBIT, of JSON and of JSONB are complete.
use Rattle.std.specs.Prelude.{◌≡◌, ◌++◌, [], ◌∷◌, ℕ, ℤ, pos, negsuc, ◌==◌, List, length, take, IsUtf8}
use Rattle.std.specs.Prelude.{Option, Some, None, Bool, true, false, not, is_some, refl}
use Rattle.std.specs.Prelude.{option_map, unwrap_or}
use Rattle.std.proofs.Common.{sym, ◌∙◌, ap, subst, arith, cond, length-take, take-append-drop}
use Rattle.std.proofs.lemmas.Bool.{eqb-true, leb-true}
use Rattle.std.proofs.lemmas.Str.{IsUtf8-from_is_utf8}
use Rattle.std.specs.Int.{w32}
use Rattle.std.specs.Str.{is_utf8}
use Rattle.serde_json.specs.Data.{Data}
use Rattle.serde_json.specs.Read.{read}
use Rattle.serde_json.specs.Written.{has_float}
use Rattle.pg_base.proofs.BitLemmas.{first_bits_len}
use Rattle.pg_base.proofs.CellRows.{bytes_before, four_bytes}
use Rattle.pg_base.proofs.Completeness.{first_passes, both_pass}
use Rattle.pg_base.proofs.CountLaws.{number_then}
use Rattle.pg_base.specs.Bits.{FormBits, bytes_for, first_bits, first_fault_bits}
use Rattle.pg_base.specs.Cells.{AreBytes, IsBe}
use Rattle.pg_base.specs.Counts.{IsCount, count_checks, count_or_zero, has_number, not_negative, number_in}
use Rattle.pg_base.specs.Counts.{after_number, number_width}
use Rattle.pg_base.specs.Formats.{IsComplete, first_fault_of}
use Rattle.pg_base.specs.Json.{FormJson, document_checks, document_of, first_fault_json}
use Rattle.pg_types.specs.Faults.{size, count, json_text, json_number, json_version}

-- what is known of bytes that begin with four of them
pub record IsNumberAtFront (s : List ℕ) : Type 0 where
  pub number : IsBe w32 (take number_width s) (number_in s)
  pub whole : s ≡ take number_width s ++ after_number s

pub number_at_front : (s : List ℕ) → AreBytes s → has_number s ≡ true → IsNumberAtFront s
number_at_front s h e =
    let four = four_bytes (take number_width s) (bytes_before s number_width h)
    (let long = leb-true number_width (length s) e in simp length-take (omega (arith, long))) in
    let whole : s ≡ take number_width s ++ after_number s = sym (take-append-drop number_width s) in
    let number = number_then s (take number_width s) (after_number s) four.0 whole four.1 in
    record { number = subst (IsBe w32 (take number_width s)) (sym number.number) four.1; whole = whole }

-- a number that is not negative is the count
pub count_from : (z : ℤ) (s : List ℕ) → IsBe w32 s z → not_negative z ≡ true → IsCount s (count_or_zero z)
count_from (pos n) s h e = h
count_from (negsuc n) s h e = let no : ⊥ = cc in absurd no

-- bytes that pass the checks of a count begin with one
pub count_at_front : (b : List ℕ) → AreBytes b → first_fault_of (count_checks b) ≡ None
    → IsCount (take number_width b) (count_or_zero (number_in b)) × (b ≡ take number_width b ++ after_number b)
count_at_front b h e =
    let has = first_passes (has_number b) size _ e in
    let number = number_at_front b h has.0 in
    let sign = first_passes (not_negative (number_in b)) count None has.1 in
    (count_from (number_in b) (take number_width b) number.number sign.0, number.whole)

pub bits_complete : IsComplete (FormBits (λ v. v)) first_fault_bits
bits_complete b h e =
    let n = count_or_zero (number_in b) in
    let parts = both_pass (count_checks b) ((length (after_number b) == bytes_for n, size) ∷ []) e in
    let number = count_at_front b h parts.0 in
    let many = eqb-true (length (after_number b)) (bytes_for n) (first_passes _ size None parts.1).0 in
    let len : n ≡ length (first_bits n (after_number b)) = sym (first_bits_len n (after_number b)) in (
      first_bits n (after_number b),
      record {
        count_prefix = take number_width b;
        bits_bytes = after_number b;
        is = number.1;
        counts = subst (IsCount (take number_width b)) len number.0;
        width = many ∙ ap bytes_for len;
        first = ap (λ m. first_bits m (after_number b)) len;
      },
    )

-- ---- documents
pub no_from_not : (t : Bool) → not t ≡ true → t ≡ false
no_from_not true e = let no : ⊥ = cc in absurd no
no_from_not false e = refl

-- what a text is that passes the checks
abbrev IsDocument : List ℕ → Data → Type 0
IsDocument text d = IsUtf8 text × (read text ≡ Some d) × (has_float d ≡ false)

document_by : (t : Bool) (text : List ℕ) (o : Option Data) → is_utf8 text ≡ t → read text ≡ o
    → is_some (cond t o None) ≡ true → not (unwrap_or (option_map has_float (cond t o None)) false) ≡ true
    → (d : Data) × IsDocument text d
document_by true text (Some d) e f g k = (d, (IsUtf8-from_is_utf8 text e, f, no_from_not (has_float d) k))
document_by true text None e f g k = let no : ⊥ = cc in absurd no
document_by false text o e f g k = let no : ⊥ = cc in absurd no

text_read : (text : List ℕ) → first_fault_of (document_checks text) ≡ None → (d : Data) × IsDocument text d
text_read text e =
    let one = first_passes (is_some (document_of text)) json_text _ e in
    document_by (is_utf8 text) text (read text) refl refl one.0 (first_passes _ json_number None one.1).0

-- what a text reads as is the value
pub json_complete : (versioned : Bool) → IsComplete (FormJson (λ d. d) versioned) (first_fault_json versioned)
json_complete false b h e =
    let p = text_read b e in
    (p.0, record { text = b; is = refl; utf8 = p.1.0; document = p.1.1; no_float = p.1.2 })
json_complete true [] h e = let no : ⊥ = cc in absurd no
json_complete true (x ∷ b) h e =
    let version = first_passes (x == 1) json_version _ (first_passes _ size _ e).1 in
    let p = text_read b version.1 in
    let is : x ∷ b ≡ 1 ∷ b = ap (λ y. y ∷ b) (eqb-true x 1 version.0) in
    (p.0, record { text = b; is = is; utf8 = p.1.0; document = p.1.1; no_float = p.1.2 })
