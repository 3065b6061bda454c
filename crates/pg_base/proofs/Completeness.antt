-- The checks of formats are complete: bytes that pass every check spell a value.
use Rattle.std.specs.Prelude.{◌≡◌, ◌++◌, [], ◌∷◌, ℕ, pos, ◌+ℤ◌, ◌*ℤ◌, ◌%◌, ◌==◌, List, length}
use Rattle.std.specs.Prelude.{Option, Some, None, Bool, true, false, not, refl}
use Rattle.std.proofs.Common.{sym, ◌∙◌, ap, arith, cond, Fits, to_z}
use Rattle.std.proofs.Math.Facts.{of_z-to_z, sfits_to_z}
use Rattle.std.proofs.lemmas.Bool.{eqb-true}
use Rattle.std.proofs.lemmas.Nat.{be_bytes_2, be_bytes_4, be_bytes_8}
use Rattle.std.proofs.lemmas.Str.{IsUtf8-from_is_utf8}
use Rattle.std.specs.Int.{Width, w8, w16, w32, w64, byte_len, from_be_bytes, to_be_bytes}
use Rattle.pg_base.specs.Bytea.{FormBytes, first_fault_bytes}
use Rattle.pg_base.specs.Cells.{AreBytes}
use Rattle.pg_base.specs.FixedBytes.{FormFixedBytes}
use Rattle.pg_base.specs.Formats.{Checks, IsComplete, first_fault_of}
use Rattle.pg_base.specs.Numbers.{FormBool, FormSigned, FormUnsigned, first_fault_number}
use Rattle.pg_base.specs.Texts.{FormText, first_fault_text}
use Rattle.pg_base.specs.Timestamps.{FormTimestamp, base_nanos}
use Rattle.pg_types.specs.Faults.{Refusal}

-- where no check fails, the first passes, and none of the others fails
pub first_passes : (t : Bool) (r : Refusal) (others : Option Refusal) → cond t others (Some r) ≡ None
    → (t ≡ true) × (others ≡ None)
first_passes true r others e = (refl, e)
first_passes false r others e = let no : ⊥ = cc in absurd no

-- where none of more checks fails, none of either part does
pub both_pass : (xs ys : Checks) → first_fault_of (xs ++ ys) ≡ None
    → (first_fault_of xs ≡ None) × (first_fault_of ys ≡ None)
both_pass [] ys e = (refl, e)
both_pass (x ∷ xs) ys e =
    let h = first_passes x.0 x.1 (first_fault_of (xs ++ ys)) e in
    let k = both_pass xs ys h.1 in
    (rw h.0 k.0, k.1)

-- bytes that pass the check have the width's length
pub right_length : (width : ℕ) (b : List ℕ) → first_fault_number width b ≡ None → length b ≡ width
right_length width b e = eqb-true (length b) width (first_passes (length b == width) _ None e).0

-- over a width whose bytes are those of the number that they give
module _ (w : Width) (below : (b : List ℕ) → AreBytes b → Fits w (from_be_bytes w b))
    (back : (b : List ℕ) (n : ℕ) → length b ≡ byte_len w → AreBytes b → n ≡ from_be_bytes w b
    → to_be_bytes w n ≡ b) where
  signed_complete : IsComplete (FormSigned w) (first_fault_number (byte_len w))
  signed_complete b h e =
      let fits = below b h in (
        to_z w (from_be_bytes w b),
        (
          sfits_to_z fits,
          sym (back b (from_be_bytes w b) (right_length (byte_len w) b e) h refl)
              ∙ ap (to_be_bytes w) (sym (of_z-to_z fits)),
        ),
      )

  unsigned_complete : IsComplete (FormUnsigned w) (first_fault_number (byte_len w))
  unsigned_complete b h e = (
    from_be_bytes w b,
    ((below b h).fits, sym (back b (from_be_bytes w b) (right_length (byte_len w) b e) h refl)),
  )

below_1 : (b : List ℕ) → AreBytes b → Fits w8 (from_be_bytes w8 b)
below_1 b h = omega (arith, h 0)

back_1 : (b : List ℕ) (n : ℕ) → length b ≡ 1 → AreBytes b → n ≡ from_be_bytes w8 b → to_be_bytes w8 n ≡ b
back_1 [] n l h e = absurd (omega arith)
back_1 (x ∷ []) n l h e = let low : n ≡ x = omega (arith, e) in let same : n % 256 ≡ x = omega (arith, low, h 0) in cc
back_1 (x ∷ y ∷ b) n l h e = absurd (omega arith)

below_2 : (b : List ℕ) → AreBytes b → Fits w16 (from_be_bytes w16 b)
below_2 b h = omega (arith, h 0, h 1)

below_4 : (b : List ℕ) → AreBytes b → Fits w32 (from_be_bytes w32 b)
below_4 b h = omega (arith, h 0, h 1, h 2, h 3)

below_8 : (b : List ℕ) → AreBytes b → Fits w64 (from_be_bytes w64 b)
below_8 b h = omega (arith, h 0, h 1, h 2, h 3, h 4, h 5, h 6, h 7)

pub char_complete : IsComplete (FormSigned w8) (first_fault_number 1)
char_complete = signed_complete w8 below_1 back_1

pub int2_complete : IsComplete (FormSigned w16) (first_fault_number 2)
int2_complete = signed_complete w16 below_2 (λ b n l h e. be_bytes_2 b n l h e)

pub int4_complete : IsComplete (FormSigned w32) (first_fault_number 4)
int4_complete = signed_complete w32 below_4 (λ b n l h e. be_bytes_4 b n l h e)

pub int8_complete : IsComplete (FormSigned w64) (first_fault_number 8)
int8_complete = signed_complete w64 below_8 (λ b n l h e. be_bytes_8 b n l h e)

pub oid_complete : IsComplete (FormUnsigned w32) (first_fault_number 4)
oid_complete = unsigned_complete w32 below_4 (λ b n l h e. be_bytes_4 b n l h e)

pub lsn_complete : IsComplete (FormUnsigned w64) (first_fault_number 8)
lsn_complete = unsigned_complete w64 below_8 (λ b n l h e. be_bytes_8 b n l h e)

one_byte : (b : List ℕ) → length b ≡ 1 → (v : Bool) × FormBool b v
one_byte [] l = absurd (omega arith)
one_byte (x ∷ []) l = (not (x == 0), (x, refl, refl))
one_byte (x ∷ y ∷ b) l = absurd (omega arith)

pub bool_complete : IsComplete FormBool (first_fault_number 1)
bool_complete b h e = one_byte b (right_length 1 b e)

-- a timestamp is told by its nanoseconds
pub timestamp_complete : IsComplete (FormTimestamp (λ nanos. nanos)) (first_fault_number 8)
timestamp_complete b h e = let p = int8_complete b h e in (base_nanos +ℤ p.0 *ℤ pos 1000, (p.0, p.1, refl))

pub text_complete : (versioned : Bool) → IsComplete (FormText (λ s. s) versioned) (first_fault_text versioned)
text_complete false b h e = (b, (IsUtf8-from_is_utf8 b (first_passes _ _ None e).0, refl))
text_complete true [] h e = let no : ⊥ = cc in absurd no
text_complete true (x ∷ b) h e =
    let p = first_passes (x == 1) _ _ e in
    (b, (IsUtf8-from_is_utf8 b (first_passes _ _ None p.1).0, ap (λ y. y ∷ b) (eqb-true x 1 p.0)))

pub bytes_complete : IsComplete (FormBytes (λ s. s)) first_fault_bytes
bytes_complete b h e = (b, refl)

pub fixed_bytes_complete : (width : ℕ) → IsComplete (FormFixedBytes width) (first_fault_number width)
fixed_bytes_complete width b h e = (b, (refl, right_length width b e))
