-- Laws of frames.
use Rattle.std.specs.Prelude.{◌≡◌, ◌<◌, ◌^◌, ℕ, ℤ, pos, negsuc, List, ◌++◌, length, Option, Some, None, Bool, true}
use Rattle.std.specs.Prelude.{false, FitsSigned, refl}
use Rattle.std.proofs.Common.{sym, ◌∙◌, ap, subst, arith, cond, append_assoc}
use Rattle.std.proofs.lemmas.Bool.{leb-true}
use Rattle.std.proofs.lemmas.Bool.Decides.{nat_tests}
use Rattle.std.proofs.lemmas.Int.{ints}
use Rattle.std.specs.Int.{w32}
use Rattle.pg_base.specs.Cells.{Cell, be, IsBe, Spells, frame, concat, fits_prefix, max_length}

length_fits : (n : ℕ) → FitsSigned w32 (pos n) → fits_prefix n ≡ true
length_fits n h =
    let below : n < 2 ^ 31 = omega (arith, ints) in
    grind (arith, nat_tests)

-- a length within the limit fits four bytes
pub fits_length : (n : ℕ) → fits_prefix n ≡ true → FitsSigned w32 (pos n)
fits_length n h =
    let below = leb-true n max_length h in
    omega (arith, ints, below)

-- a length and that many bytes are the bytes' frame
pub frame-bytes : (h b : List ℕ) → IsBe w32 h (pos (length b)) → frame (Some b) ≡ Some (h ++ b)
frame-bytes h b p =
    ap (λ t. cond t (Some (be w32 (pos (length b)) ++ b)) None) (length_fits (length b) p.0)
    ∙ ap (λ s. Some (s ++ b)) (sym p.1)

-- what is there by a test: the test holds, and it is that
pub some_of : (t : Bool) (v k : List ℕ) → cond t (Some v) None ≡ Some k → (t ≡ true) × (k ≡ v)
some_of true v k e = (refl, cc)
some_of false v k e = let no : ⊥ = cc in absurd no

-- and nothing else is
pub bytes-frame : (k b : List ℕ) → frame (Some b) ≡ Some k → (h : List ℕ) × (k ≡ h ++ b) × IsBe w32 h (pos (length b))
bytes-frame k b e =
    let p = some_of (fits_prefix (length b)) (be w32 (pos (length b)) ++ b) k e in
    (be w32 (pos (length b)), p.1, (fits_length (length b) p.0, refl))

-- a length and the cell after it spell the cell
pub cell_after_length : (old h mid cell rest : List ℕ) (n : ℤ) → old ≡ h ++ mid → IsBe w32 h n
    → n ≡ pos (length cell) → mid ≡ cell ++ rest
    → (s : List ℕ) × (old ≡ s ++ rest) × Spells s (Some cell)
cell_after_length old h mid cell rest n e p is m = (
  h ++ cell,
  e ∙ ap (λ x. h ++ x) m ∙ sym (append_assoc h cell rest),
  frame-bytes h cell (subst (λ z. IsBe w32 h z) is p),
)

-- the frame of a cell spells it
pub frame_spells : (c : Cell) (s : List ℕ) → frame c ≡ Some s → Spells s c
frame_spells None s e =
    let fits : FitsSigned w32 (negsuc 0) = omega (arith, ints) in
    let is : s ≡ be w32 (negsuc 0) = cc in
    (0, (fits, is))
frame_spells (Some b) s e = e

-- the parts of a concatenation
pub record ConcatParts (a b : Option (List ℕ)) (t : List ℕ) : Type 0 where
  pub first : List ℕ
  pub second : List ℕ
  pub first_is : a ≡ Some first
  pub second_is : b ≡ Some second
  pub whole : t ≡ first ++ second

-- where a concatenation is there, both its parts are
pub parts_of : (a b : Option (List ℕ)) (t : List ℕ) → concat a b ≡ Some t → ConcatParts a b t
parts_of None b t e = let no : ⊥ = cc in absurd no
parts_of (Some x) None t e = let no : ⊥ = cc in absurd no
parts_of (Some x) (Some y) t e =
    record { first = x; second = y; first_is = refl; second_is = refl; whole = cc }
