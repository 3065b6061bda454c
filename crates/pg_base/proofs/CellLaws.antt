-- Laws of cells in a row.
use Rattle.std.specs.Prelude.{◌≡◌, ℕ, zero, suc, ◌+◌, ℤ, pos, negsuc, List, [], ◌∷◌, ◌++◌, length, Some, None}
use Rattle.std.specs.Prelude.{true, nat_le, refl}
use Rattle.std.proofs.Common.{sym, ◌∙◌, ap, ap₂, subst, arith, append_assoc, append-nil, inl, inr}
use Rattle.std.proofs.Math.Dec.{leb-zero}
use Rattle.std.proofs.Math.Seq.{take-append_seam, drop-append_seam}
use Rattle.std.proofs.lemmas.Bool.Decides.{nat_tests}
use Rattle.std.proofs.lemmas.List.{length-append}
use Rattle.pg_base.specs.Cells.{Cell, Spells, SpellsNone, SpellsAll, CellsInRow, frame, frames, FramesSingle}
use Rattle.pg_base.specs.Cells.{FramePrefixesSingle}
use Rattle.pg_base.proofs.CountLaws.{IsNumberThen, number_then}
use Rattle.pg_base.specs.Counts.{after_number, has_number, number_in, has_cell, bytes_in, after_cell, cell_checks}
use Rattle.pg_types.specs.Faults.{Refusal, size}
use Rattle.pg_base.specs.Formats.{first_fault_of}
use Rattle.pg_base.proofs.FrameLaws.{bytes-frame, frame_spells, parts_of}

-- the bytes of a cell; NULL has none
abbrev pub bytes_or_none : Cell → List ℕ
bytes_or_none None = []
bytes_or_none (Some x) = x

-- the cell that s begins with
abbrev pub cell_by : ℤ → List ℕ → Cell
cell_by (pos n) x = Some x
cell_by (negsuc n) x = None

abbrev pub cell_in : List ℕ → Cell
cell_in s = cell_by (number_in s) (bytes_in s)

-- what is known of bytes that begin with this cell, and go on with u
pub record IsCellThen (s : List ℕ) (c : Cell) (u : List ℕ) : Type 0 where
  pub has : has_number s ≡ true
  pub whole : has_cell s ≡ true
  pub bytes : bytes_in s ≡ bytes_or_none c
  pub cell : cell_in s ≡ c
  pub rest : after_cell s ≡ u

null_then : (s u : List ℕ) (n : ℕ) → IsNumberThen s (negsuc n) u → IsCellThen s None u
null_then s u n p = record {
  has = p.has;
  whole = rw p.number (leb-zero (length (after_number s)));
  bytes = rw p.number refl;
  cell = rw p.number refl;
  rest = rw p.number p.rest;
}

long_enough : (x u : List ℕ) → nat_le (length x) (length (x ++ u)) ≡ true
long_enough x u = grind (arith, nat_tests, length-append x u)

some_then : (s x u : List ℕ) → IsNumberThen s (pos (length x)) (x ++ u) → IsCellThen s (Some x) u
some_then s x u p =
    let bytes : bytes_in s ≡ x = rw (p.number, p.rest) (take-append_seam x u) in
    record {
      has = p.has;
      whole = rw (p.number, p.rest) (long_enough x u);
      bytes = bytes;
      cell = rw p.number (ap Some (rw (p.rest) (take-append_seam x u)));
      rest = rw (p.number, p.rest) (drop-append_seam x u);
    }

pub cell_then : (t u : List ℕ) (c : Cell) → Spells t c → IsCellThen (t ++ u) c u
cell_then t u None p = null_then (t ++ u) u p.0 (number_then (t ++ u) t u (negsuc p.0) refl p.1)
cell_then t u (Some x) p =
    let prefix = bytes-frame t x p in
    let parts : t ++ u ≡ prefix.0 ++ (x ++ u) = ap (λ s. s ++ u) prefix.1 ∙ append_assoc prefix.0 x u in
    some_then (t ++ u) x u (number_then (t ++ u) prefix.0 (x ++ u) (pos (length x)) parts prefix.2)

-- a whole first cell passes the checks
pub cell_passes : (s u : List ℕ) (c : Cell) → IsCellThen s c u → first_fault_of (cell_checks s) ≡ None
cell_passes s u c p = rw (p.has, p.whole) refl

-- where a check fails, the first cell is truncated
pub no_cell : (s : List ℕ) (r : Refusal) → first_fault_of (cell_checks s) ≡ Some r → SpellsNone s
no_cell s r e t rest c is spells =
    let none : None ≡ Some r = sym (cell_passes (t ++ rest) rest c (cell_then t rest c spells))
    ∙ ap (λ x. first_fault_of (cell_checks x)) (sym is) ∙ e in
    let no : ⊥ = cc in no

-- bytes begin with one cell
pub cell_single : (t u s w : List ℕ) (c d : Cell) → t ++ u ≡ s ++ w → Spells t c → Spells s d → (c ≡ d) × (u ≡ w)
cell_single t u s w c d e p q =
    let one = cell_then t u c p in
    let two = cell_then s w d q in
    (sym one.cell ∙ ap cell_in e ∙ two.cell, sym one.rest ∙ ap after_cell e ∙ two.rest)

-- and with one row of cells
pub cells_single : (s : List ℕ) (n : ℕ) (cs ds : List Cell) (u w : List ℕ) → CellsInRow s n cs u → CellsInRow s n ds w
    → (cs ≡ ds) × (u ≡ w)
cells_single s n [] [] u w p q = (refl, sym p.0 ∙ q.0)
cells_single s n [] (d ∷ ds) u w p q =
    elim p.2 [
      | inl z ↦ absurd (omega (arith, q.1, z))
      | inr z ↦ absurd (z q.0.front q.0.rest d (sym p.0 ∙ q.0.is) q.0.spells)
    ]
cells_single s n (c ∷ cs) [] u w p q =
    elim q.2 [
      | inl z ↦ absurd (omega (arith, p.1, z))
      | inr z ↦ absurd (z p.0.front p.0.rest c (sym q.0 ∙ p.0.is) p.0.spells)
    ]
cells_single s zero (c ∷ cs) (d ∷ ds) u w p q = absurd (omega (arith, p.1))
cells_single s (suc n) (c ∷ cs) (d ∷ ds) u w p q =
    let first = cell_single p.0.front p.0.rest q.0.front q.0.rest c d (sym p.0.is ∙ q.0.is) p.0.spells q.0.spells in
    let h : CellsInRow p.0.rest n cs u = (
      p.0.rest_spells,
      omega
          (arith, p.1),
      elim p.2 [ inl z ↦ inl (omega (arith, z)) | inr z ↦ inr z ],
    ) in
    let k : CellsInRow q.0.rest n ds w = (
      q.0.rest_spells,
      omega
          (arith, q.1),
      elim q.2 [ inl z ↦ inl (omega (arith, z)) | inr z ↦ inr z ],
    ) in
    let later = cells_single p.0.rest n cs ds u w h (subst (λ x. CellsInRow x n ds w) (sym first.1) k) in
    (ap₂ (λ (x : Cell) (xs : List Cell). x ∷ xs) first.0 later.0, later.1)

-- frames spell their cells, whatever comes after
pub frames_spell : (cs : List Cell) (b s : List ℕ) → frames cs ≡ Some b → SpellsAll (b ++ s) cs s
frames_spell [] b s e = let none : b ≡ [] = cc in ap (λ x. x ++ s) none
frames_spell (c ∷ cs) b s e =
    let parts = parts_of (frame c) (frames cs) b e in
    record {
      front = parts.first;
      rest = parts.second ++ s;
      is = ap (λ x. x ++ s) parts.whole ∙ append_assoc parts.first parts.second s;
      spells = frame_spells c parts.first parts.first_is;
      rest_spells = frames_spell cs parts.second s parts.second_is;
    }

-- and alone where nothing does
pub frames_alone : (cs : List Cell) (b : List ℕ) → frames cs ≡ Some b → SpellsAll b cs []
frames_alone cs b e = subst (λ x. SpellsAll x cs []) (append-nil b) (frames_spell cs b [] e)

-- so bytes that begin with frames are a row of their cells
pub frames_in_row : (cs : List Cell) (b s : List ℕ) → frames cs ≡ Some b → CellsInRow (b ++ s) (length cs) cs s
frames_in_row cs b s e = (frames_spell cs b s e, omega arith, inl refl)

-- the frames of cells are those of no others
pub frames_single : FramesSingle
frames_single cs ds b e f =
    let none : SpellsNone [] = no_cell [] size refl in
    (cells_single b (length cs + length ds) cs ds [] [] (frames_alone cs b e, omega arith, inr none)
    (frames_alone ds b f, omega arith, inr none)).0

-- nor, whatever comes after them, of other cells that are as many
pub frame_prefixes_single : FramePrefixesSingle
frame_prefixes_single cs ds a b s t many e f is =
    let other : CellsInRow (a ++ s) (length cs) ds t =
    (subst (λ x. SpellsAll x ds t) (sym is) (frames_spell ds b t f), omega (arith, many), inl (sym many)) in
    cells_single (a ++ s) (length cs) cs ds s t (frames_in_row cs a s e) other
