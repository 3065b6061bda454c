-- Bytes begin with a row of cells that is as long as it can be.
use Rattle.std.proofs.Common.{◌≡◌, ℕ, zero, suc, ◌<◌, ◌≤◌, ℤ, pos, negsuc, List, [], ◌++◌, ◌∷◌, length, take, drop}
use Rattle.std.proofs.Common.{get_or, Some, None, refl, sym, ◌∙◌, ap, arith, subst, inl, inr, take-append-drop}
use Rattle.std.proofs.Common.{to_z, length-take, Fits, get_or-take}
use Rattle.std.specs.Prelude.{◌⊎◌, ◌+◌, false, nat_le, ◌||◌, is_none}
use Rattle.std.specs.Int.{w32, from_be_bytes, to_be_bytes}
use Rattle.std.proofs.lemmas.Bool.Decides.{nat_tests}
use Rattle.std.proofs.lemmas.List.{get_or-append-add, get_or_past}
use Rattle.std.proofs.lemmas.Nat.{be_bytes_4}
use Rattle.std.proofs.Math.Facts.{of_z-to_z, sfits_to_z}
use Rattle.pg_base.specs.Arrays.{SpellsDimensions, SpellsHead, has_null}
use Rattle.pg_base.proofs.CellLaws.{no_cell}
use Rattle.pg_base.specs.Cells.{AreBytes, Cell, IsBe, SpellsNone, SpellsAll, CellsInRow}
use Rattle.pg_base.proofs.CountLaws.{number_then}
use Rattle.pg_base.specs.Counts.{ToRead, after_number, has_number, number_width}
use Rattle.pg_types.specs.Faults.{size}
use Rattle.pg_base.proofs.FrameLaws.{cell_after_length}
use Rattle.std.proofs.lemmas.Bool.{cases_lt}

-- the first cell is whole, or it is truncated
abbrev Next : List ℕ → Type 0
Next s = ((c : Cell) × (rest : List ℕ) × SpellsAll s (c ∷ []) rest) ⊎ SpellsNone s

-- any four bytes are those of a number
pub four_bytes : (h : List ℕ) → AreBytes h → length h ≡ number_width → (z : ℤ) × IsBe w32 h z
four_bytes h b l =
    let fits : Fits w32 (from_be_bytes w32 h) = omega (arith, b 0, b 1, b 2, b 3) in (
      to_z w32 (from_be_bytes w32 h),
      (
        sfits_to_z fits,
        sym (be_bytes_4 h (from_be_bytes w32 h) l b refl)
            ∙ ap (to_be_bytes w32) (sym (of_z-to_z fits)),
      ),
    )

-- with fewer than four bytes the length is truncated
truncated_length : (s : List ℕ) → length s < number_width → SpellsNone s
truncated_length s h =
    let too_few : has_number s ≡ false = grind (arith, nat_tests) in
    no_cell s size (rw too_few refl)

-- and with fewer bytes than the length says, the cell is
truncated_cell : (s h m : List ℕ) (n : ℕ) → s ≡ h ++ m → IsBe w32 h (pos n) → length m < n → SpellsNone s
truncated_cell s h m n e p l =
    let number = number_then s h m (pos n) e p in
    let too_few : nat_le n (length m) ≡ false = grind (arith, nat_tests) in
    no_cell s size (rw (number.has, number.number, number.rest, too_few) refl)

next_at : (s h m : List ℕ) (z : ℤ) → s ≡ h ++ m → IsBe w32 h z → Next s
next_at s h m (negsuc k) e p =
    inl (None, m, record { front = h; rest = m; is = e; spells = (k, p); rest_spells = refl })
next_at s h m (pos n) e p = elim (cases_lt (length m) n) [
  | inl q ↦ inr (truncated_cell s h m n e p q)
  | inr q ↦
      let l : length (take n m) ≡ n = simp length-take (omega arith) in
      let t = cell_after_length s h m (take n m) (drop n m) (pos n) e p (ap pos (sym l)) (sym (take-append-drop n m)) in
      let cell : SpellsAll s (Some (take n m) ∷ []) (drop n m) =
      record { front = t.0; rest = drop n m; is = t.1; spells = t.2; rest_spells = refl } in
      inl (Some (take n m), drop n m, cell)
]

pub trailing_bytes : (s h m : List ℕ) → s ≡ h ++ m → AreBytes s → AreBytes m
trailing_bytes s h m e b i = subst (λ x. x < 256) (ap (λ x. get_or x (length h + i) 0) e ∙ get_or-append-add h m i 0)
    (b (length h + i))

pub bytes_before : (s : List ℕ) (n : ℕ) → AreBytes s → AreBytes (take n s)
bytes_before s n b i = elim (cases_lt i n) [
  | inl q ↦ subst (λ x. x < 256) (sym (get_or-take n s i 0 q)) (b i)
  | inr q ↦ subst (λ x. x < 256) (sym (get_or_past (take n s) i 0 (omega (arith, length-take n s)))) (omega arith)
]

next : (s : List ℕ) → AreBytes s → Next s
next s b = elim (cases_lt (length s) number_width) [
  | inl q ↦ inr (truncated_length s q)
  | inr q ↦
      let f = four_bytes (take number_width s) (bytes_before s number_width b) (simp length-take (omega arith)) in
      next_at s (take number_width s) (after_number s) f.0 (sym (take-append-drop number_width s)) f.1
]

-- there are n cells, or fewer
pub cells_exist : (s : List ℕ) (n : ℕ) → AreBytes s → (cs : List Cell) × (rest : List ℕ) × CellsInRow s n cs rest
cells_exist s zero b = ([], s, (refl, omega arith, inl refl))
cells_exist s (suc n) b = elim (next s b) [
  | inl p ↦
      let c = p.2 in
      let r = cells_exist c.rest n (trailing_bytes s c.front c.rest c.is b) in (
        p.0 ∷ r.0,
        r.1,
        (
          record { front = c.front; rest = c.rest; is = c.is; spells = c.spells; rest_spells = r.2.0 },
          omega
              (arith, r.2.1),
          elim r.2.2 [ inl e ↦ inl (ap suc e) | inr h ↦ inr h ],
        ),
      )
  | inr h ↦ ([], s, (refl, omega arith, inr h))
]

-- what stands after a head is bytes
dimension_bytes : (d : ℕ) (s : List ℕ) (r : ToRead) → SpellsDimensions d s r → AreBytes s → AreBytes r.bytes
dimension_bytes zero s r p b = subst AreBytes p.1 b
dimension_bytes (suc zero) s r p b =
    let after = p.lower_bound_bytes ++ r.bytes in
    trailing_bytes after p.lower_bound_bytes r.bytes refl (trailing_bytes s p.length_bytes after p.is b)
dimension_bytes (suc (suc d)) s r p b = absurd p

pub head_bytes : (b : List ℕ) (r : ToRead) → SpellsHead b r → AreBytes b → AreBytes r.bytes
head_bytes b r p h =
    let after = p.flags_and_oid ++ p.remaining in
    dimension_bytes p.dimension_count p.remaining r p.spells
    (trailing_bytes after p.flags_and_oid p.remaining refl (trailing_bytes b p.count_prefix after p.is h))

-- and so is what stands after cells
pub row_bytes : (s u : List ℕ) (cs : List Cell) → SpellsAll s cs u → AreBytes s → AreBytes u
row_bytes s u [] e b = subst AreBytes e b
row_bytes s u (c ∷ cs) p b =
    row_bytes p.rest u cs p.rest_spells (trailing_bytes s p.front p.rest p.is b)

-- cells after cells
pub spelled_more : (s u rest : List ℕ) (cs ds : List Cell) → SpellsAll s cs u → SpellsAll u ds rest
    → SpellsAll s (cs ++ ds) rest
spelled_more s u rest [] ds e r = subst (λ x. SpellsAll x ds rest) (sym e) r
spelled_more s u rest (c ∷ cs) ds p r = record {
  front = p.front;
  rest = p.rest;
  is = p.is;
  spells = p.spells;
  rest_spells = spelled_more p.rest u rest cs ds p.rest_spells r;
}

-- whether a cell is NULL, of one cell more
pub null_append : (cs : List Cell) (c : Cell) → has_null (cs ++ c ∷ []) ≡ (has_null cs || is_none c)
null_append [] None = refl
null_append [] (Some b) = refl
null_append (None ∷ cs) c = refl
null_append (Some b ∷ cs) c = null_append cs c
