-- The checks of hstore are complete.
use Rattle.std.specs.Prelude.{◌≡◌, ◌++◌, [], ◌∷◌, ℕ, zero, suc, ℤ, pos, negsuc, ◌==◌, List, length, drop, take}
use Rattle.std.specs.Prelude.{Option, Some, None, true, nat_le, IsUtf8, refl}
use Rattle.std.proofs.Common.{sym, ◌∙◌, ap, subst, arith, append_assoc, length-take, take-append-drop}
use Rattle.std.proofs.lemmas.Bool.{eqb-true, leb-true}
use Rattle.std.proofs.lemmas.Str.{IsUtf8-from_is_utf8}
use Rattle.std.specs.Int.{w32}
use Rattle.std.specs.Str.{is_utf8}
use Rattle.pg_base.proofs.CellLaws.{cell_by, cell_in}
use Rattle.pg_base.proofs.CellRows.{trailing_bytes}
use Rattle.pg_base.proofs.Completeness.{both_pass, first_passes}
use Rattle.pg_base.proofs.CompletenessBits.{count_at_front, number_at_front}
use Rattle.pg_base.proofs.FrameLaws.{cell_after_length}
use Rattle.pg_base.specs.Cells.{AreBytes, Cell, IsBe, Spells}
use Rattle.pg_base.specs.Counts.{IsCount, after_cell, bytes_in, count_checks, count_or_zero, has_cell, has_number}
use Rattle.pg_base.specs.Counts.{after_number, not_negative, number_in, number_width}
use Rattle.pg_base.specs.Formats.{IsComplete, first_fault_of}
use Rattle.pg_base.specs.Hstore.{Entry, FormHstore, SpellsEntries, SpellsEntry, SpellsText, entries_checks}
use Rattle.pg_base.specs.Hstore.{entry_checks, first_fault_hstore, key_checks, last_value, value_checks}
use Rattle.pg_base.specs.Options.{NoneOr}
use Rattle.pg_types.specs.Faults.{key_length, size, utf8}

-- bytes begin with what spells the cell, and rest comes after it
abbrev BeginsWith : List ℕ → Cell → List ℕ → Type 0
BeginsWith s c rest = (t : List ℕ) × (s ≡ t ++ rest) × SpellsText t c

cell_from : (z : ℤ) (h m s : List ℕ) → s ≡ h ++ m → IsBe w32 h z → nat_le (count_or_zero z) (length m) ≡ true
    → (t : List ℕ) × (s ≡ t ++ drop (count_or_zero z) m) × Spells t (cell_by z (take (count_or_zero z) m))
cell_from (negsuc k) h m s e p f = (h, e, (k, p))
cell_from (pos n) h m s e p f =
    let long = leb-true n (length m) f in
    let len : length (take n m) ≡ n = simp length-take (omega (arith, long)) in
    cell_after_length s h m (take n m) (drop n m) (pos n) e p (ap pos (sym len)) (sym (take-append-drop n m))

text_from : (z : ℤ) (x : List ℕ) → is_utf8 x ≡ true → NoneOr IsUtf8 (cell_by z x)
text_from (pos n) x e = IsUtf8-from_is_utf8 x e
text_from (negsuc n) x e = tt

text_at_front : (s : List ℕ) → AreBytes s → has_number s ≡ true → has_cell s ≡ true → is_utf8 (bytes_in s) ≡ true
    → BeginsWith s (cell_in s) (after_cell s)
text_at_front s h has whole text =
    let number = number_at_front s h has in
    let p = cell_from (number_in s) (take number_width s) (after_number s) s number.whole number.number whole in
    (p.0, p.1, (p.2, text_from (number_in s) (bytes_in s) text))

value_at_front : (s : List ℕ) → AreBytes s → first_fault_of (value_checks s) ≡ None
    → BeginsWith s (cell_in s) (after_cell s)
value_at_front s h e =
    let has = first_passes (has_number s) size _ e in
    let whole = first_passes (has_cell s) size _ has.1 in
    let text = first_passes (is_utf8 (bytes_in s)) utf8 None whole.1 in
    text_at_front s h has.0 whole.0 text.0

some_by : (z : ℤ) (x : List ℕ) → not_negative z ≡ true → cell_by z x ≡ Some x
some_by (pos n) x e = refl
some_by (negsuc n) x e = let no : ⊥ = cc in absurd no

key_at_front : (s : List ℕ) → AreBytes s → first_fault_of (key_checks s) ≡ None
    → BeginsWith s (Some (bytes_in s)) (after_cell s)
key_at_front s h e =
    let has = first_passes (has_number s) size _ e in
    let sign = first_passes (not_negative (number_in s)) key_length _ has.1 in
    let whole = first_passes (has_cell s) size _ sign.1 in
    let text = first_passes (is_utf8 (bytes_in s)) utf8 None whole.1 in
    subst (λ c. BeginsWith s c (after_cell s)) (some_by (number_in s) (bytes_in s) sign.0)
    (text_at_front s h has.0 whole.0 text.0)

-- bytes begin with what spells the entry, and rest comes after it
record BeginsWithEntry (s : List ℕ) (rest : List ℕ) : Type 0 where
  pub entry : Entry
  pub front : List ℕ
  pub parts : s ≡ front ++ rest
  pub spells : SpellsEntry front entry

entry_at_front : (s : List ℕ) → AreBytes s → first_fault_of (entry_checks s) ≡ None
    → BeginsWithEntry s (after_cell (after_cell s))
entry_at_front s h e =
    let passes = both_pass (key_checks s) (value_checks (after_cell s)) e in
    let key = key_at_front s h passes.0 in
    let value = value_at_front (after_cell s) (trailing_bytes s key.0 (after_cell s) key.1 h) passes.1 in
    record {
      entry = (bytes_in s, cell_in (after_cell s));
      front = key.0 ++ value.0;
      parts = key.1 ∙ ap (λ x. key.0 ++ x) value.1
          ∙ sym (append_assoc key.0 value.0 (after_cell (after_cell s)));
      spells = record {
        front = key.0;
        rest = value.0;
        is = refl;
        spells = key.2;
        rest_spells = value.2;
      };
    }

-- so many entries that spell all of the bytes
abbrev AreEntries : ℕ → List ℕ → List Entry → Type 0
AreEntries n s es = (length es ≡ n) × SpellsEntries s es []

empty_from : (s : List ℕ) → length s ≡ 0 → s ≡ []
empty_from [] e = refl
empty_from (x ∷ s) e = absurd (omega (arith, e))

entries_at_front : (n : ℕ) (s : List ℕ) → AreBytes s → first_fault_of (entries_checks n s) ≡ None
    → (es : List Entry) × AreEntries n s es
entries_at_front zero s h e =
    ([], (refl, empty_from s (eqb-true (length s) 0 (first_passes (length s == 0) size None e).0)))
entries_at_front (suc n) s h e =
    let rest = after_cell (after_cell s) in
    let passes = both_pass (entry_checks s) (entries_checks n rest) e in
    let one = entry_at_front s h passes.0 in
    let more = entries_at_front n rest (trailing_bytes s one.front rest one.parts h) passes.1 in
    let spells : SpellsEntries s (one.entry ∷ more.0) [] = record {
      front = one.front;
      rest = rest;
      is = one.parts;
      spells = one.spells;
      rest_spells = more.1.1;
    } in
    (one.entry ∷ more.0, (ap suc more.1.0, spells))

-- a map is told by what it has at each key
pub hstore_complete : IsComplete (FormHstore (λ (m : List ℕ → Option Cell). m)) first_fault_hstore
hstore_complete b h e =
    let n = count_or_zero (number_in b) in
    let rest = after_number b in
    let passes = both_pass (count_checks b) (entries_checks n rest) e in
    let number = count_at_front b h passes.0 in
    let p = entries_at_front n rest (trailing_bytes b (take number_width b) rest number.1 h) passes.1 in (
      λ q. last_value q p.0,
      record {
        entries = p.0;
        remaining = rest;
        counts = (take number_width b, number.1, subst (IsCount (take number_width b)) (sym p.1.0) number.0);
        spells = p.1.1;
        values = λ q. refl;
      },
    )
