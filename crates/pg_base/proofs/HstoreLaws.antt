-- Hstore is a grammar: its bytes spell one map, and pass every check.
use Rattle.std.specs.Prelude.{◌≡◌, ℕ, zero, suc, ℤ, pos, negsuc, List, [], ◌∷◌, ◌++◌, ◌+◌, length, take}
use Rattle.std.specs.Prelude.{Option, Some, None, Bool, true, false, nat_le, IsUtf8, refl}
use Rattle.std.proofs.Common.{sym, ◌∙◌, ap, ap₂, arith, append_assoc}
use Rattle.std.proofs.Math.Dec.{leb-zero}
use Rattle.std.proofs.lemmas.List.{length-append}
use Rattle.std.proofs.lemmas.Str.{is_utf8-from_IsUtf8, IsUtf8-nil}
use Rattle.std.specs.Str.{is_utf8}
use Rattle.pg_base.specs.Cells.{Cell}
use Rattle.pg_types.specs.Faults.{Refusal, size, utf8, key_length}
use Rattle.pg_base.proofs.CellLaws.{IsCellThen, bytes_or_none, cell_by, cell_in, cell_then}
use Rattle.pg_base.proofs.CountLaws.{number_then}
use Rattle.pg_base.specs.Counts.{checks_of_next, next_checks, ToRead, after_cell, bytes_in, has_number}
use Rattle.pg_base.specs.Counts.{after_number, not_negative, number_in, count_or_zero}
use Rattle.pg_base.proofs.FormatLaws.{check_failed, checks_passed}
use Rattle.pg_base.specs.Formats.{IsGrammar, first_fault_of}
use Rattle.pg_base.specs.Hstore.{Entry, SpellsText, SpellsEntry, SpellsEntries, SpellsCount, FormHstore, key_checks}
use Rattle.pg_base.specs.Hstore.{value_checks, entry_checks, entries_checks, first_fault_hstore, last_value}
use Rattle.pg_base.specs.Options.{NoneOr}
use Rattle.pg_base.specs.Sameness.{IsEquivalence}

-- the entry that s begins with
abbrev entry_in : List ℕ → Entry
entry_in s = (bytes_in s, cell_in (after_cell s))

utf8_of : (c : Cell) → NoneOr IsUtf8 c → is_utf8 (bytes_or_none c) ≡ true
utf8_of None h = is_utf8-from_IsUtf8 [] IsUtf8-nil
utf8_of (Some x) h = is_utf8-from_IsUtf8 x h

-- a whole text passes the checks
value_passes : (s u : List ℕ) (c : Cell) → IsCellThen s c u → NoneOr IsUtf8 c → first_fault_of (value_checks s) ≡ None
value_passes s u c p h = rw (p.has, p.whole, p.bytes, utf8_of c h) refl

some_not_negative : (n : ℤ) (y x : List ℕ) → cell_by n y ≡ Some x → not_negative n ≡ true
some_not_negative (pos n) y x e = refl
some_not_negative (negsuc n) y x e = let no : ⊥ = cc in absurd no

key_passes : (s x u : List ℕ) → IsCellThen s (Some x) u → IsUtf8 x → first_fault_of (key_checks s) ≡ None
key_passes s x u p h = rw (
  p.has,
  some_not_negative (number_in s)
      (bytes_in s) x p.cell,
  p.whole,
  p.bytes,
  is_utf8-from_IsUtf8 x h,
) refl

-- the first fault of a text is that of a key
key_fault_by : (t : Bool) (n : ℤ) (d : List ℕ) (r : Refusal)
    → first_fault_of ((t, size) ∷ (nat_le (count_or_zero n) (length d), size)
    ∷ (is_utf8 (take (count_or_zero n) d), utf8) ∷ []) ≡ Some r
    → first_fault_of ((t, size) ∷ (not_negative n, key_length) ∷ (nat_le (count_or_zero n) (length d), size)
    ∷ (is_utf8 (take (count_or_zero n) d), utf8) ∷ []) ≡ Some r
key_fault_by false n d r e = e
key_fault_by true (pos n) d r e = e
key_fault_by true (negsuc n) d r e = let none : None ≡ Some r =
    sym (rw (leb-zero (length d), is_utf8-from_IsUtf8 [] IsUtf8-nil) refl) ∙ e in let no : ⊥ = cc in absurd no

pub key_fault : (s : List ℕ) (r : Refusal) → first_fault_of (value_checks s) ≡ Some r → first_fault_of (entry_checks s)
    ≡ Some r
key_fault s r e = check_failed (key_checks s) (value_checks (after_cell s)) r
    (key_fault_by (has_number s) (number_in s) (after_number s) r e)

-- after a sound key the first fault is the value's
pub value_fault : (t u x : List ℕ) (r : Refusal) → SpellsText t (Some x) → first_fault_of (value_checks u) ≡ Some r
    → first_fault_of (entry_checks (t ++ u)) ≡ Some r
value_fault t u x r p e =
    let after = cell_then t u (Some x) p.0 in
    checks_passed (key_checks (t ++ u)) (value_checks (after_cell (t ++ u))) (key_passes (t ++ u) x u after p.1)
    ∙ ap (λ s. first_fault_of (value_checks s)) after.rest ∙ e

-- what is known of bytes that begin with this entry and go on with u
record IsEntryThen (s : List ℕ) (e : Entry) (u : List ℕ) : Type 0 where
  pub passes : first_fault_of (entry_checks s) ≡ None
  pub entry : entry_in s ≡ e
  pub rest : after_cell (after_cell s) ≡ u

entry_then : (t u : List ℕ) (e : Entry) → SpellsEntry t e → IsEntryThen (t ++ u) e u
entry_then t u e p =
    let s : List ℕ = p.front ++ (p.rest ++ u) in
    let parts : t ++ u ≡ s = ap (λ x. x ++ u) p.is ∙ append_assoc p.front p.rest u in
    let key = cell_then p.front (p.rest ++ u) (Some e.0) p.spells.0 in
    let value = cell_then p.rest u e.1 p.rest_spells.0 in
    rw parts (record {
      passes = checks_passed (key_checks s) (value_checks (after_cell s))
          (key_passes s e.0 (p.rest ++ u) key p.spells.1)
          ∙ ap (λ x. first_fault_of (value_checks x)) key.rest ∙ value_passes (p.rest ++ u) u e.1 value p.rest_spells.1;
      entry = ap₂ (λ (x : List ℕ) (c : Cell). let e : Entry = (x, c) in e) key.bytes (ap cell_in key.rest ∙ value.cell);
      rest = ap after_cell key.rest ∙ value.rest;
    })

-- so many entries, and n more
and_more : List Entry → ℕ → ℕ
and_more [] n = n
and_more (e ∷ es) n = suc (and_more es n)

and_more-is : (es : List Entry) (n : ℕ) → and_more es n ≡ length es + n
unfolding and_more
and_more-is [] n = omega arith
and_more-is (e ∷ es) n = omega (arith, and_more-is es n)

fault_after_entries : (s rest : List ℕ) (es : List Entry) (n : ℕ) → SpellsEntries s es rest
    → first_fault_of (entries_checks (and_more es n) s) ≡ first_fault_of (entries_checks n rest)
unfolding and_more
fault_after_entries s rest [] n p = ap (λ x. first_fault_of (entries_checks n x)) p
fault_after_entries s rest (e ∷ es) n p =
    let first = entry_then p.front p.rest e p.spells in
    rw p.is (checks_passed (entry_checks (p.front ++ p.rest))
    (entries_checks (and_more es n) (after_cell (after_cell (p.front ++ p.rest)))) first.passes
    ∙ ap (λ x. first_fault_of (entries_checks (and_more es n) x)) first.rest
    ∙ fault_after_entries p.rest rest es n p.rest_spells)

-- what is checked after sound entries is what is checked of the rest
entries_pass : (s rest : List ℕ) (es : List Entry) (n m : ℕ) → SpellsEntries s es rest → length es + n ≡ m
    → first_fault_of (entries_checks m s) ≡ first_fault_of (entries_checks n rest)
entries_pass s rest es n m p e =
    ap (λ k. first_fault_of (entries_checks k s)) (sym e ∙ sym (and_more-is es n)) ∙ fault_after_entries s rest es n p

-- the first n entries of s
entries_in : ℕ → List ℕ → List Entry
entries_in zero s = []
entries_in (suc n) s = entry_in s ∷ entries_in n (after_cell (after_cell s))

entries_are : (s rest : List ℕ) (es : List Entry) → SpellsEntries s es rest → entries_in (length es) s ≡ es
unfolding entries_in
entries_are s rest [] p = refl
entries_are s rest (e ∷ es) p =
    let first = entry_then p.front p.rest e p.spells in
    rw p.is (ap₂ (λ (x : Entry) (xs : List Entry). x ∷ xs) first.entry
    (ap (entries_in (length es)) first.rest ∙ entries_are p.rest rest es p.rest_spells))

-- bytes spell one list of entries
entries_single : (b s u : List ℕ) (es fs : List Entry) → SpellsCount b (record { left = length es; bytes = s })
    → SpellsEntries s es []
    → SpellsCount b (record { left = length fs; bytes = u }) → SpellsEntries u fs [] → es ≡ fs
entries_single b s u es fs c p d q =
    let one = number_then b c.0 s (pos (length es)) c.1 c.2 in
    let two = number_then b d.0 u (pos (length fs)) d.1 d.2 in
    let same : length es ≡ length fs = ap count_or_zero (sym one.number ∙ two.number) in
    sym (entries_are s [] es p) ∙ ap₂ entries_in same (sym one.rest ∙ two.rest) ∙ entries_are u [] fs q

-- after a sound count, the first fault is that of the entries
fault_after_count : (b : List ℕ) (r : ToRead) → SpellsCount b r → first_fault_hstore b
    ≡ first_fault_of (entries_checks r.left r.bytes)
fault_after_count b r c =
    let one = number_then b c.0 r.bytes (pos r.left) c.1 c.2 in
    rw (one.has, one.number, one.rest) refl

form_passes : (b s : List ℕ) (es : List Entry) → SpellsCount b (record { left = length es; bytes = s })
    → SpellsEntries s es [] → first_fault_hstore b ≡ None
form_passes b s es c p = fault_after_count b (record { left = length es; bytes = s }) c
    ∙ entries_pass s [] es 0 (length es) p (omega arith)

pub hstore_grammar : {A : Type 0} (value_at : A → List ℕ → Option Cell)
    → IsGrammar (λ m n. (q : List ℕ) → value_at m q ≡ value_at n q) (FormHstore value_at) first_fault_hstore
hstore_grammar value_at = record {
  passes = λ b m h. form_passes b h.remaining h.entries h.counts h.spells;
  single = λ b m n h k.
      let same = entries_single b h.remaining k.remaining h.entries k.entries h.counts h.spells k.counts k.spells in
      λ q. h.values q ∙ ap (last_value q) same ∙ sym (k.values q);
}

next_fault : (n : ℕ) (s : List ℕ) (r : Refusal) → first_fault_of (checks_of_next entry_checks n s) ≡ Some r
    → first_fault_of (entries_checks n s) ≡ Some r
next_fault zero s r e = e
next_fault (suc n) s r e = check_failed (entry_checks s) (entries_checks n (after_cell (after_cell s))) r e

-- between the start and now these entries were read
pub record HaveBeenRead (start : ToRead) (es : List Entry) (now : ToRead) : Type 0 where
  pub so_many : length es + now.left ≡ start.left
  pub spelling : SpellsEntries start.bytes es now.bytes

-- the next fault is then the first
pub entry_fault : (b : List ℕ) (start now : ToRead) (es : List Entry) (r : Refusal) → SpellsCount b start
    → HaveBeenRead start es now
    → first_fault_of (next_checks entry_checks now) ≡ Some r → first_fault_hstore b ≡ Some r
entry_fault b start now es r c h e =
    fault_after_count b start c ∙ entries_pass start.bytes now.bytes es now.left start.left h.spelling h.so_many
    ∙ next_fault now.left now.bytes r e

one_more : (s t u : List ℕ) (es : List Entry) (e : Entry) (rest : List ℕ) → SpellsEntries s es rest → rest ≡ t ++ u
    → SpellsEntry t e → SpellsEntries s (es ++ e ∷ []) u
one_more s t u [] e rest p is h =
    record { front = t; rest = u; is = p ∙ is; spells = h; rest_spells = refl }
one_more s t u (x ∷ xs) e rest p is h = record {
  front = p.front;
  rest = p.rest;
  is = p.is;
  spells = p.spells;
  rest_spells = one_more p.rest t u xs e rest p.rest_spells is h;
}

-- the next entry is one more
pub read_next : (start now next : ToRead) (es : List Entry) (e : Entry) (t : List ℕ) → HaveBeenRead start es now
    → next.left + 1 ≡ now.left → now.bytes ≡ t ++ next.bytes → SpellsEntry t e
    → HaveBeenRead start (es ++ e ∷ []) next
read_next start now next es e t h n is p = record {
  so_many = omega (arith, h.so_many, length-append es (e ∷ []));
  spelling = one_more start.bytes t next.bytes es e now.bytes h.spelling is p;
}

-- to have the same at each key is an equivalence
pub value_equivalence : {A : Type 0} (value_at : A → List ℕ → Option Cell)
    → IsEquivalence (λ m n. (q : List ℕ) → value_at m q ≡ value_at n q)
value_equivalence value_at = record {
  reflexive = λ m q. refl;
  symmetric = λ m n h q. sym (h q);
  transitive = λ k m n h g q. h q ∙ g q;
}
