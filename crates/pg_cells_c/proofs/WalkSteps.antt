-- Steps of walks over the elements of a cell.
use Rattle.std.specs.Prelude.{◌≡◌, ℕ, ◌+◌, ◌-◌, ◌<◌, ◌≤◌, List, [], ◌++◌, Bool, true, false, length, take, drop, nat_le}
use Rattle.std.specs.Prelude.{Some, None, refl}
use Rattle.std.specs.Prelude.{Option, IfSome, IsUtf8}
use Rattle.std.specs.Borrow.{Bor}
use Rattle.std.proofs.Common.{arith, ap, sym, subst, ◌∙◌, append_assoc}
use Rattle.std.proofs.Math.Seq.{drop-append_seam, drop-length, take-append_seam}
use Rattle.std.proofs.Math.ListN.{drop_of_length-le}
use Rattle.std.proofs.lemmas.Bool.{leb-true}
use Rattle.std.proofs.lemmas.Bool.Decides.{nat_tests}
use Rattle.std.proofs.lemmas.List.{drop-drop, length-append, length-drop, nil_from_length}
use Rattle.pg_base.proofs.FrameLaws.{bytes-frame}
use Rattle.pg_base.specs.Cells.{Spells, cell_of}
use Rattle.pg_base.specs.Formats.{first_fault_of}
use Rattle.pg_base.specs.Hstore.{SpellsText, value_checks}
use Rattle.pg_types.specs.Faults.{utf8}
use Rattle.pg_base.proofs.CellLaws.{cell_then}
use Rattle.pg_base.proofs.TextLemmas.{text_refused}
use Rattle.pg_cells_c.specs.Walks.{IsElement, IsWithin, SpellsElement, SpellsEntryAt, StartsItem, element_cell}
use Rattle.pg_cells_c.specs.Walks.{element_of}

-- how long what stands before the rest is
before_rest : (b t after : List ℕ) (off : ℕ) → drop off b ≡ t ++ after → length t + length after ≡ length b - off
before_rest b t after off e = sym (length-append t after) ∙ ap length (sym e) ∙ length-drop off b

rest_by : (b t after : List ℕ) (off : ℕ) (within : Bool) → nat_le off (length b) ≡ within → drop off b ≡ t ++ after
    → drop (length b - length after) b ≡ after
rest_by b t after off true h e =
    let le = leb-true off (length b) h in
    let place : length b - length after ≡ off + length t = omega (arith, before_rest b t after off e, le) in
    ap (λ n. drop n b) place ∙ sym (drop-drop (length t) off b) ∙ ap (drop (length t)) e ∙ drop-append_seam t after
rest_by b t after off false h e =
    let past : length b < off = grind (arith, nat_tests) in
    let none : length after ≡ 0 = omega (arith, before_rest b t after off e, past) in
    let all : length b ≤ length b - length after = omega (arith, none) in
    drop_of_length-le b all ∙ sym (nil_from_length after none)

-- the bytes after what was read are those from their place on
pub rest_is : (b t after : List ℕ) (off : ℕ) → drop off b ≡ t ++ after → drop (length b - length after) b ≡ after
rest_is b t after off e = rest_by b t after off (nat_le off (length b)) refl e

-- the bytes of a cell are those that stand before the rest
pub bytes_are : (b t x after : List ℕ) (off : ℕ) → drop off b ≡ t ++ after → Spells t (Some x)
    → take (length x) (drop (length b - length after - length x) b) ≡ x
bytes_are b t x after off e spells =
    let parts = bytes-frame t x spells in
    let head = parts.0 in
    let is : drop off b ≡ head ++ (x ++ after) = e ∙ ap (λ s. s ++ after) parts.1 ∙ append_assoc head x after in
    let place : length b - length after - length x ≡ length b - length (x ++ after) =
    omega (arith, length-append x after) in
    ap (λ n. take (length x) (drop n b)) place ∙ ap (take (length x)) (rest_is b head (x ++ after) off is)
    ∙ take-append_seam x after

-- nor is the rest longer than the cell
pub rest_fits : (b t after : List ℕ) (off : ℕ) → drop off b ≡ t ++ after → length t + length after ≤ length b
rest_fits b t after off e = omega (arith, before_rest b t after off e)

-- nothing is to be read at the end of a cell
pub end_is : (b : List ℕ) → drop (length b) b ≡ []
end_is b = drop-length b

-- what stands right before the rest is no longer than what is before it
pub cell_fits : (b t after : List ℕ) (off : ℕ) (o : Option (Bor (List ℕ))) → drop off b ≡ t ++ after
    → Spells t (cell_of o) → IfSome o (λ x. length x.now ≤ length b - length after)
cell_fits b t after off None e spells = tt
cell_fits b t after off (Some x) e spells =
    let parts = bytes-frame t x.now spells in
    let longer : length t ≡ length parts.0 + length x.now = ap length parts.1 ∙ length-append parts.0 x.now in
    omega (arith, longer, rest_fits b t after off e)

-- an element has the cell that was split off
pub element_cell_is : (b t after : List ℕ) (off : ℕ) (o : Option (Bor (List ℕ))) → drop off b ≡ t ++ after
    → Spells t (cell_of o) → element_cell b (element_of (length b - length after) o) ≡ cell_of o
element_cell_is b t after off None e spells = refl
element_cell_is b t after off (Some x) e spells = ap Some (bytes_are b t x.now after off e spells)

-- and lies within the cell in which it is
pub element_within : (b t after : List ℕ) (off : ℕ) (o : Option (Bor (List ℕ))) → drop off b ≡ t ++ after
    → Spells t (cell_of o) → IsWithin b (element_of (length b - length after) o).bytes
element_within b t after off None e spells = omega arith
element_within b t after off (Some x) e spells =
    let fits = cell_fits b t after off (Some x) e spells in omega (arith, fits)

flag_is : (next : ℕ) (o : Option (Bor (List ℕ))) → (element_of next o).is_null ≤ 1
flag_is next None = omega arith
flag_is next (Some x) = omega arith

-- so it is one of its elements
pub is_element : (b t after : List ℕ) (off : ℕ) (o : Option (Bor (List ℕ))) → drop off b ≡ t ++ after
    → Spells t (cell_of o) → IsElement b (element_of (length b - length after) o)
is_element b t after off o e spells =
    (element_within b t after off o e spells, flag_is (length b - length after) o)

-- what was split off is an element, by its place
pub element_is : (b t after : List ℕ) (off : ℕ) (o : Option (Bor (List ℕ))) → drop off b ≡ t ++ after
    → Spells t (cell_of o)
    → StartsItem (SpellsElement b) b (drop off b) (element_of (length b - length after) o, length b - length after)
element_is b t after off o e spells = (
  t,
  e ∙ ap (λ r. t ++ r) (sym (rest_is b t after off e)),
  (
    subst (Spells t) (sym (element_cell_is b t after off o e spells)) spells,
    is_element b t after off o e spells,
  ),
)

-- a key and a value that were split off are an entry, by their places
pub entry_is : (b t rest u after : List ℕ) (off : ℕ) (key : Bor (List ℕ)) (value : Option (Bor (List ℕ)))
    → drop off b ≡ t ++ rest
    → SpellsText t (Some key.now) → rest ≡ u ++ after → SpellsText u (cell_of value)
    → StartsItem (SpellsEntryAt b) b (drop off b) (
      record {
        key = (element_of (length b - length rest) (Some key)).bytes;
        value = element_of (length b - length after) value;
      },
      length b - length after,
    )
entry_is b t rest u after off key value e key_spells f value_spells =
    let at_rest : drop (length b - length rest) b ≡ u ++ after = rest_is b t rest off e ∙ f in
    let parts : drop off b ≡ (t ++ u) ++ after = e ∙ ap (λ s. t ++ s) f ∙ sym (append_assoc t u after) in
    let key_is = bytes_are b t key.now rest off e key_spells.0 in
    let value_is = element_cell_is b u after (length b - length rest) value at_rest value_spells.0 in (
      t ++ u,
      parts ∙ ap (λ r. (t ++ u) ++ r) (sym (rest_is b (t ++ u) after off parts)),
      (
        record {
          front = t;
          rest = u;
          is = refl;
          spells = subst (λ y. SpellsText t (Some y)) (sym key_is) key_spells;
          rest_spells = subst (SpellsText u) (sym value_is) value_spells;
        },
        element_within b t rest off (Some key) e key_spells.0,
        is_element b u after (length b - length rest) value at_rest value_spells.0,
      ),
    )

-- a cell that is no UTF-8 is refused with Utf8
pub damaged_text : (s t x u : List ℕ) → s ≡ t ++ u → Spells t (Some x) → (IsUtf8 x → ⊥)
    → first_fault_of (value_checks s) ≡ Some utf8
damaged_text s t x u e spells damaged =
    let then = cell_then t u (Some x) spells in
    subst (λ s. first_fault_of (value_checks s) ≡ Some utf8) (sym e)
    (rw (then.has, then.whole, then.bytes) (text_refused x damaged))
