-- Reading the items of a cell one after another.
use Rattle.std.specs.Prelude.{◌≡◌, ℕ, ◌+◌, ◌-◌, ◌^◌, ◌≤◌, ◌==◌, List, ◌++◌, length, drop, if◌then◌else◌, Option, Some}
use Rattle.std.specs.Prelude.{None}
use Rattle.std.specs.Prelude.{Result, Ok, Err}
use Rattle.std.specs.Borrow.{Bor}
use Rattle.pg_base.specs.Cells.{Cell, Spells}
use Rattle.pg_base.specs.Counts.{ToRead}
use Rattle.pg_base.specs.Hstore.{SpellsEntry}
use Rattle.pg_types.specs.Faults.{code_of}
use Rattle.pg_types.specs.declared.fault.Fault.{Fault}
use Rattle.pg_cells_c.specs.Spans.{bytes_at}
use Rattle.pg_cells_c.specs.declared.hstore.Entry.{Entry}
use Rattle.pg_cells_c.specs.declared.spans.Span.{Span}
use Rattle.pg_cells_c.specs.declared.items.Element.{Element}
use Rattle.pg_cells_c.specs.declared.items.Walk.{Walk}

-- what is left to read of a cell at a position
abbrev pub to_read : List ℕ → Walk → ToRead
to_read b walk = record { left = walk.left; bytes = drop walk.offset b }

-- the cell of an element
abbrev pub element_cell : List ℕ → Element → Cell
element_cell b e = if e.is_null == 0 then Some (bytes_at b e.bytes) else None

-- a span is within the cell
abbrev pub IsWithin : List ℕ → Span → Type 0
IsWithin b span = span.offset + span.len ≤ length b

-- the element is within the cell, and 1 or 0 says whether it is NULL
abbrev pub IsElement : List ℕ → Element → Type 0
IsElement b e = IsWithin b e.bytes × (e.is_null ≤ 1)

-- s is an element of the cell
abbrev pub SpellsElement : List ℕ → List ℕ → Element → Type 0
SpellsElement b s e = Spells s (element_cell b e) × IsElement b e

-- the element whose bytes end right before an offset, or NULL
abbrev pub element_of : ℕ → Option (Bor (List ℕ)) → Element
element_of next None = record { is_null = 1; bytes = record { offset = next; len = 0 } }
element_of next (Some x) =
    record { is_null = 0; bytes = record { offset = next - length x.now; len = length x.now } }

-- s begins with an item, and the bytes of the cell b from an offset on follow it
abbrev pub StartsItem : {A : Type 0} → (List ℕ → A → Type 0) → List ℕ → List ℕ → A × ℕ → Type 0
StartsItem spells b s p = (t : List ℕ) × (s ≡ t ++ drop p.1 b) × spells t p.0

-- s is an entry, whose key is within the cell, and whose value is an element of it
abbrev pub SpellsEntryAt : List ℕ → List ℕ → Entry → Type 0
SpellsEntryAt b s e =
    SpellsEntry s (bytes_at b e.key, element_cell b e.value) × IsWithin b e.key × IsElement b e.value

-- the result if there are no more items
abbrev pub no_item : ℕ
no_item = 2 ^ 32 - 1

-- the result of a step: the item is stored, and the result is 0; or the result is the number of the fault, or that
-- there are no more items, and the variable is unchanged
abbrev pub Tells : {A : Type 0} → Option (Result A Fault) → A → A → ℕ → Type 0
Tells None old new code = (code ≡ no_item) × (new ≡ old)
Tells (Some (Ok v)) old new code = (code ≡ 0) × (new ≡ v)
Tells (Some (Err f)) old new code = (code ≡ code_of f) × (new ≡ old)

-- a step that R allows was taken, with its result
unfoldable pub StepsInto : {A : Type 0} → (Option (Result A Fault) → Type 0) → A → A → ℕ → Type 0
StepsInto {A} R old new code = (answer : Option (Result A Fault)) × R answer × Tells answer old new code
