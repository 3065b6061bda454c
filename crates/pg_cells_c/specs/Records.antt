-- Records and rows, whose items are read one after another.
use Rattle.std.specs.Prelude.{◌≡◌, ℕ, pos, List, [], ◌∷◌, ◌++◌, length, nat_le, take}
use Rattle.std.specs.Int.{w16, w32}
use Rattle.pg_base.specs.Cells.{Cell, FrontAndRest, IsBe, IsBeUnsigned, Spells, signed_in}
use Rattle.pg_base.specs.Counts.{ToRead, after_number, cell_checks, has_number, not_negative}
use Rattle.pg_base.specs.Formats.{Checks}
use Rattle.pg_types.specs.Faults.{count, size}
use Rattle.pg_cells_c.specs.Walks.{IsElement, element_cell}
use Rattle.pg_cells_c.specs.declared.records.Field.{Field}

-- s is a field of a record (record_send): the OID of its type in four bytes, and the frame of its cell
abbrev pub SpellsField : List ℕ → ℕ → Cell → Type 0
SpellsField s oid c = FrontAndRest (λ o. IsBeUnsigned w32 o oid) (λ v. Spells v c) s

-- the checks of a field: a truncated OID is refused with Size; then come the checks of its cell
abbrev pub field_checks : List ℕ → Checks
field_checks s = (has_number s, size) ∷ cell_checks (after_number s)

-- s is a field, whose value is an element of the cell
abbrev pub SpellsFieldAt : List ℕ → List ℕ → Field → Type 0
SpellsFieldAt b s f = SpellsField s f.oid (element_cell b f.value) × IsElement b f.value

-- b is the number of columns of a row in two bytes (documentation, "Message Formats", DataRow), and then what is to be
-- read
abbrev pub SpellsRow : List ℕ → ToRead → Type 0
SpellsRow b r = (h : List ℕ) × (b ≡ h ++ r.bytes) × IsBe w16 h (pos r.left)

-- the checks of that number: a truncated one is refused with Size, and a negative one with Count
abbrev pub row_checks : List ℕ → Checks
row_checks b = (nat_le 2 (length b), size) ∷ (not_negative (signed_in w16 (take 2 b)), count) ∷ []
