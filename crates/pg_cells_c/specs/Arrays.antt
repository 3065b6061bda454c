-- Headers of arrays.
use Rattle.std.specs.Prelude.{ℕ, List, drop}
use Rattle.std.specs.Int.{w32}
use Rattle.pg_base.specs.Arrays.{SpellsHead}
use Rattle.pg_base.specs.Cells.{IsBeUnsigned}
use Rattle.pg_cells_c.specs.Walks.{to_read}
use Rattle.pg_cells_c.specs.declared.arrays.Array.{Array}

-- b is the header of an array (array_send), which has the OID of its elements' type after its flags, and then the
-- elements, which are to be read
abbrev pub SpellsArray : List ℕ → Array → Type 0
SpellsArray b v = (head : SpellsHead b (to_read b v.walk)) × IsBeUnsigned w32 (drop 4 head.flags_and_oid) v.element_oid
