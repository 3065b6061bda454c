-- Rewriting: the value that a cell of a built-in type is read as, and how that value is written.
use Rattle.std.specs.Prelude.{◌≡◌, ◌==◌, ◌++◌, ℕ, zero, suc, ℤ, pos, List, [], ◌∷◌, Option, Some, None, Bool}
use Rattle.std.specs.Prelude.{Result, Ok, Err, true, false, not, if◌then◌else◌, ◌⊎◌}
use Rattle.std.specs.Int.{Width, w8, w16, w32, w64, byte_len}
use Rattle.pg_base.specs.Appending.{Wire}
use Rattle.pg_base.specs.Arrays.{SpellsHead, array_bytes, head_checks}
use Rattle.pg_base.specs.Bits.{FormBits, first_fault_bits, wire_bits}
use Rattle.pg_base.specs.Bytea.{FormBytes, first_fault_bytes, wire_bytes}
use Rattle.pg_base.specs.Cells.{Cell, Spells}
use Rattle.pg_base.specs.Counts.{ToRead, cell_checks, no_trailing}
use Rattle.pg_base.specs.FixedBytes.{FormFixedBytes, wire_fixed_bytes}
use Rattle.pg_base.specs.Formats.{Decodes, first_fault_of}
use Rattle.pg_base.specs.Interval.{FormInterval, interval_width, wire_interval}
use Rattle.pg_base.specs.Network.{FormCidr, FormInet, first_fault_cidr, first_fault_inet, wire_cidr, wire_inet}
use Rattle.pg_base.specs.Numbers.{FormBool, FormSigned, FormUnsigned, first_fault_number, wire_bool, wire_signed}
use Rattle.pg_base.specs.Numbers.{wire_unsigned}
use Rattle.pg_base.specs.Texts.{FormText, first_fault_text, wire_text}
use Rattle.pg_cells_c.specs.Writings.{WritesInto}
use Rattle.pg_types.specs.BuiltInRows.{row_element, row_oid}
use Rattle.pg_types.specs.Faults.{Outcome, Refusal, number_of, was_null}
use Rattle.pg_types.specs.declared.types.built_in.BuiltIn.{BuiltIn as Row}
use Rattle.pg_types.specs.declared.types.built_in.BuiltIn.TheVariants as row

-- c is the cell of a value of the bytes
abbrev pub SpellsCell : {A : Type 0} → (List ℕ → A → Type 0) → (A → Wire) → List ℕ → List ℕ → Type 0
SpellsCell {A} form wire b c = (v : A) × form b v × (wire v ≡ Ok (Some c))

-- what a cell is rewritten to: the cell of its value, or the fault of the first check that it fails
abbrev pub RewrittenTo : {A : Type 0} → (List ℕ → A → Type 0) → (List ℕ → Option Refusal) → (A → Wire) → List ℕ
    → Outcome (List ℕ) → Type 0
RewrittenTo form first_fault wire = Decodes (SpellsCell form wire) first_fault

-- CHAR, INT2, INT4 and INT8, and the days and microseconds of dates and times
abbrev pub RewrittenSigned : Width → List ℕ → Outcome (List ℕ) → Type 0
RewrittenSigned w = RewrittenTo (FormSigned w) (first_fault_number (byte_len w)) (wire_signed w)

-- OID and PG_LSN
abbrev pub RewrittenUnsigned : Width → List ℕ → Outcome (List ℕ) → Type 0
RewrittenUnsigned w = RewrittenTo (FormUnsigned w) (first_fault_number (byte_len w)) (wire_unsigned w)

-- the text types, whose cells have no version
abbrev pub RewrittenText : List ℕ → Outcome (List ℕ) → Type 0
RewrittenText = RewrittenTo (FormText (λ s. s) false) (first_fault_text false) (wire_text false)

-- MACADDR and UUID: a fixed number of bytes
abbrev pub RewrittenBytes : ℕ → List ℕ → Outcome (List ℕ) → Type 0
RewrittenBytes width = RewrittenTo (FormFixedBytes width) (first_fault_number width) (wire_fixed_bytes width)

-- BIT and VARBIT
abbrev pub RewrittenBits : List ℕ → Outcome (List ℕ) → Type 0
RewrittenBits = RewrittenTo (FormBits (λ v. v)) first_fault_bits wire_bits

-- what a cell of a type is rewritten to; the type is not an array. Cells of the types that are not here are not
-- rewritten
abbrev pub RewrittenRow : Row → List ℕ → Outcome (List ℕ) → Type 0
RewrittenRow row.Bool = RewrittenTo FormBool (first_fault_number 1) wire_bool
RewrittenRow row.Bytea = RewrittenTo (FormBytes (λ s. s)) first_fault_bytes wire_bytes
RewrittenRow row.Char = RewrittenSigned w8
RewrittenRow row.Name = RewrittenText
RewrittenRow row.Int8 = RewrittenSigned w64
RewrittenRow row.Int2 = RewrittenSigned w16
RewrittenRow row.Int4 = RewrittenSigned w32
RewrittenRow row.Text = RewrittenText
RewrittenRow row.Oid = RewrittenUnsigned w32
RewrittenRow row.Cidr = RewrittenTo FormCidr first_fault_cidr wire_cidr
RewrittenRow row.Unknown = RewrittenText
RewrittenRow row.Macaddr = RewrittenBytes 6
RewrittenRow row.Inet = RewrittenTo FormInet first_fault_inet wire_inet
RewrittenRow row.Bpchar = RewrittenText
RewrittenRow row.Varchar = RewrittenText
RewrittenRow row.Date = RewrittenSigned w32
RewrittenRow row.Time = RewrittenSigned w64
RewrittenRow row.Timestamp = RewrittenSigned w64
RewrittenRow row.Timestamptz = RewrittenSigned w64
RewrittenRow row.Interval = RewrittenTo FormInterval (first_fault_number interval_width) wire_interval
RewrittenRow row.Bit = RewrittenBits
RewrittenRow row.Varbit = RewrittenBits
RewrittenRow row.Uuid = RewrittenBytes 16
RewrittenRow row.PgLsn = RewrittenUnsigned w64
RewrittenRow _ = λ b o. ⊥

-- the types whose cells are rewritten
abbrev pub rewritten_rows : List Row
rewritten_rows =
    row.Bool ∷ row.Bytea ∷ row.Char ∷ row.Name ∷ row.Int8 ∷ row.Int2 ∷ row.Int4 ∷ row.Text ∷ row.Oid ∷ row.Cidr
    ∷ row.Unknown ∷ row.Macaddr ∷ row.Inet ∷ row.Bpchar ∷ row.Varchar ∷ row.Date ∷ row.Time ∷ row.Timestamp
    ∷ row.Timestamptz ∷ row.Interval ∷ row.Bit ∷ row.Varbit ∷ row.Uuid ∷ row.PgLsn ∷ []

-- what an element is rewritten to, given R for a cell: NULL is NULL, or is refused with WasNull if no element may be
-- NULL
abbrev pub RewrittenElement : (List ℕ → Outcome (List ℕ) → Type 0) → Bool → Cell → Outcome Cell → Type 0
RewrittenElement R nullable None (Ok None) = nullable ≡ true
RewrittenElement R nullable None (Ok (Some c)) = ⊥
RewrittenElement R nullable None (Err r) = (nullable ≡ false) × (r ≡ was_null)
RewrittenElement R nullable (Some b) (Ok None) = ⊥
RewrittenElement R nullable (Some b) (Ok (Some c)) = R b (Ok c)
RewrittenElement R nullable (Some b) (Err r) = R b (Err r)

-- what a number of elements are rewritten to: the checks of an element's frame come first, then those of its cell, and
-- then those of the next element; no bytes follow the last one
abbrev pub RewrittenElements : (Cell → Outcome Cell → Type 0) → ℕ → List ℕ → Outcome (List Cell) → Type 0
RewrittenElements R zero s (Ok []) = s ≡ []
RewrittenElements R zero s (Ok (d ∷ ds)) = ⊥
RewrittenElements R zero s (Err r) = first_fault_of (no_trailing s ∷ []) ≡ Some r
RewrittenElements R (suc n) s (Ok []) = ⊥
RewrittenElements R (suc n) s (Ok (d ∷ ds)) =
    (t : List ℕ) × (u : List ℕ) × (c : Cell) × (s ≡ t ++ u) × Spells t c × R c (Ok d) × RewrittenElements R n u (Ok ds)
RewrittenElements R (suc n) s (Err r) =
    (first_fault_of (cell_checks s) ≡ Some r)
    ⊎ ((t : List ℕ) × (u : List ℕ) × (c : Cell) × (s ≡ t ++ u) × Spells t c
    × (R c (Err r) ⊎ ((d : Cell) × R c (Ok d) × RewrittenElements R n u (Err r))))

-- what an array is rewritten to: one dimension with that lower bound, whose elements are of the type with that OID. The
-- checks of the header come first, and then those of the elements
abbrev pub RewrittenArray : (Cell → Outcome Cell → Type 0) → ℤ → ℕ → List ℕ → Outcome (List ℕ) → Type 0
RewrittenArray R lower_bound oid b (Ok c) =
    (h : ToRead) × (ds : List Cell) × SpellsHead b h × RewrittenElements R h.left h.bytes (Ok ds)
    × (array_bytes lower_bound oid ds ≡ Some c)
RewrittenArray R lower_bound oid b (Err r) =
    (first_fault_of (head_checks b) ≡ Some r)
    ⊎ ((h : ToRead) × SpellsHead b h × RewrittenElements R h.left h.bytes (Err r))

-- the two vectors, whose elements are not NULL (int2vectorrecv, oidvectorrecv)
abbrev pub is_vector : Row → Bool
is_vector row.Int2Vector = true
is_vector row.OidVector = true
is_vector _ = false

-- the lower bound of an array, the index of its first element: 0 in a vector, and otherwise 1
abbrev pub lower_bound_of : Row → ℤ
lower_bound_of r = if is_vector r then pos 0 else pos 1

-- what a cell of a type is rewritten to: an array by the type of its elements, and any other type as a cell of one
-- value
abbrev pub RewrittenBy : Option Row → Row → List ℕ → Outcome (List ℕ) → Type 0
RewrittenBy None r = RewrittenRow r
RewrittenBy (Some e) r =
    RewrittenArray (RewrittenElement (RewrittenRow e) (not (is_vector r))) (lower_bound_of r) (row_oid e)

-- the same, with the type of the elements from the catalog
abbrev pub RewrittenType : Row → List ℕ → Outcome (List ℕ) → Type 0
RewrittenType r = RewrittenBy (row_element r) r

-- the array types of these types
abbrev pub array_rows : List Row
array_rows =
    row.Int2Vector ∷ row.OidVector ∷ row.CidrArray ∷ row.BoolArray ∷ row.ByteaArray ∷ row.CharArray ∷ row.NameArray
    ∷ row.Int2Array ∷ row.Int4Array ∷ row.TextArray ∷ row.BpcharArray ∷ row.VarcharArray ∷ row.Int8Array ∷ row.OidArray
    ∷ row.MacaddrArray ∷ row.InetArray ∷ row.TimestampArray ∷ row.DateArray ∷ row.TimeArray ∷ row.TimestamptzArray
    ∷ row.IntervalArray ∷ row.BitArray ∷ row.VarbitArray ∷ row.UuidArray ∷ row.PgLsnArray ∷ []

-- the type with that OID, among some types
abbrev pub row_among : List Row → ℕ → Option Row
row_among [] oid = None
row_among (r ∷ rs) oid = if oid == row_oid r then Some r else row_among rs oid

-- the number of WrongType, the fault of an OID that no such type has
abbrev pub no_type : ℕ
no_type = 3

-- the new cell was written to the front of the buffer if there was room for it, and the result is its length; or the
-- result is the number of the fault, and the buffer is unchanged
abbrev pub WritesRewritten : (Outcome (List ℕ) → Type 0) → List ℕ → List ℕ → Result ℕ ℕ → Type 0
WritesRewritten R old new (Ok n) = (c : List ℕ) × R (Ok c) × WritesInto c old new n
WritesRewritten R old new (Err n) = (r : Refusal) × R (Err r) × (n ≡ number_of r) × (new ≡ old)

-- the same for a type; or WrongType if there is none
unfoldable pub WritesByRow : Option Row → List ℕ → List ℕ → List ℕ → Result ℕ ℕ → Type 0
WritesByRow None b old new (Ok n) = ⊥
WritesByRow None b old new (Err n) = (n ≡ no_type) × (new ≡ old)
WritesByRow (Some r) b old new result = WritesRewritten (RewrittenType r b) old new result

-- a cell was rewritten: the length of the new cell is stored, and it was written to the front of the buffer if there
-- was room for it; or the result is the number of the fault, and the buffer and the variable are unchanged
abbrev pub StoresRewritten : (Outcome (List ℕ) → Type 0) → List ℕ → List ℕ → ℕ → ℕ → ℕ → Type 0
StoresRewritten R old new before written code =
    ((c : List ℕ) × R (Ok c) × (code ≡ 0) × WritesInto c old new written)
    ⊎ ((r : Refusal) × R (Err r) × (code ≡ number_of r) × (new ≡ old) × (written ≡ before))

-- the same for a type; or WrongType if there is none
unfoldable pub StoresByRow : Option Row → List ℕ → List ℕ → List ℕ → ℕ → ℕ → ℕ → Type 0
StoresByRow None b old new before written code = (code ≡ no_type) × (new ≡ old) × (written ≡ before)
StoresByRow (Some r) b old new before written code = StoresRewritten (RewrittenType r b) old new before written code
