-- What the functions of a builder do to it and to the caller's buffer.
use Rattle.std.specs.Prelude.{◌≡◌, ◌==◌, ℕ, ◌+◌, ◌≤◌, List, ◌++◌, length, take, drop, nat_le, nat_lt, Bool}
use Rattle.std.specs.Prelude.{false, if◌then◌else◌, Option, Some, None, option_map, pos, ℤ}
use Rattle.std.specs.Int.{w16, w32, to_be_bytes}
use Rattle.std.specs.Str.{is_utf8}
use Rattle.pg_base.specs.Arrays.{head_bytes}
use Rattle.pg_base.specs.Cells.{Cell, concat, frame, max_length}
use Rattle.pg_base.specs.Counts.{count_bytes}
use Rattle.pg_base.specs.Hstore.{Entry}
use Rattle.pg_cells_c.specs.Writings.{no_cell}
use Rattle.pg_cells_c.specs.declared.builders.Builder.{Builder}

-- ---- items

-- whether n bytes from an offset on are within a buffer of that length
abbrev pub has_room : ℕ → ℕ → ℕ → Bool
has_room at n room = nat_le (at + n) room

-- a buffer with bytes from an offset on; if it has no room for them, it is unchanged
abbrev pub with_bytes_at : ℕ → List ℕ → List ℕ → List ℕ
with_bytes_at at b old =
    if has_room at (length b) (length old) then take at old ++ (b ++ drop (at + length b) old) else old

-- the builder after an item of n bytes, which is NULL or not
abbrev pub with_item : ℕ → Bool → Builder → Builder
with_item n null b = record { len = b.len + n; count = b.count + 1; has_null = if null then 1 else b.has_null }

-- the builder counts an item if the buffer has room for it
abbrev pub goes_on : ℕ → Bool → ℕ → Builder → Builder
goes_on n null room b = if has_room b.len n room then with_item n null b else b

-- if the buffer has room for the item, it was written at the builder's end, and the builder counts it; otherwise both
-- are unchanged. The result is the length of the item. An item without bytes is not written
abbrev pub PutsItem : Option (List ℕ) → Bool → Builder → Builder → List ℕ → List ℕ → ℕ → Type 0
PutsItem None null b c old new n = (new ≡ old) × (c ≡ b) × (n ≡ no_cell)
PutsItem (Some s) null b c old new n =
    (new ≡ with_bytes_at b.len s old) × (c ≡ goes_on (length s) null (length old) b) × (n ≡ length s)

-- an item was pushed, unless there are as many as a count can be
unfoldable pub Pushes : Option (List ℕ) → Bool → Builder → Builder → List ℕ → List ℕ → ℕ → Type 0
Pushes item null b c old new n = PutsItem (if nat_lt b.count max_length then item else None) null b c old new n

-- a cell of n bytes; if that many bytes are in the buffer from an offset on, it is those
abbrev pub StandsAt : ℕ → ℕ → List ℕ → List ℕ → Type 0
StandsAt at n buffer cell = (length cell ≡ n) × (at + n ≤ length buffer → cell ≡ take n (drop at buffer))

-- an item was pushed that is a prefix and the cell that was written after the place of the prefix
abbrev pub PushesWritten : (List ℕ → Option (List ℕ)) → ℕ → ℕ → Builder → Builder → List ℕ → List ℕ → ℕ → Type 0
PushesWritten spelled prefix len b c old new n =
    (cell : List ℕ) × StandsAt (b.len + prefix) len old cell × Pushes (spelled cell) false b c old new n

-- a record's field (record_send): the OID of its type in four bytes, and the frame of its cell
abbrev pub field_bytes : ℕ × Cell → Option (List ℕ)
field_bytes f = option_map (λ s. to_be_bytes w32 f.0 ++ s) (frame f.1)

-- the frame of a text, or of NULL; bytes that are not UTF-8 have none
abbrev pub text_frame : Cell → Option (List ℕ)
text_frame None = frame None
text_frame (Some s) = if is_utf8 s then frame (Some s) else None

-- an hstore's entry (hstore_send): the frames of its key and its value
abbrev pub entry_bytes : Entry → Option (List ℕ)
entry_bytes e = concat (text_frame (Some e.0)) (text_frame e.1)

-- ---- heads

-- the cell was closed: if the whole cell is in the buffer, its header was written to the front. The result is the
-- length of the cell. If the header has no bytes, nothing changed
abbrev pub ClosesWith : Option (List ℕ) → Builder → List ℕ → List ℕ → ℕ → Type 0
ClosesWith None b old new n = (new ≡ old) × (n ≡ no_cell)
ClosesWith (Some h) b old new n =
    (new ≡ (if nat_le b.len (length old) then h ++ drop (length h) old else old)) × (n ≡ b.len)

-- the same for a header of width bytes; a builder without room for it closes nothing
unfoldable pub Closes : ℕ → Option (List ℕ) → Builder → List ℕ → List ℕ → ℕ → Type 0
Closes width head b old new n = ClosesWith (if nat_le width b.len then head else None) b old new n

-- a builder without items, after room for a header of width bytes
abbrev pub empty_builder : ℕ → Builder
empty_builder width = record { len = width; count = 0; has_null = 0 }

-- the lengths of the headers
abbrev pub array_width : ℕ
array_width = 20

abbrev pub count_width : ℕ
count_width = 4

abbrev pub params_width : ℕ
params_width = 2

-- the flags of an array: 0 if no element is NULL, and otherwise 1
abbrev pub flags_in : Builder → ℤ
flags_in b = if b.has_null == 0 then pos 0 else pos 1

-- the header of an array with one dimension, whose lower bound is 1
abbrev pub array_head_in : ℕ → Builder → Option (List ℕ)
array_head_in oid b = option_map (head_bytes (flags_in b) (pos 1) oid) (count_bytes b.count)

-- the number of parameters in two bytes (documentation, "Message Formats", Bind): it is at most 65,535
abbrev pub params_head : ℕ → Option (List ℕ)
params_head n = if nat_le n 65535 then Some (to_be_bytes w16 n) else None
