-- What builders make: the cell of the items that were pushed.
use Rattle.std.specs.Prelude.{◌≡◌, ◌==◌, ◌&&◌, ℕ, ◌+◌, ◌<◌, ◌≤◌, List, [], ◌∷◌, ◌++◌, length, take, Bool, not}
use Rattle.std.specs.Prelude.{if◌then◌else◌, Option}
use Rattle.std.specs.Prelude.{Some, None, Ok, Err, pos}
use Rattle.std.specs.List.{list_any}
use Rattle.pg_base.specs.Appending.{Wire, wire_of}
use Rattle.pg_base.specs.Arrays.{array_bytes}
use Rattle.pg_base.specs.Cells.{Cell, concat, frames}
use Rattle.pg_base.specs.Counts.{count_bytes}
use Rattle.pg_base.specs.Hstore.{Entry, hstore_bytes}
use Rattle.pg_cells_c.specs.Builders.{Closes, Pushes, PushesWritten, StandsAt, field_bytes, has_room, empty_builder}
use Rattle.pg_cells_c.specs.Builders.{params_head}
use Rattle.pg_cells_c.specs.Writings.{no_cell}
use Rattle.pg_cells_c.specs.declared.builders.Builder.{Builder}

-- the bytes of items, one after another, if each has some
abbrev pub items_bytes : {A : Type 0} → (A → Option (List ℕ)) → List A → Option (List ℕ)
items_bytes spell [] = Some []
items_bytes spell (x ∷ xs) = concat (spell x) (items_bytes spell xs)

-- the builder has these items, whose bytes are in the buffer after room for a header of width bytes
pub record Builds {A : Type 0} (spell : A → Option (List ℕ)) (is_null : A → Bool) (width : ℕ) (b : Builder)
    (buffer : List ℕ) (items : List A) : Type 0 where
  -- the bytes where the header is to be
  pub room : List ℕ
  -- the items' bytes
  pub bytes : List ℕ
  -- the rest of the buffer
  pub rest : List ℕ
  -- the buffer is these three
  pub is : buffer ≡ room ++ (bytes ++ rest)
  -- the room is that of the header
  pub wide : length room ≡ width
  -- the bytes are those of the items
  pub spelled : items_bytes spell items ≡ Some bytes
  -- the builder ends where they do
  pub ends : b.len ≡ width + length bytes
  -- it counts the items
  pub counts : b.count ≡ length items
  -- and has a flag for NULL among them
  pub null : b.has_null ≡ (if list_any is_null items then 1 else 0)

-- whether an item was written to the buffer, given the result of its push
abbrev pub was_pushed : ℕ → Builder → List ℕ → Bool
was_pushed n b buffer = not (n == no_cell) && has_room b.len n (length buffer)

-- the items, with one more at their end if it was pushed
abbrev pub and_item : {A : Type 0} → Bool → List A → A → List A
and_item pushed items x = if pushed then items ++ x ∷ [] else items

-- the buffer begins with the cell, and the result is its length; or there is none, and the result states that
abbrev pub BeginsWithCell : Wire → List ℕ → ℕ → Type 0
BeginsWithCell (Ok None) buffer n = ⊥
BeginsWithCell (Ok (Some s)) buffer n = (take n buffer ≡ s) × (n ≡ length s)
BeginsWithCell (Err r) buffer n = n ≡ no_cell

-- the cell of an array with one dimension, whose lower bound is 1 (array_send)
abbrev pub wire_array : ℕ → List Cell → Wire
wire_array oid cells = wire_of (array_bytes (pos 1) oid cells)

-- the cell of a record (record_send): the number of its fields, and the fields
abbrev pub wire_record : List (ℕ × Cell) → Wire
wire_record fields = wire_of (concat (count_bytes (length fields)) (items_bytes field_bytes fields))

-- the cell of an hstore (hstore_send), with its entries in their order
abbrev pub wire_entries : List Entry → Wire
wire_entries entries = wire_of (hstore_bytes entries)

-- the parameters of a Bind message: their number, and their frames
abbrev pub wire_params : List Cell → Wire
wire_params cells = wire_of (concat (params_head (length cells)) (frames cells))

-- ---- what the calls do for the list

-- a builder that was opened has no items, if the buffer has room for the header
abbrev pub OpensEmpty : {A : Type 0} → (A → Option (List ℕ)) → (A → Bool) → ℕ → Type 0
OpensEmpty spell null width =
    (buffer : List ℕ) → width ≤ length buffer → Builds spell null width (empty_builder width) buffer []

-- an item that is pushed is appended to the list; one that has no cell, or does not fit, leaves the list unchanged
abbrev pub PushesLast : {A : Type 0} → (A → Option (List ℕ)) → (A → Bool) → ℕ → Type 0
PushesLast {A} spell null width =
    (b c : Builder) (old new : List ℕ) (items : List A) (x : A) (n : ℕ) → length old < no_cell
    → Builds spell null width b old items → Pushes (spell x) (null x) b c old new n
    → Builds spell null width c new (and_item (was_pushed n b old) items x)

-- so is an item whose cell the caller already wrote to its place
abbrev pub PushesWrittenLast : {A : Type 0} → (A → Option (List ℕ)) → (A → Bool) → ℕ → (List ℕ → A) → ℕ → Type 0
PushesWrittenLast {A} spell null width item prefix =
    (b c : Builder) (old new : List ℕ) (items : List A) (len n : ℕ) → length old < no_cell
    → Builds spell null width b old items → PushesWritten (λ cell. spell (item cell)) prefix len b c old new n
    → (cell : List ℕ) × StandsAt (b.len + prefix) len old cell
    × Builds spell null width c new (and_item (was_pushed n b old) items (item cell))

-- a close makes the first bytes of the buffer the cell of the list
abbrev pub ClosesList : {A : Type 0} → (A → Option (List ℕ)) → (A → Bool) → ℕ → (Builder → Option (List ℕ))
    → (List A → Wire) → Type 0
ClosesList {A} spell null width head wire =
    (b : Builder) (old new : List ℕ) (items : List A) (n : ℕ) → Builds spell null width b old items
    → Closes width (head b) b old new n → BeginsWithCell (wire items) new n
