-- Hstore (hstore_send, hstore_recv): the number of entries, and for each entry its key and its value, which may be
-- NULL.
use Rattle.std.specs.Prelude.{◌≡◌, ℕ, zero, suc, List, [], ◌∷◌, ◌++◌, length, Option, Some, None}
use Rattle.std.specs.Prelude.{option_map, if◌then◌else◌, Result, IsUtf8, String, string_bytes}
use Rattle.std.specs.Borrow.{Bor}
use Rattle.std.specs.Cmp.Lexicographic.{slice_cmp}
use Rattle.std.specs.Global.{Global}
use Rattle.std.specs.HashMap.{HashMap, get_by_text}
use Rattle.std.specs.Ordering.{nat_cmp}
use Rattle.std.specs.declared.cmp.Ordering.{Ordering}
use Rattle.std.specs.declared.cmp.Ordering.TheVariants.{Less, Equal, Greater}
use Rattle.std.specs.Str.{bytes_eq, is_utf8}
use Rattle.pg_types.specs.declared.fault.Fault.{Fault}
use Rattle.pg_base.specs.Appending.{Wire, wire_of}
use Rattle.pg_base.specs.Cells.{Cell, FrontAndRest, cell_of, frame, Spells, concat}
use Rattle.pg_base.specs.Counts.{IsCount, TakesNext, ToRead, after_cell, after_number, bytes_in, count_checks, has_cell}
use Rattle.pg_base.specs.Counts.{has_number, no_trailing, not_negative, number_in, count_or_zero, count_bytes}
use Rattle.pg_types.specs.Faults.{Refusal, Outcome, size, utf8, key_length}
use Rattle.pg_base.specs.Formats.{Checks, first_fault_of, ReadsPlain}
use Rattle.pg_base.specs.Options.{NoneOr}

-- an entry: a key, and its value or NULL
abbrev pub Entry : Type 0
Entry = List ℕ × Cell

-- s spells a text in UTF-8, or NULL
abbrev pub SpellsText : List ℕ → Cell → Type 0
SpellsText s c = Spells s c × NoneOr IsUtf8 c

-- s spells an entry: the frame of its key, and then that of its value
abbrev pub SpellsEntry : List ℕ → Entry → Type 0
SpellsEntry s e = FrontAndRest (λ k. SpellsText k (Some e.0)) (λ v. SpellsText v e.1) s

-- s is spellings of the entries, one after another, and then rest
abbrev pub SpellsEntries : List ℕ → List Entry → List ℕ → Type 0
SpellsEntries s [] rest = s ≡ rest
SpellsEntries s (e ∷ es) rest = FrontAndRest (λ t. SpellsEntry t e) (λ u. SpellsEntries u es rest) s

-- b is the bytes of a count and then what is to be read
abbrev pub SpellsCount : List ℕ → ToRead → Type 0
SpellsCount b r = (h : List ℕ) × (b ≡ h ++ r.bytes) × IsCount h r.left

-- what a later entry gives, or otherwise this one
abbrev pub or_this : List ℕ → Entry → Option Cell → Option Cell
or_this q e None = if bytes_eq e.0 q then Some e.1 else None
or_this q e (Some v) = Some v

-- the value of the last entry with the key, if there is one
abbrev pub last_value : List ℕ → List Entry → Option Cell
last_value q [] = None
last_value q (e ∷ es) = or_this q e (last_value q es)

-- b spells a map: it is a count and that many entries, and the map has exactly their keys, each with the value of its
-- last entry; the first argument gives the value of a map at a key
pub record FormHstore {A : Type 0} (value_of : A → List ℕ → Option Cell) (b : List ℕ) (m : A) : Type 0 where
  -- the entries
  pub entries : List Entry
  -- the bytes after the count
  pub remaining : List ℕ
  -- the count is that of the entries
  pub counts : SpellsCount b (record { left = length entries; bytes = remaining })
  -- the bytes after it spell the entries
  pub spells : SpellsEntries remaining entries []
  -- the map has at each key the value of its last entry
  pub values : (q : List ℕ) → value_of m q ≡ last_value q entries

-- the checks of a key: truncated bytes are Size, a negative length KeyLength, and bytes that are not UTF-8 Utf8
abbrev pub key_checks : List ℕ → Checks
key_checks s =
    (has_number s, size) ∷ (not_negative (number_in s), key_length) ∷ (has_cell s, size) ∷ (is_utf8 (bytes_in s), utf8)
    ∷ []

-- the checks of a value: the same, but a negative length is NULL, which has no bytes
abbrev pub value_checks : List ℕ → Checks
value_checks s = (has_number s, size) ∷ (has_cell s, size) ∷ (is_utf8 (bytes_in s), utf8) ∷ []

-- the checks of an entry: those of its key, and then those of its value
abbrev pub entry_checks : List ℕ → Checks
entry_checks s = key_checks s ++ value_checks (after_cell s)

-- the checks of n entries, one after another, and of the end
abbrev pub entries_checks : ℕ → List ℕ → Checks
entries_checks zero s = no_trailing s ∷ []
entries_checks (suc n) s = entry_checks s ++ entries_checks n (after_cell (after_cell s))

-- the checks of the count come first, and then those of that many entries
abbrev pub first_fault_hstore : List ℕ → Option Refusal
first_fault_hstore b = first_fault_of (count_checks b ++ entries_checks (count_or_zero (number_in b)) (after_number b))

-- an entry of borrowed texts
abbrev pub borrowed_entry : Bor (List ℕ) × Option (Bor (List ℕ)) → Entry
borrowed_entry e = (e.0.now, cell_of e.1)

-- a step of reading: the next entry was taken
abbrev pub TakesEntry : ToRead → Option (Result (Bor (List ℕ) × Option (Bor (List ℕ))) Fault) → ToRead → Type 0
TakesEntry = TakesNext (λ s e. SpellsEntry s (borrowed_entry e)) entry_checks

-- an entry of owned texts
abbrev pub owned_entry : String Global × Option (String Global) → Entry
owned_entry e = (string_bytes e.0, option_map string_bytes e.1)

-- what the map has at a key
abbrev pub value_at : {S : Type 0} → HashMap (String Global) (Option (String Global)) S → List ℕ → Option Cell
value_at m q = option_map (λ v. option_map string_bytes v) (get_by_text m q)

-- two maps have the same value at each key
abbrev pub SameMap : {S : Type 0} → HashMap (String Global) (Option (String Global)) S
    → HashMap (String Global) (Option (String Global)) S → Type 0
SameMap m n = (q : List ℕ) → value_at m q ≡ value_at n q

-- what a cell reads as
abbrev pub ReadsHstore : {S : Type 0} → Cell → Outcome (HashMap (String Global) (Option (String Global)) S) → Type 0
ReadsHstore = ReadsPlain (FormHstore value_at) first_fault_hstore

-- the frames of the entries' keys and values, in order, if each has one
abbrev pub entries_bytes : List Entry → Option (List ℕ)
entries_bytes [] = Some []
entries_bytes (e ∷ es) = concat (concat (frame (Some e.0)) (frame e.1)) (entries_bytes es)

-- the cell of entries: their count, and their frames
abbrev pub hstore_bytes : List Entry → Option (List ℕ)
hstore_bytes es = concat (count_bytes (length es)) (entries_bytes es)

-- e before f, in place of f, or after it
abbrev pub insert_entry_by : Ordering → Entry → Entry → List Entry → List Entry → List Entry
insert_entry_by Less e f fs rest = e ∷ f ∷ fs
insert_entry_by Equal e f fs rest = e ∷ fs
insert_entry_by Greater e f fs rest = f ∷ rest

-- an entry inserted into sorted entries
abbrev pub insert_entry : Entry → List Entry → List Entry
insert_entry e [] = e ∷ []
insert_entry e (f ∷ fs) = insert_entry_by (slice_cmp nat_cmp e.0 f.0) e f fs (insert_entry e fs)

-- the entries in the order of the bytes of their keys; of equal keys, which a map does not have, the first
abbrev pub in_key_order : List Entry → List Entry
in_key_order [] = []
in_key_order (e ∷ es) = insert_entry e (in_key_order es)

-- what entries are written as: their cell, sorted by key
abbrev pub wire_hstore : List Entry → Wire
wire_hstore es = wire_of (hstore_bytes (in_key_order es))
