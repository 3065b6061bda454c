-- The text of an hstore.
use Rattle.std.specs.Prelude.{◌≡◌, ℕ, ◌==◌, List, [], ◌++◌, Option, Some, None, codes, length, if◌then◌else◌}
use Rattle.std.specs.Cmp.Lexicographic.{slice_cmp}
use Rattle.std.specs.List.{join_by}
use Rattle.std.specs.List.Sorted.{IsPermutation, IsSortedByKey}
use Rattle.std.specs.Ordering.{nat_cmp, ordering_then}
use Rattle.std.specs.declared.cmp.Ordering.{Ordering}
use Rattle.postgres_types.specs.Hstore.{Entry}
use Rattle.pg_text.specs.Quotes.{quoted}
use Rattle.pg_text.specs.declared.quotes.Escape.TheVariants.{Backslash}

-- a value in quotes, and NULL for NULL
abbrev pub value_text : Option (List ℕ) → List ℕ
value_text None = codes "NULL"
value_text (Some v) = quoted Backslash v

-- a key in quotes and its value
abbrev pub entry_text : Entry → List ℕ
entry_text e = quoted Backslash e.0 ++ (codes "=>" ++ value_text e.1)

-- the order of keys: the shorter ones first, and those of one length by their bytes (comparePairs)
abbrev pub key_order : List ℕ → List ℕ → Ordering
key_order a b = ordering_then (nat_cmp (length a) (length b)) (slice_cmp nat_cmp a b)

-- the separator before the entry at an index
abbrev pub comma_at : ℕ → List ℕ
comma_at place = if place == 0 then [] else codes ", "

-- entries with a comma and a space between
abbrev pub entries_text : List Entry → List ℕ
entries_text entries = join_by entry_text (codes ", ") entries

-- HSTORE (hstore_out): the map's entries in the order of their keys
abbrev pub ShowsMap : List Entry → List ℕ → List ℕ → Type 0
ShowsMap entries old new =
    (sorted : List Entry)
    × IsPermutation entries sorted
    × IsSortedByKey (λ e. e.0) key_order sorted
    × (new ≡ old ++ entries_text sorted)
