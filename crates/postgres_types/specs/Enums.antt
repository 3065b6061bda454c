-- Enumerated types, whose cells are labels (enum_send, enum_recv).
use Rattle.std.specs.Prelude.{◌≡◌, ℕ, ◌==◌, ◌&&◌, ◌||◌, List, [], ◌∷◌, length, Bool, true, false, not, nat_le}
use Rattle.std.specs.Prelude.{Option, Some, None, Ok, Err, codes, if◌then◌else◌, slice_get}
use Rattle.std.specs.Cmp.Lexicographic.{pointwise}
use Rattle.std.specs.List.{list_all, list_any}
use Rattle.std.specs.Str.{is_utf8}
use Rattle.pg_types.specs.Content.{Content, KindContent, EnumKind, kind_of}
use Rattle.pg_types.specs.Faults.{Outcome, Refusal, user, utf8}
use Rattle.pg_base.specs.Appending.{Wire}
use Rattle.pg_base.specs.Cells.{Cell}
use Rattle.pg_base.specs.Formats.{ReadsPlain}
use Rattle.pg_base.specs.Texts.{is_named}

-- the label is among the labels
abbrev pub has_label : List (List ℕ) → List ℕ → Bool
has_label labels searched = list_any (λ label. pointwise ◌==◌ label searched) labels

-- all of the others are among the labels
abbrev pub has_labels : List (List ℕ) → List (List ℕ) → Bool
has_labels labels others = list_all (has_label labels) others

-- these can be the labels of an enumerated type: each has at most 63 bytes, and none occurs twice
abbrev pub are_labels : List (List ℕ) → Bool
are_labels [] = true
are_labels (label ∷ others) = nat_le (length label) 63 && (not (has_label others label) && are_labels others)

-- the kind is that of an enumerated type with these labels, in any order
abbrev pub is_enum_kind : List (List ℕ) → KindContent → Bool
is_enum_kind labels (EnumKind others) = (length others == length labels) && has_labels others labels
is_enum_kind labels _ = false

-- the type has that name, whatever its schema, and is an enumerated type with these labels
abbrev pub is_enum : List ℕ → List (List ℕ) → Content → Bool
is_enum name labels ty = is_named name ty && is_enum_kind labels (kind_of ty)

-- the bytes are the label at that index
abbrev pub FormLabel : List (List ℕ) → List ℕ → ℕ → Type 0
FormLabel labels b place = slice_get labels place ≡ Some b

-- the fault of a text that is not a label
abbrev pub no_label : Refusal
no_label = user (codes "invalid variant")

-- the fault of bytes that are not a label: Utf8 if they are not UTF-8
abbrev pub first_fault_label : List (List ℕ) → List ℕ → Option Refusal
first_fault_label labels b = if has_label labels b then None else Some (if is_utf8 b then no_label else utf8)

-- what a cell reads as: the index of its label
abbrev pub ReadsLabel : List (List ℕ) → Cell → Outcome ℕ → Type 0
ReadsLabel labels = ReadsPlain (FormLabel labels) (first_fault_label labels)

-- an index without a label is refused
abbrev pub wire_at : Option (List ℕ) → Wire
wire_at None = Err no_label
wire_at (Some label) = Ok (Some label)

-- what the value at an index is written as: its label
abbrev pub wire_label : List (List ℕ) → ℕ → Wire
wire_label labels place = wire_at (slice_get labels place)
