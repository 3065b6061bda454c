-- Texts in UTF-8: the text types (textsend), and ltree, lquery and ltxtquery (ltree_send and similar), whose cells
-- begin with a version.
use Rattle.std.specs.Prelude.{◌≡◌, ℕ, ◌==◌, ◌||◌, List, [], ◌∷◌, Bool, true, false, Option, Some, IsUtf8, drop}
use Rattle.std.specs.Prelude.{slice_index, if◌then◌else◌, codes, Ok, Err}
use Rattle.std.specs.Cmp.Lexicographic.{pointwise}
use Rattle.std.specs.Str.{is_utf8}
use Rattle.pg_types.specs.declared.types.built_in.BuiltIn.TheVariants.{Varchar, Text, Bpchar, Name, Unknown}
use Rattle.pg_base.specs.Cells.{Cell, versioned_cell}
use Rattle.pg_types.specs.Content.{Content, is_row, name_of}
use Rattle.pg_types.specs.Faults.{Refusal, Outcome, utf8, text_version, transmit}
use Rattle.pg_base.specs.Formats.{first_fault_of, ReadsPlain}
use Rattle.pg_base.specs.Appending.{Wire}

-- the type has this name, whatever its schema and its kind
abbrev pub is_named : List ℕ → Content → Bool
is_named name ty = pointwise ◌==◌ (name_of ty) name

-- the cells of the type begin with a version
abbrev pub has_version : Content → Bool
has_version ty = is_named (codes "ltree") ty || (is_named (codes "lquery") ty || is_named (codes "ltxtquery") ty)

-- texts accept VARCHAR, TEXT, BPCHAR, NAME, UNKNOWN, and every type named citext, ltree, lquery or ltxtquery
abbrev pub accepted_text : Content → Bool
accepted_text ty =
    is_row Varchar ty || (is_row Text ty ||
    (is_row Bpchar ty || (is_row Name ty ||
    (is_row Unknown ty || (is_named (codes "citext") ty || has_version ty)))))

-- the bytes are the cell of this text, which is UTF-8; the first argument gives the bytes of a text
abbrev pub FormText : {A : Type 0} → (A → List ℕ) → Bool → List ℕ → A → Type 0
FormText bytes_of versioned b text = IsUtf8 (bytes_of text) × (b ≡ versioned_cell versioned (bytes_of text))

-- another first byte than the version, or none, is TextVersion; what is not UTF-8 is Utf8
abbrev pub first_fault_text : Bool → List ℕ → Option Refusal
first_fault_text false b = first_fault_of ((is_utf8 b, utf8) ∷ [])
first_fault_text true b = first_fault_of ((slice_index b 0 == 1, text_version) ∷ (is_utf8 (drop 1 b), utf8) ∷ [])

-- what a cell reads as
abbrev pub ReadsText : {A : Type 0} → (A → List ℕ) → Bool → Cell → Outcome A → Type 0
ReadsText bytes_of versioned = ReadsPlain (FormText bytes_of versioned) (first_fault_text versioned)

-- what a text is written as: its cell, or Transmit if it is not UTF-8
abbrev pub wire_text : Bool → List ℕ → Wire
wire_text versioned s = if is_utf8 s then Ok (Some (versioned_cell versioned s)) else Err transmit
