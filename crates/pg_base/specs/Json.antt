-- JSON documents: JSON (json_send, json_recv), whose cell is the text of the document, and JSONB (jsonb_send,
-- jsonb_recv), whose cell is a version and then the text. What a text means is what serde_json reads, and what is
-- written is its compact text.
use Rattle.std.specs.Prelude.{◌≡◌, ℕ, ◌==◌, List, [], ◌∷◌, length, drop, slice_index, nat_lt, Bool, true, false}
use Rattle.std.specs.Prelude.{not, ◌||◌, if◌then◌else◌, Option, Some, None, is_some, option_map, unwrap_or, IsUtf8}
use Rattle.std.specs.Prelude.{Ok, Err}
use Rattle.std.specs.Str.{is_utf8}
use Rattle.serde_json.specs.Data.{Data}
use Rattle.serde_json.specs.Read.{read}
use Rattle.serde_json.specs.Written.{has_float, compact_text}
use Rattle.pg_types.specs.declared.types.built_in.BuiltIn.TheVariants.{Json, Jsonb}
use Rattle.pg_base.specs.Appending.{Wire}
use Rattle.pg_base.specs.Cells.{Cell, versioned_cell}
use Rattle.pg_types.specs.Content.{Content, is_row}
use Rattle.pg_types.specs.Faults.{Refusal, Outcome, size, json_version, json_text, json_number}
use Rattle.pg_base.specs.Formats.{Checks, first_fault_of, ReadsPlain}

-- documents accept JSON and JSONB
abbrev pub accepted_json : Content → Bool
accepted_json ty = is_row Json ty || is_row Jsonb ty

-- the bytes are the cell of a text, for JSONB after the version, that reads as v, whose numbers are all kept as i64 or
-- u64
pub record FormJson {A : Type 0} (view_of : A → Data) (versioned : Bool) (b : List ℕ) (v : A) : Type 0 where
  -- the text
  pub text : List ℕ
  -- the bytes are its cell
  pub is : b ≡ versioned_cell versioned text
  -- it is UTF-8
  pub utf8 : IsUtf8 text
  -- it reads as v
  pub document : read text ≡ Some (view_of v)
  -- v has no other number
  pub no_float : has_float (view_of v) ≡ false

-- the document that bytes are, if any
abbrev pub document_of : List ℕ → Option Data
document_of text = if is_utf8 text then read text else None

-- the checks of a text: it is a document, and it has no other number
abbrev pub document_checks : List ℕ → Checks
document_checks text =
    (is_some (document_of text), json_text)
    ∷ (not (unwrap_or (option_map has_float (document_of text)) false), json_number) ∷ []

-- a text that is not a document is JsonText, and a document with another number JsonNumber; before that, for JSONB, an
-- empty cell is Size, and another first byte than the version JsonVersion
abbrev pub first_fault_json : Bool → List ℕ → Option Refusal
first_fault_json false b = first_fault_of (document_checks b)
first_fault_json true b = first_fault_of
    ((nat_lt 0 (length b), size) ∷ (slice_index b 0 == 1, json_version) ∷ document_checks (drop 1 b))

-- what a cell reads as
abbrev pub ReadsJson : {A : Type 0} → (A → Data) → Bool → Cell → Outcome A → Type 0
ReadsJson view_of versioned = ReadsPlain (FormJson view_of versioned) (first_fault_json versioned)

-- what a document is written as: the cell of its compact text, or JsonNumber if it has another number
abbrev pub wire_json : Bool → Data → Wire
wire_json versioned d = if has_float d then Err json_number else Ok (Some (versioned_cell versioned (compact_text d)))
