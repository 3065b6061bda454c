-- JSON documents as their texts: a cell of JSON is the text (json_send, json_recv), and one of JSONB the version 1 and
-- then the text (jsonb_send, jsonb_recv).
use Rattle.std.specs.Prelude.{◌≡◌, ◌==◌, ◌&&◌, ℕ, List, [], ◌∷◌, Bool, true, false, if◌then◌else◌, Some, None, Ok, Err}
use Rattle.pg_types.specs.declared.types.built_in.BuiltIn.TheVariants.{Text}
use Rattle.pg_types.specs.Content.{BuiltInType, Content}
use Rattle.pg_types.specs.Faults.{Outcome, json_version, size}
use Rattle.pg_base.specs.Appending.{Wire}
use Rattle.pg_base.specs.Cells.{Cell, versioned_cell}
use Rattle.pg_base.specs.Json.{accepted_json}

-- the type that the text is read and written as
abbrev pub text_type : Content
text_type = BuiltInType Text

-- the type is JSON or JSONB, and a text is accepted
abbrev pub accepts_document : (Content → Bool) → Content → Bool
accepts_document accepted ty = accepted_json ty && accepted text_type

-- the text in the bytes of a cell: for JSONB after the version; no bytes are Size, and another version is JsonVersion
abbrev pub document_text : Bool → List ℕ → Outcome (List ℕ)
document_text false b = Ok b
document_text true [] = Err size
document_text true (version ∷ text) = if version == 1 then Ok text else Err json_version

-- what the text gives, or the fault in its place
abbrev pub OfText : {A : Type 0} → (Cell → Outcome A → Type 0) → Outcome (List ℕ) → Outcome A → Type 0
OfText reads (Ok text) outcome = reads (Some text) outcome
OfText reads (Err r) (Ok v) = ⊥
OfText reads (Err r) (Err s) = s ≡ r

-- what a cell gives: what its text gives, and NULL as it is
abbrev pub ReadsDocument : {A : Type 0} → Bool → (Cell → Outcome A → Type 0) → Cell → Outcome A → Type 0
ReadsDocument versioned reads None outcome = reads None outcome
ReadsDocument versioned reads (Some b) outcome = OfText reads (document_text versioned b) outcome

-- P holds of NULL, or of the text in the cell, with a version or without
abbrev pub OfEither : (Cell → Type 0) → Cell → Type 0
OfEither P None = P None
OfEither P (Some []) = P (Some [])
OfEither P (Some (version ∷ text)) = P (Some (version ∷ text)) × P (Some text)

-- the cell of the text in a cell: for JSONB with the version before it
abbrev pub document_cell : Bool → Cell → Cell
document_cell versioned None = None
document_cell versioned (Some text) = Some (versioned_cell versioned text)

-- what a document is written as, by what its text is written as
abbrev pub wire_document : Bool → Wire → Wire
wire_document versioned (Ok text) = Ok (document_cell versioned text)
wire_document versioned (Err r) = Err r

-- the text is neither NULL nor refused
abbrev pub IsWritten : Wire → Type 0
IsWritten (Ok None) = ⊥
IsWritten (Ok (Some text)) = Unit {0}
IsWritten (Err r) = ⊥
