-- What a cell is rewritten to.
use Rattle.std.specs.Prelude.{◌≡◌, Bool, Ok, Err, ◌⊎◌, string_bytes, String, Vec}
use Rattle.std.specs.Global.{Global}
use Rattle.postgres_types.specs.Cells.{Cell}
use Rattle.postgres_types.specs.Content.{Content}
use Rattle.postgres_types.specs.Faults.{Outcome, Refusal}
use Rattle.postgres_types.specs.ArrayReading.{ReadsList, ReadsByElement}
use Rattle.postgres_types.specs.ArrayWriting.{wire_list}
use Rattle.postgres_types.specs.ArrayTypes.{accepted_list, element_of}
use Rattle.postgres_types.specs.Texts.{ReadsText, has_version, wire_text}
use Rattle.postgres_types.specs.Appending.{Wire}
use Rattle.postgres_types.specs.OptionReading.{ReadsOption}
use Rattle.postgres_types.specs.OptionWriting.{wire_option}
use Rattle.named_types.specs.declared.name.Form.{Form}
use Rattle.named_types.specs.declared.name.Form.TheVariants.{Plain, Optional, Array, OptionalArray}

-- how a cell is rewritten by a name: in its form, and by its Postgres type
abbrev pub Rewriting : Type 1
Rewriting = Form → Content → Cell → Wire → Type 0

-- what a cell is rewritten to: its refusal, or the written form of the value that it reads as
abbrev pub RewrittenTo : {A : Type 0} → (Cell → Outcome A → Type 0) → (A → Wire) → Cell → Wire → Type 0
RewrittenTo {A} reads wire cell w =
    ((refusal : Refusal) × reads cell (Err refusal) × (w ≡ Err refusal))
    ⊎ ((value : A) × reads cell (Ok value) × (w ≡ wire value))

-- what the cell of an array gives: a list of what its elements give by their type
abbrev pub ReadsVec : {A : Type 0} → (Content → Cell → Outcome A → Type 0) → Content → Cell → Outcome (Vec A Global)
    → Type 0
ReadsVec reads ty = ReadsByElement (λ element. ReadsList (λ v. v.items) (reads element)) (element_of ty)

-- what a list is written as
abbrev pub wire_vec : {A : Type 0} → (Content → A → Wire) → Content → Vec A Global → Wire
wire_vec wire ty v = wire_list wire ty v.items

-- what a cell is rewritten to in a form of a Rust type: itself, an option, a list or a list of options
abbrev pub RewrittenAs : {A : Type 0} → (Content → Cell → Outcome A → Type 0) → (Content → A → Wire) → Rewriting
RewrittenAs reads wire Plain ty = RewrittenTo (reads ty) (wire ty)
RewrittenAs reads wire Optional ty = RewrittenTo (ReadsOption (reads ty)) (wire_option (wire ty))
RewrittenAs reads wire Array ty = RewrittenTo (ReadsVec reads ty) (wire_vec wire ty)
RewrittenAs reads wire OptionalArray ty =
    RewrittenTo (ReadsVec (λ element. ReadsOption (reads element)) ty)
    (wire_vec (λ element. wire_option (wire element)) ty)

-- a form accepts a type that its Rust type accepts, or, for a list, an array of such a type
abbrev pub accepted_as : (Content → Bool) → Form → Content → Bool
accepted_as inside Plain = inside
accepted_as inside Optional = inside
accepted_as inside Array = accepted_list inside
accepted_as inside OptionalArray = accepted_list inside

-- the same for a Rust type with one format, whatever the Postgres type
abbrev pub RewrittenPlain : {A : Type 0} → (Cell → Outcome A → Type 0) → (A → Wire) → Rewriting
RewrittenPlain reads wire = RewrittenAs (λ _. reads) (λ _. wire)

-- the same for a text, after a version if the Postgres type has one
abbrev pub RewrittenText : Rewriting
RewrittenText = RewrittenAs {A = String Global} (λ ty. ReadsText string_bytes (has_version ty))
    (λ ty text. wire_text (has_version ty) (string_bytes text))
