-- The values of the cells of a column, their texts, and what texts are written as, by the type of the column.
use Rattle.std.specs.Float.{binary32, binary64}
use Rattle.std.specs.Fmt.{signed_decimal}
use Rattle.std.specs.Global.{Global}
use Rattle.std.specs.HashMap.{HashMap}
use Rattle.std.specs.Int.{w8, w16, w32, w64}
use Rattle.std.specs.Prelude.{◌≡◌, ◌≢◌, ◌⊎◌, ◌≤◌, ℕ, pos, Bool, true, false, List, [], Option, Some, None, Ok, Err}
use Rattle.std.specs.Prelude.{String, Vec, codes, decimal, drop, length, map, string_bytes, take}
use Rattle.std.specs.Borrow.{Bor}
use Rattle.std.specs.declared.hash.BuildHasherDefault.{BuildHasherDefault}
use Rattle.std.specs.declared.hash.FoldHasher.{FoldHasher}
use Rattle.pg_copy.specs.declared.types.Base.{Base}
use Rattle.pg_copy.specs.declared.types.Base.TheVariants as base
use Rattle.pg_base.specs.Cells.{be}
use Rattle.pg_more_types.specs.Macaddr8.{SaysMacaddr8}
use Rattle.pg_numbers.specs.NumericCells.{ReadsNumeric, wire_numeric}
use Rattle.pg_numbers.specs.NumericTexts.{numeric_text}
use Rattle.pg_text.specs.Floats.{SaysFloat, ShowsFloat}
use Rattle.pg_text.specs.Lists.{SaysArray, SaysVector, ShowsArray, vector_text}
use Rattle.pg_text.specs.Maps.{ShowsMap}
use Rattle.pg_text.specs.Network.{SaysAddress}
use Rattle.pg_text.specs.Numerics.{SaysNumeric}
use Rattle.pg_text.specs.Small.{SaysLsn, SaysUuid}
use Rattle.pg_text.specs.Spaces.{Plain, Trimmed, trimmed}
use Rattle.pg_text.specs.Specials.{SaysSpecial, ShowsSpecial}
use Rattle.pg_text.specs.Intervals.{SaysInterval}
use Rattle.pg_text.specs.Texts.{AnyText, AnyValue, SaysBool, SaysBytes, SaysChar, Shows}
use Rattle.pg_text.specs.Texts.{bool_text, bytes_text, char_text}
use Rattle.pg_text.specs.Scans.{SaysDate, SaysInstant, SaysTime, SaysTimestamp}
use Rattle.pg_types.specs.declared.types.built_in.BuiltIn.TheVariants.{Jsonb}
use Rattle.postgres_types.specs.Appending.{Wire}
use Rattle.postgres_types.specs.ArrayReading.{ReadsByElement, ReadsList}
use Rattle.postgres_types.specs.ArrayTypes.{element_of}
use Rattle.postgres_types.specs.ArrayWriting.{wire_list}
use Rattle.postgres_types.specs.Bits.{ReadsBits, bits_text, wire_bits}
use Rattle.postgres_types.specs.Bytea.{ReadsBytes, wire_bytes}
use Rattle.postgres_types.specs.Cells.{Cell}
use Rattle.postgres_types.specs.Civil.{ReadsDate, ReadsInstant, ReadsTime, wire_date, wire_instant, wire_time}
use Rattle.postgres_types.specs.Content.{Content, is_row}
use Rattle.postgres_types.specs.DateTexts.{civil_date_text, civil_time_text, instant_text, unix_time_text}
use Rattle.postgres_types.specs.Faults.{Outcome, Refusal, user}
use Rattle.postgres_types.specs.FixedBytes.{ReadsFixedBytes, wire_fixed_bytes}
use Rattle.postgres_types.specs.Hstore.{ReadsHstore, owned_entry, wire_hstore}
use Rattle.postgres_types.specs.Interval.{ReadsInterval, wire_interval}
use Rattle.postgres_types.specs.IntervalTexts.{interval_text}
use Rattle.postgres_types.specs.Network.{ReadsCidr, ReadsInet, wire_cidr, wire_inet}
use Rattle.postgres_types.specs.NetworkTexts.{SaysMacaddr, cidr_text, inet_text, macaddr_text}
use Rattle.postgres_types.specs.NumberTexts.{SaysSigned, SaysUnsigned}
use Rattle.postgres_types.specs.Numbers.{ReadsBool, ReadsSigned, ReadsUnsigned, wire_bool, wire_signed, wire_unsigned}
use Rattle.postgres_types.specs.OptionReading.{ReadsOption}
use Rattle.postgres_types.specs.OptionWriting.{wire_option}
use Rattle.postgres_types.specs.Records.{IsRefused}
use Rattle.postgres_types.specs.Special.{ReadsSpecial, date_view, timestamp_view, wire_special}
use Rattle.postgres_types.specs.Texts.{ReadsText, has_version, wire_text}
use Rattle.postgres_types.specs.Timestamps.{ReadsTimestamp, nanos_of, wire_timestamp}
use Rattle.postgres_types.specs.JsonTexts.{ReadsDocument, wire_document}
use Rattle.postgres_types.specs.Lsn.{lsn_text}
use Rattle.postgres_types.specs.Views.{ReadsThrough}
use Rattle.postgres_types.specs.declared.json_text.JsonText.{JsonText}
use Rattle.uuid.specs.Text.{hyphenated_text, lower}

-- what a cell is read as by its type, and the text of a value
pub data Values : Type 1 where
  values : {A : Type 0} → (Content → Cell → Outcome A → Type 0) → (A → List ℕ → List ℕ → Type 0) → Values

-- the values that texts stand for, and what they are written as
pub data TextValues : Type 1 where
  text_values : {A : Type 0} → (List ℕ → A → Type 0) → (Content → A → Wire) → TextValues

-- what the cell of an array gives: a list of what its elements give by their type
abbrev pub ReadsVec : {A : Type 0} → (Content → Cell → Outcome A → Type 0) → Content → Cell → Outcome (Vec A Global)
    → Type 0
ReadsVec reads ty = ReadsByElement (λ element. ReadsList (λ v. v.items) (reads element)) (element_of ty)

-- what a list is written as
abbrev pub wire_vec : {A : Type 0} → (Content → A → Wire) → Content → Vec A Global → Wire
wire_vec wire ty v = wire_list wire ty v.items

-- the bytes are those of an array of one dimension whose lower bound is not 1
abbrev pub HasOtherBound : List ℕ → Type 0
HasOtherBound bytes =
    (20 ≤ length bytes) × (take 4 bytes ≡ be w32 (pos 1)) × (take 4 (drop 16 bytes) ≢ be w32 (pos 1))

-- the bytes, which give a list, are such an array: it is refused, since a list does not keep the bound
abbrev pub RefusesBound : {A : Type 0} → (Outcome A → Type 0) → List ℕ → Refusal → Type 0
RefusesBound {A} gives bytes refusal =
    (list : A) × gives (Ok list) × HasOtherBound bytes
    × (refusal ≡ user (codes "array with a lower bound other than 1"))

-- what the cell of an array gives, if another lower bound is refused
abbrev pub ReadsShown : {A : Type 0} → (Cell → Outcome A → Type 0) → Cell → Outcome A → Type 0
ReadsShown reads None outcome = reads None outcome
ReadsShown reads (Some bytes) (Ok list) = reads (Some bytes) (Ok list) × (HasOtherBound bytes → ⊥)
ReadsShown reads (Some bytes) (Err refusal) =
    reads (Some bytes) (Err refusal) ⊎ RefusesBound (reads (Some bytes)) bytes refusal

-- arrays of values, whose elements may be NULL
abbrev pub arrays_of : Values → Values
arrays_of (values reads shows) =
    values (λ ty. ReadsShown (ReadsVec (λ element. ReadsOption (reads element)) ty)) (λ v. ShowsArray shows v.items)

abbrev pub text_arrays_of : TextValues → TextValues
text_arrays_of (text_values says wire) = text_values (SaysArray says) (wire_list (λ ty. wire_option (wire ty)))

-- values, and arrays of them
abbrev pub with_arrays : Values → Values × Values
with_arrays own = (own, arrays_of own)

abbrev pub texts_with_arrays : TextValues → TextValues × TextValues
texts_with_arrays own = (own, text_arrays_of own)

-- the values, or the arrays of them
abbrev pub in_form : {A : Type 1} → Bool → A × A → A
in_form false forms = forms.0
in_form true forms = forms.1

-- values of one format, whatever the Postgres type
abbrev pub plain : {A : Type 0} → (Cell → Outcome A → Type 0) → (A → List ℕ → List ℕ → Type 0) → Values × Values
plain reads shows = with_arrays (values (λ _. reads) shows)

-- values of which only the written form is known, with one format
abbrev pub written : {A : Type 0} → (A → Wire) → TextValues × TextValues
written wire = (text_values AnyValue (λ _. wire), text_arrays_of (text_values AnyValue (λ _. wire)))

-- values that a text stands for, with one format
abbrev pub parsed : {A : Type 0} → (List ℕ → A → Type 0) → (A → Wire) → TextValues × TextValues
parsed says wire = (text_values says (λ _. wire), text_arrays_of (text_values says (λ _. wire)))

-- what is read and written as a column of a type
abbrev pub Conversions : Type 1
Conversions = (Values × Values) × (TextValues × TextValues)

-- texts, which stand for themselves
abbrev pub texts : Conversions
texts = (
  with_arrays (values {A = Bor (List ℕ)} (λ ty. ReadsText (λ s. s.now) (has_version ty)) (Shows (λ s. s.now))),
  (
    text_values {A = Bor (List ℕ)} (λ text s. s.now ≡ text) (λ ty s. wire_text (has_version ty) s.now),
    text_arrays_of (text_values {A = String Global} (λ text s. string_bytes s ≡ text)
        (λ ty s. wire_text (has_version ty) (string_bytes s))),
  ),
)

-- JSON documents, which are their texts
abbrev pub documents : Conversions
documents = (
  with_arrays (values {A = JsonText (Bor (List ℕ))} (λ ty. ReadsThrough (λ v. v.0)
      (ReadsDocument (is_row Jsonb ty) (ReadsText (λ s. s.now) false))) (Shows (λ v. v.0.now))),
  (
    text_values {A = JsonText (Bor (List ℕ))} (λ text v. v.0.now ≡ text)
        (λ ty v. wire_document (is_row Jsonb ty) (wire_text false v.0.now)),
    text_arrays_of (text_values {A = JsonText (String Global)} (λ text v. string_bytes v.0 ≡ text)
        (λ ty v. wire_document (is_row Jsonb ty) (wire_text false (string_bytes v.0)))),
  ),
)

-- a map of texts
abbrev pub Map : Type 0
Map = HashMap (String Global) (Option (String Global)) (BuildHasherDefault FoldHasher)

-- a composite type within another, which has no values here: every cell except NULL is refused
abbrev pub nested : Refusal
nested = user (codes "composite type within a composite type")

abbrev pub no_values : Values × Values
no_values = (
  values {A = Bor (List ℕ)} (λ ty cell. IsRefused nested) AnyText,
  values {A = Bor (List ℕ)} (λ ty cell. IsRefused nested) AnyText,
)

-- no text
abbrev pub no_text : TextValues
no_text = text_values {A = ⊥} AnyValue (λ ty v. Ok None)

abbrev pub composites : Conversions
composites = (no_values, (no_text, no_text))

-- the values of a type
abbrev pub values_of : Base → Conversions
values_of base.Bit = (plain (ReadsBits (λ v. v)) (Shows bits_text), parsed (λ text v. text ≡ bits_text v) wire_bits)
values_of base.Bool = (plain ReadsBool (Shows bool_text), parsed (Trimmed SaysBool) wire_bool)
values_of base.Bpchar = texts
values_of base.Bytea = (
  plain {A = Bor (List ℕ)} (ReadsBytes (λ s. s.now)) (Shows (λ s. bytes_text s.now)),
  parsed {A = Vec ℕ Global} (λ text v. SaysBytes text v.items) (λ v. wire_bytes v.items),
)
values_of base.Char = (plain (ReadsSigned w8) (Shows char_text), parsed SaysChar (wire_signed w8))
values_of base.Cidr = (plain ReadsCidr (Shows cidr_text), parsed SaysAddress wire_cidr)
values_of base.Citext = texts
values_of base.Composite = composites
values_of base.Date = (
  plain (ReadsSpecial w32 date_view ReadsDate) (λ v. ShowsSpecial (Shows civil_date_text) (date_view v)),
  parsed (λ text v. SaysSpecial SaysDate (trimmed text) (date_view v)) (λ v. wire_special w32 wire_date (date_view v)),
)
values_of base.Enum = texts
values_of base.Float4 =
    (plain (ReadsUnsigned w32) (ShowsFloat binary32), parsed (SaysFloat binary32) (wire_unsigned w32))
values_of base.Float8 =
    (plain (ReadsUnsigned w64) (ShowsFloat binary64), parsed (SaysFloat binary64) (wire_unsigned w64))
values_of base.Hstore = (
  plain {A = Map} ReadsHstore (λ m. ShowsMap (map owned_entry m.entries)),
  written {A = Map} (λ m. wire_hstore (map owned_entry m.entries)),
)
values_of base.Inet = (plain ReadsInet (Shows inet_text), parsed SaysAddress wire_inet)
values_of base.Int2 = (plain (ReadsSigned w16) (Shows signed_decimal), parsed (Trimmed SaysSigned) (wire_signed w16))
values_of base.Int2Vector = (
  with_arrays (values (ReadsVec (λ _. ReadsSigned w16)) (Shows (λ v. vector_text signed_decimal v.items))),
  texts_with_arrays (text_values (λ text v. SaysVector (Plain (Trimmed SaysSigned)) text v.items) (wire_vec (λ _. wire_signed w16))),
)
values_of base.Int4 = (plain (ReadsSigned w32) (Shows signed_decimal), parsed (Trimmed SaysSigned) (wire_signed w32))
values_of base.Int8 = (plain (ReadsSigned w64) (Shows signed_decimal), parsed (Trimmed SaysSigned) (wire_signed w64))
values_of base.Interval = (plain ReadsInterval (Shows interval_text), parsed SaysInterval wire_interval)
values_of base.Json = documents
values_of base.Jsonb = documents
values_of base.Lquery = texts
values_of base.Ltree = texts
values_of base.Ltxtquery = texts
values_of base.Macaddr = (plain (ReadsFixedBytes 6) (Shows macaddr_text), parsed SaysMacaddr (wire_fixed_bytes 6))
values_of base.Macaddr8 = (
  plain (ReadsFixedBytes 8) (Shows macaddr_text),
  parsed SaysMacaddr8 (wire_fixed_bytes 8),
)
values_of base.Name = texts
values_of base.Numeric = (plain ReadsNumeric (Shows numeric_text), parsed SaysNumeric wire_numeric)
values_of base.Oid = (plain (ReadsUnsigned w32) (Shows decimal), parsed (Trimmed SaysUnsigned) (wire_unsigned w32))
values_of base.OidVector = (
  with_arrays (values (ReadsVec (λ _. ReadsUnsigned w32)) (Shows (λ v. vector_text decimal v.items))),
  texts_with_arrays (text_values (λ text v. SaysVector (Plain (Trimmed SaysUnsigned)) text v.items)
      (wire_vec (λ _. wire_unsigned w32))),
)
values_of base.PgLsn = (plain (ReadsUnsigned w64) (Shows lsn_text), parsed SaysLsn (wire_unsigned w64))
values_of base.Text = texts
values_of base.Time = (plain ReadsTime (Shows civil_time_text), parsed (Trimmed SaysTime) wire_time)
values_of base.Timestamp = (
  plain (ReadsSpecial w64 timestamp_view (ReadsTimestamp nanos_of))
      (λ v. ShowsSpecial (Shows unix_time_text) (timestamp_view v)),
  parsed (λ text v. SaysSpecial SaysTimestamp (trimmed text) (timestamp_view v))
      (λ v. wire_special w64 (λ u. wire_timestamp (nanos_of u)) (timestamp_view v)),
)
values_of base.Timestamptz = (
  plain (ReadsSpecial w64 timestamp_view ReadsInstant) (λ v. ShowsSpecial (Shows instant_text) (timestamp_view v)),
  parsed (λ text v. SaysSpecial SaysInstant (trimmed text) (timestamp_view v))
      (λ v. wire_special w64 wire_instant (timestamp_view v)),
)
values_of base.Unknown = texts
values_of base.Uuid = (
  plain (ReadsFixedBytes 16) (Shows (hyphenated_text lower)),
  parsed SaysUuid (wire_fixed_bytes 16),
)
values_of base.Varbit = (plain (ReadsBits (λ v. v)) (Shows bits_text), parsed (λ text v. text ≡ bits_text v) wire_bits)
values_of base.Varchar = texts

-- the text is that of a value that the bytes of the cell are read as
abbrev pub ShowsCell : Values → Content → List ℕ → List ℕ → Type 0
ShowsCell (values {A} reads shows) ty bytes text =
    (value : A) × reads ty (Some bytes) (Ok value) × shows value [] text

-- the cell is what a value that the text stands for is written as
abbrev pub WritesText : TextValues → Content → List ℕ → Cell → Type 0
WritesText (text_values {A} says wire) ty text cell = (value : A) × says text value × (wire ty value ≡ Ok cell)
