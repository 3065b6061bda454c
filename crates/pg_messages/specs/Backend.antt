-- The messages that a server sends ("Message Formats" in PostgreSQL's documentation): of each kind the fields, as a
-- list of what they are, and what the bytes of a body give of them.
use Rattle.std.specs.Prelude.{◌≡◌, ◌==◌, ℕ, ℤ, pos, negsuc, List, [], ◌∷◌, Option, Some, None, Result, Ok, Err}
use Rattle.std.specs.Prelude.{option_map, MatchOption, if◌then◌else◌}
use Rattle.pg_messages.specs.Reading.{Split, byte_at, count_at, int2_at, int4_at, oid_at, salt_at, string_at}
use Rattle.pg_base.specs.Counts.{number_in}
use Rattle.pg_messages.specs.declared.authentication.Authentication.{Authentication}
use Rattle.pg_messages.specs.declared.authentication.Authentication.TheVariants as auth
use Rattle.pg_messages.specs.declared.backend.MessageFault.{MessageFault}
use Rattle.pg_messages.specs.declared.backend.MessageFault.TheVariants.{Length, Kind, Body}
use Rattle.pg_messages.specs.declared.column.ColumnDescription.{ColumnDescription}
use Rattle.pg_messages.specs.declared.message.CopyFormats.{CopyFormats}
use Rattle.pg_messages.specs.declared.message.Message.{Message}
use Rattle.pg_messages.specs.declared.message.Message.TheVariants as m

-- what a field is: a byte, an unsigned integer in two bytes, an integer in two or four, an OID in four, a text that
-- ends with a zero byte, the four bytes of a salt, all bytes that are left, or all that are left of what is unknown
pub data FieldKind : Type 0 where
  byte_field : FieldKind
  count_field : FieldKind
  int2_field : FieldKind
  int4_field : FieldKind
  oid_field : FieldKind
  string_field : FieldKind
  salt_field : FieldKind
  rest_field : FieldKind
  unknown_field : FieldKind

-- the value of a field
pub data Value : Type 0 where
  integer : ℤ → Value
  content : List ℕ → Value
  unknown : List ℕ → Value

-- a value and the bytes after it
abbrev pub valued : {A : Type 0} → (A → Value) → Split A → Split Value
valued view = option_map (λ p. (view p.0, p.1))

-- the field at the front of bytes
abbrev pub field_at : FieldKind → List ℕ → Split Value
field_at byte_field s = valued (λ n. integer (pos n)) (byte_at s)
field_at count_field s = valued (λ n. integer (pos n)) (count_at s)
field_at int2_field s = valued integer (int2_at s)
field_at int4_field s = valued integer (int4_at s)
field_at oid_field s = valued (λ n. integer (pos n)) (oid_at s)
field_at string_field s = valued content (string_at s)
field_at salt_field s = valued content (salt_at s)
field_at rest_field s = Some (content s, [])
field_at unknown_field s = Some (unknown s, [])

-- a value before others
abbrev pub before : Value → Option (List Value) → Option (List Value)
before v = option_map (λ vs. v ∷ vs)

-- a field and those after it
abbrev pub and_then : Split Value → (List ℕ → Option (List Value)) → Option (List Value)
and_then None others = None
and_then (Some p) others = before p.0 (others p.1)

-- a field at the front and those after it
abbrev pub then_at : Split Value → (List ℕ → Split (List Value)) → Split (List Value)
then_at None others = None
then_at (Some p) others = option_map (λ q. (p.0 ∷ q.0, q.1)) (others p.1)

-- the fields of these kinds, if the bytes are these and no more
abbrev pub fields_of : List FieldKind → List ℕ → Option (List Value)
fields_of [] [] = Some []
fields_of [] (more ∷ s) = None
fields_of (kind ∷ kinds) s = and_then (field_at kind s) (fields_of kinds)

-- the fields of these kinds at the front of bytes, and the bytes after them
abbrev pub fields_at : List FieldKind → List ℕ → Split (List Value)
fields_at [] s = Some ([], s)
fields_at (kind ∷ kinds) s = then_at (field_at kind s) (fields_at kinds)

-- the fields that describe a column: its name, the OID of its table and its number there, the OID of its type, the size
-- and the modifier of the type, and the format of its cells
abbrev pub column_format : List FieldKind
column_format =
    string_field ∷ oid_field ∷ int2_field ∷ oid_field ∷ int2_field ∷ int4_field ∷ int2_field ∷ []

abbrev pub column_values : ColumnDescription → List Value
column_values c =
    content c.name.now ∷ integer (pos c.table) ∷ integer c.number ∷ integer (pos c.ty) ∷ integer c.size
    ∷ integer c.modifier ∷ integer c.format ∷ []

-- the fields after the code of an Authentication message
abbrev pub request_format : ℤ → List FieldKind
request_format (negsuc n) = unknown_field ∷ []
request_format (pos code) =
    if code == 0 then []  -- Ok
    else if code == 2 then []  -- KerberosV5
    else if code == 3 then []  -- CleartextPassword
    else if code == 5 then salt_field ∷ []  -- MD5Password
    else if code == 7 then []  -- GSS
    else if code == 8 then rest_field ∷ []  -- GSSContinue
    else if code == 9 then []  -- SSPI
    else if code == 10 then rest_field ∷ []  -- SASL
    else if code == 11 then rest_field ∷ []  -- SASLContinue
    else if code == 12 then rest_field ∷ []  -- SASLFinal
    else unknown_field ∷ []

-- the code of a request for authentication, and the fields after it
abbrev pub request_values : Authentication → ℤ × List Value
request_values auth.Ok = (pos 0, [])
request_values auth.KerberosV5 = (pos 2, [])
request_values auth.CleartextPassword = (pos 3, [])
request_values (auth.Md5Password salt) = (pos 5, content salt ∷ [])
request_values auth.Gss = (pos 7, [])
request_values (auth.GssContinue part) = (pos 8, content part.now ∷ [])
request_values auth.Sspi = (pos 9, [])
request_values (auth.Sasl mechanisms) = (pos 10, content mechanisms.now ∷ [])
request_values (auth.SaslContinue part) = (pos 11, content part.now ∷ [])
request_values (auth.SaslFinal part) = (pos 12, content part.now ∷ [])
request_values (auth.Other code parameters) = (code, unknown parameters.now ∷ [])

-- the fields of each kind of message, by its tag; those of Authentication by its code too
abbrev pub format : ℕ → List ℕ → Option (List FieldKind)
format tag body =
    if tag == 82 then Some (int4_field ∷ request_format (number_in body))  -- Authentication
    else if tag == 75 then Some (int4_field ∷ rest_field ∷ [])  -- BackendKeyData
    else if tag == 50 then Some []  -- BindComplete
    else if tag == 51 then Some []  -- CloseComplete
    else if tag == 67 then Some (string_field ∷ [])  -- CommandComplete
    else if tag == 87 then Some (byte_field ∷ count_field ∷ rest_field ∷ [])  -- CopyBothResponse
    else if tag == 100 then Some (rest_field ∷ [])  -- CopyData
    else if tag == 99 then Some []  -- CopyDone
    else if tag == 71 then Some (byte_field ∷ count_field ∷ rest_field ∷ [])  -- CopyInResponse
    else if tag == 72 then Some (byte_field ∷ count_field ∷ rest_field ∷ [])  -- CopyOutResponse
    else if tag == 68 then Some (rest_field ∷ [])  -- DataRow
    else if tag == 73 then Some []  -- EmptyQueryResponse
    else if tag == 69 then Some (rest_field ∷ [])  -- ErrorResponse
    else if tag == 86 then Some (rest_field ∷ [])  -- FunctionCallResponse
    else if tag == 118 then Some (int4_field ∷ int4_field ∷ rest_field ∷ [])  -- NegotiateProtocolVersion
    else if tag == 110 then Some []  -- NoData
    else if tag == 78 then Some (rest_field ∷ [])  -- NoticeResponse
    else if tag == 65 then Some (int4_field ∷ string_field ∷ string_field ∷ [])  -- NotificationResponse
    else if tag == 116 then Some (count_field ∷ rest_field ∷ [])  -- ParameterDescription
    else if tag == 83 then Some (string_field ∷ string_field ∷ [])  -- ParameterStatus
    else if tag == 49 then Some []  -- ParseComplete
    else if tag == 115 then Some []  -- PortalSuspended
    else if tag == 90 then Some (byte_field ∷ [])  -- ReadyForQuery
    else if tag == 84 then Some (count_field ∷ rest_field ∷ [])  -- RowDescription
    else None

-- the fields of the formats of a COPY
abbrev pub formats_values : CopyFormats → List Value
formats_values f = integer (pos f.format) ∷ integer (pos f.count) ∷ content f.formats.now ∷ []

-- the tag of a message, and its fields
abbrev pub contents : Message → ℕ × List Value
contents (m.Authentication request) = (82, integer (request_values request).0 ∷ (request_values request).1)
contents (m.BackendKeyData process key) = (75, integer process ∷ content key.now ∷ [])
contents m.BindComplete = (50, [])
contents m.CloseComplete = (51, [])
contents (m.CommandComplete text) = (67, content text.now ∷ [])
contents (m.CopyBothResponse formats) = (87, formats_values formats)
contents (m.CopyData part) = (100, content part.now ∷ [])
contents m.CopyDone = (99, [])
contents (m.CopyInResponse formats) = (71, formats_values formats)
contents (m.CopyOutResponse formats) = (72, formats_values formats)
contents (m.DataRow row) = (68, content row.now ∷ [])
contents m.EmptyQueryResponse = (73, [])
contents (m.ErrorResponse fields) = (69, content fields.now ∷ [])
contents (m.FunctionCallResponse frame) = (86, content frame.now ∷ [])
contents (m.NegotiateProtocolVersion newest count options) =
    (118, integer newest ∷ integer count ∷ content options.now ∷ [])
contents m.NoData = (110, [])
contents (m.NoticeResponse fields) = (78, content fields.now ∷ [])
contents (m.NotificationResponse process channel payload) =
    (65, integer process ∷ content channel.now ∷ content payload.now ∷ [])
contents (m.ParameterDescription count oids) = (116, integer (pos count) ∷ content oids.now ∷ [])
contents (m.ParameterStatus name value) = (83, content name.now ∷ content value.now ∷ [])
contents m.ParseComplete = (49, [])
contents m.PortalSuspended = (115, [])
contents (m.ReadyForQuery status) = (90, integer (pos status) ∷ [])
contents (m.RowDescription count columns) = (84, integer (pos count) ∷ content columns.now ∷ [])

-- the fields of a message, if its body has those of its kind
abbrev pub read_by : Option (List FieldKind) → List ℕ → Option (List Value)
read_by None s = None
read_by (Some kinds) s = fields_of kinds s

-- the message with these contents was read
abbrev pub IsRead : ℕ → List ℕ → Message → Type 0
IsRead tag body message = (tag ≡ (contents message).0) × (read_by (format tag body) body ≡ Some (contents message).1)

-- a request of this code was read; or the bytes after the code do not have its fields
abbrev pub Requests : ℤ → List ℕ → Option Authentication → Type 0
Requests code s result =
    MatchOption result (fields_of (request_format code) s ≡ None)
    (λ request. ((request_values request).0 ≡ code)
    × (fields_of (request_format code) s ≡ Some (request_values request).1))

-- a message of one kind was read; or the body does not have its fields
abbrev pub Says : ℕ → List ℕ → Option Message → Type 0
Says tag body result = MatchOption result (read_by (format tag body) body ≡ None) (IsRead tag body)

-- a message was read; or no kind has the tag; or the body does not have the fields of the kind
abbrev pub Reads : ℕ → List ℕ → Result Message MessageFault → Type 0
Reads tag body (Ok message) = IsRead tag body message
Reads tag body (Err (Kind t)) = (t ≡ tag) × (format tag body ≡ None)
Reads tag body (Err (Body t)) =
    (t ≡ tag) × (kinds : List FieldKind) × (format tag body ≡ Some kinds) × (fields_of kinds body ≡ None)
Reads tag body (Err (Length len)) = ⊥
