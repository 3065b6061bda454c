-- The fields of messages ("Message Data Types" in PostgreSQL's documentation), messages of a tag, a length and fields,
-- and what a buffer gains by a message.
use Rattle.std.specs.Prelude.{◌≡◌, ◌==◌, ◌+◌, ◌<◌, ◌≤◌, ◌++◌, ℕ, pos, List, [], ◌∷◌, length, map, min, ◌^◌, ◌-◌}
use Rattle.std.specs.Prelude.{Result, Ok, Err, MatchOption, IsSomeAnd, codes, if◌then◌else◌, nat_le, ⊤}
use Rattle.std.specs.Result.{result_ok}
use Rattle.std.specs.List.{list_any}
use Rattle.std.specs.Borrow.{Bor}
use Rattle.std.specs.Int.{to_be_bytes, w16, w32}
use Rattle.bytes.specs.Filled.{Filled}
use Rattle.pg_base.specs.Appending as appending
use Rattle.pg_base.specs.Cells.{be, fits_prefix}
use Rattle.pg_types.specs.Faults.{Refusal, refusal_of, transmit, user}
use Rattle.pg_types.specs.declared.fault.Fault.{Fault}
use Rattle.pg_messages.specs.declared.field.Field.{Field}
use Rattle.pg_messages.specs.declared.field.Field.TheVariants.{Byte, Int4, String, Bytes, Sized, Oids, Pairs}

-- bytes, or why there are none
abbrev pub Form : Type 0
Form = Result (List ℕ) Refusal

-- the bytes before those of a form
abbrev pub after : List ℕ → Form → Form
after a (Ok b) = Ok (a ++ b)
after a (Err r) = Err r

-- the bytes of the first form and then those of the second; or the first refusal
abbrev pub joined : Form → Form → Form
joined (Ok a) f = after a f
joined (Err r) f = Err r

-- the bytes of forms one after another; or the first refusal
abbrev pub sum : List Form → Form
sum [] = Ok []
sum (f ∷ fs) = joined f (sum fs)

-- a text and the zero byte that ends it; a text that has a zero byte is refused
abbrev pub string : List ℕ → Form
string text =
    if list_any (λ byte. byte == 0) text then Err (user (codes "zero byte in a text")) else Ok (text ++ 0 ∷ [])

-- the name of a parameter, which is not empty, since an empty one would end the list
abbrev pub name_form : List ℕ → Form
name_form name = if length name == 0 then Err (user (codes "empty name of a parameter")) else string name

-- the strings of a name and a value
abbrev pub pair_form : Bor (List ℕ) × Bor (List ℕ) → Form
pair_form pair = joined (name_form pair.0.now) (string pair.1.now)

-- an OID in four bytes
abbrev pub oid_form : ℕ → Form
oid_form oid = Ok (to_be_bytes w32 oid)

-- the number of OIDs in two bytes, and the OIDs; more than 65,535 are refused
abbrev pub oids_form : List ℕ → Form
oids_form oids =
    if nat_le (length oids) 65535 then after (to_be_bytes w16 (length oids)) (sum (map oid_form oids)) else Err transmit

-- the number of bytes in four bytes, and the bytes; it is refused if it does not fit
abbrev pub sized : List ℕ → Form
sized b = if fits_prefix (length b) then Ok (be w32 (pos (length b)) ++ b) else Err transmit

abbrev pub field_form : Field → Form
field_form (Byte n) = Ok (n ∷ [])
field_form (Int4 z) = Ok (be w32 z)
field_form (String text) = string text.now
field_form (Bytes b) = Ok b.now
field_form (Sized b) = sized b.now
field_form (Oids oids) = oids_form oids.now
field_form (Pairs pairs) = sum (map pair_form pairs.now)

-- the fields one after another
abbrev pub body : List Field → Form
body fields = sum (map field_form fields)

-- a length, which counts itself, and the bytes; it is refused if it does not fit in four bytes
abbrev pub with_length : List ℕ → Form
with_length b = if fits_prefix (4 + length b) then Ok (be w32 (pos (4 + length b)) ++ b) else Err transmit

abbrev pub framed : Form → Form
framed (Ok b) = with_length b
framed (Err r) = Err r

-- a message: its tag, if it has one, its length, and its fields
abbrev pub message : List ℕ → List Form → Form
message tag fields = after tag (framed (sum fields))

-- the length of a form's bytes, as a number of 8 bytes has it; or the refusal
abbrev pub Measures : Form → Result ℕ Fault → Type 0
Measures form (Ok n) = (b : List ℕ) × (form ≡ Ok b) × (n ≡ min (length b) (2 ^ 64 - 1))
Measures form (Err f) = IsSomeAnd (refusal_of f) (λ r. form ≡ Err r)

-- there are bytes, and room for them
abbrev pub HasRoomFor : Form → ℕ → Type 0
HasRoomFor form = appending.HasRoomFor (result_ok form)

-- the bytes were appended, and took no more room than they have bytes
abbrev pub Extends : Form → Filled → Filled → Type 0
Extends form = appending.Extends (result_ok form)

-- memory runs out only where the bytes have no room
abbrev pub Lacks : Form → ℕ → Type 0
Lacks (Ok b) room = room < length b
Lacks (Err r) room = ⊥

-- a message was appended; or it was refused, or memory ran out, and the bytes are as they were
abbrev pub Sends : Form → Filled → Filled → Result ⊤ Fault → Type 0
Sends form old new (Ok done) = Extends form old new
Sends form old new (Err f) =
    (new.items ≡ old.items) × (old.spare ≤ new.spare)
    × MatchOption (refusal_of f) (Lacks form old.spare) (λ r. form ≡ Err r)
