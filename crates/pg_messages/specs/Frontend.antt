-- The messages that a client sends ("Message Formats" in PostgreSQL's documentation).
use Rattle.std.specs.Prelude.{ℕ, ℤ, pos, List, [], ◌∷◌, Ok, map}
use Rattle.std.specs.Borrow.{Bor}
use Rattle.pg_base.specs.Cells.{be}
use Rattle.std.specs.Int.{w32}
use Rattle.pg_messages.specs.Fields.{Form, message, oids_form, pair_form, sized, string, sum}

-- a message of this tag
abbrev pub tagged : ℕ → List Form → Form
tagged tag = message (tag ∷ [])

-- a message without a tag, as the first of a connection is
abbrev pub untagged : List Form → Form
untagged = message []

-- an integer in four bytes
abbrev pub int4 : ℤ → Form
int4 z = Ok (be w32 z)

-- a byte, which says what a name is of: 83 of a statement, and 80 of a portal
abbrev pub byte : ℕ → Form
byte n = Ok (n ∷ [])

-- StartupMessage: version 3.0, the names and values of parameters, and a zero byte
abbrev pub startup : List (Bor (List ℕ) × Bor (List ℕ)) → Form
startup pairs = untagged (int4 (pos 196608) ∷ sum (map pair_form pairs) ∷ byte 0 ∷ [])

-- SSLRequest and GSSENCRequest
abbrev pub ssl_request : Form
ssl_request = untagged (int4 (pos 80877103) ∷ [])

abbrev pub gssenc_request : Form
gssenc_request = untagged (int4 (pos 80877104) ∷ [])

-- CancelRequest: the process and the key that BackendKeyData gave
abbrev pub cancel_request : ℤ → List ℕ → Form
cancel_request process key = untagged (int4 (pos 80877102) ∷ int4 process ∷ Ok key ∷ [])

-- PasswordMessage
abbrev pub password_message : List ℕ → Form
password_message text = tagged 112 (string text ∷ [])

-- SASLInitialResponse: the mechanism, and the size and the bytes of its response
abbrev pub sasl_initial_response : List ℕ → List ℕ → Form
sasl_initial_response mechanism response = tagged 112 (string mechanism ∷ sized response ∷ [])

-- SASLResponse
abbrev pub sasl_response : List ℕ → Form
sasl_response response = tagged 112 (Ok response ∷ [])

-- Query
abbrev pub query : List ℕ → Form
query text = tagged 81 (string text ∷ [])

-- Parse: the name of the statement, its text, and the types of its first parameters
abbrev pub parse : List ℕ → List ℕ → List ℕ → Form
parse name text types = tagged 80 (string name ∷ string text ∷ oids_form types ∷ [])

-- Describe and Close
abbrev pub describe : ℕ → List ℕ → Form
describe kind name = tagged 68 (byte kind ∷ string name ∷ [])

abbrev pub close : ℕ → List ℕ → Form
close kind name = tagged 67 (byte kind ∷ string name ∷ [])

-- Execute: the name of the portal, and the greatest number of rows; 0 is no limit
abbrev pub execute : List ℕ → ℤ → Form
execute portal most = tagged 69 (string portal ∷ int4 most ∷ [])

-- CopyData and CopyFail
abbrev pub copy_data : List ℕ → Form
copy_data bytes = tagged 100 (Ok bytes ∷ [])

abbrev pub copy_fail : List ℕ → Form
copy_fail reason = tagged 102 (string reason ∷ [])

-- Sync, Flush, CopyDone and Terminate
abbrev pub empty : ℕ → Form
empty tag = tagged tag []
