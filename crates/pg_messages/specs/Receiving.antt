-- A message at the front of bytes, and what its body says.
use Rattle.std.specs.Prelude.{◌≡◌, ℕ, List, Result, Ok, Err}
use Rattle.pg_messages.specs.Backend.{IsRead, Reads}
use Rattle.pg_messages.specs.Framing.{BeginsMessage, HasFront, IsRefusedLength, Lacks}
use Rattle.pg_messages.specs.declared.backend.MessageFault.{MessageFault}
use Rattle.pg_messages.specs.declared.backend.MessageFault.TheVariants.{Length}
use Rattle.pg_messages.specs.declared.backend.Received.{Received}
use Rattle.pg_messages.specs.declared.backend.Received.TheVariants.{Message, Part}

-- why the message at the front is refused: its length is, or its body does not have the fields of its kind
abbrev pub IsWhyRefused : ℕ → List ℕ → MessageFault → Type 0
IsWhyRefused most s (Length len) =
    (tag : ℕ) × (rest : List ℕ) × BeginsMessage s tag len rest × IsRefusedLength most len
IsWhyRefused most s fault =
    (tag : ℕ) × (body rest : List ℕ) × HasFront most s tag body rest × Reads tag body (Err fault)

-- the message at the front was taken and read; or it is truncated or refused, and the bytes are as they were
abbrev pub Receives : ℕ → List ℕ → Result Received MessageFault → List ℕ → Type 0
Receives most old (Ok (Message message)) new =
    (tag : ℕ) × (body : List ℕ) × HasFront most old tag body new × IsRead tag body message
Receives most old (Ok (Part n)) new = (new ≡ old) × Lacks most old n
Receives most old (Err fault) new = (new ≡ old) × IsWhyRefused most old fault
