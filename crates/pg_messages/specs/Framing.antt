-- A message at the front of bytes: its tag, its length, which counts itself, and its body.
use Rattle.std.specs.Prelude.{◌≡◌, ◌⊎◌, ◌+◌, ◌<◌, ◌≤◌, ◌<ℤ◌, ◌++◌, ℕ, ℤ, pos, List, ◌∷◌, length, Result, Ok, Err}
use Rattle.std.specs.Int.{w32}
use Rattle.pg_base.specs.Cells.{IsBe}
use Rattle.pg_messages.specs.declared.backend.Front.{Front}
use Rattle.pg_messages.specs.declared.backend.Front.TheVariants.{Message, Part}
use Rattle.pg_messages.specs.declared.backend.MessageFault.{MessageFault}
use Rattle.pg_messages.specs.declared.backend.MessageFault.TheVariants.{Length}

-- a tag and a length, and then the rest
abbrev pub BeginsMessage : List ℕ → ℕ → ℤ → List ℕ → Type 0
BeginsMessage s tag len rest = (bytes : List ℕ) × IsBe w32 bytes len × (s ≡ tag ∷ (bytes ++ rest))

-- a message of this tag and body, of at most so many bytes, and then the rest
abbrev pub HasFront : ℕ → List ℕ → ℕ → List ℕ → List ℕ → Type 0
HasFront most s tag body rest = BeginsMessage s tag (pos (4 + length body)) (body ++ rest) × (length body ≤ most)

-- no body of at most so many bytes has this length
abbrev pub IsRefusedLength : ℕ → ℤ → Type 0
IsRefusedLength most len = (len <ℤ pos 4) ⊎ (pos (4 + most) <ℤ len)

-- so many bytes are missing: up to the end of the length, or of the body
abbrev pub Lacks : ℕ → List ℕ → ℕ → Type 0
Lacks most s n =
    (0 < n) × (((length s < 5) × (n + length s ≡ 5))
    ⊎ ((tag len : ℕ) × (rest : List ℕ) × BeginsMessage s tag (pos (4 + len)) rest × (len ≤ most)
    × (n + length rest ≡ len)))

-- the message at the front was taken; or it is truncated or refused, and the bytes are as they were
abbrev pub Takes : ℕ → List ℕ → Result Front MessageFault → List ℕ → Type 0
Takes most old (Ok (Message tag body)) new = HasFront most old tag body.now new
Takes most old (Ok (Part n)) new = (new ≡ old) × Lacks most old n
Takes most old (Err (Length len)) new =
    (new ≡ old) × (tag : ℕ) × (rest : List ℕ) × BeginsMessage old tag len rest × IsRefusedLength most len
Takes most old (Err fault) new = ⊥
