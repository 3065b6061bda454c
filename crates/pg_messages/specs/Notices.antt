-- The fields of ErrorResponse and NoticeResponse: for each a code, a text and a zero byte, and after the last a zero
-- byte.
use Rattle.std.specs.Prelude.{◌==◌, ℕ, Bool, true, false, List, [], ◌∷◌, Option, None, option_map, if◌then◌else◌}
use Rattle.pg_messages.specs.Reading.{until_zero}

-- the text of the first field with this code; `true` where the text of another is passed over
unfoldable pub field_in : ℕ → Bool → List ℕ → Option (List ℕ)
field_in code passes [] = None
field_in code true (byte ∷ s) = if byte == 0 then field_in code false s else field_in code true s
field_in code false (byte ∷ s) =
    if byte == 0 then None else if byte == code then option_map (λ p. p.0) (until_zero s) else field_in code true s
