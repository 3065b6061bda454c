-- What is parsed as UUID and as PG_LSN.
use Rattle.std.specs.Prelude.{◌≡◌, ◌≤◌, ◌==◌, ◌&&◌, ℕ, List, Bool, true, Some, length, nat_le}
use Rattle.std.specs.List.{before_first, after_first}
use Rattle.std.specs.Str.Parse.{without_leading_plus}
use Rattle.pg_base.specs.Lsn.{lsn_of, slash}
use Rattle.uuid.specs.Text.{parsed}

-- UUID (uuid_in): the texts of the crate uuid that are no longer than one in five groups and braces, so that none has
-- `urn:uuid:` before it
abbrev pub SaysUuid : List ℕ → List ℕ → Type 0
SaysUuid text v = (parsed text ≡ Some v) × (length text ≤ 38)

-- a half of a log sequence number: at most eight digits, without a sign
abbrev pub is_half : List ℕ → Bool
is_half text = nat_le (length text) 8 && length (without_leading_plus text) == length text

-- PG_LSN (pg_lsn_in): the texts of the Rust crate whose halves have at most eight digits and no sign
abbrev pub SaysLsn : List ℕ → ℕ → Type 0
SaysLsn text v =
    (lsn_of text ≡ Some v)
    × (is_half (before_first (λ c. c == slash) text) ≡ true)
    × (is_half (after_first (λ c. c == slash) text) ≡ true)
