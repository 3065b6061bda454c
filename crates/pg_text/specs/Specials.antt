-- The texts of dates and timestamps that may be infinite.
use Rattle.std.specs.Prelude.{◌≡◌, ◌⊎◌, List, ◌++◌, codes, ℕ}
use Rattle.postgres_types.specs.Special.{Special, pos_infinity, neg_infinity, value}

-- an infinity is a word (date_out, timestamp_out, timestamptz_out), and a finite value has the text of the value inside
abbrev pub ShowsSpecial : {A : Type 0} → (A → List ℕ → List ℕ → Type 0) → Special A → List ℕ → List ℕ → Type 0
ShowsSpecial shows pos_infinity old new = new ≡ old ++ codes "infinity"
ShowsSpecial shows neg_infinity old new = new ≡ old ++ codes "-infinity"
ShowsSpecial shows (value v) old new = shows v old new

-- what is parsed as a value or an infinity
abbrev pub SaysSpecial : {A : Type 0} → (List ℕ → A → Type 0) → List ℕ → Special A → Type 0
SaysSpecial says text pos_infinity = text ≡ codes "infinity"
SaysSpecial says text neg_infinity = text ≡ codes "-infinity"
SaysSpecial says text (value v) = says text v

-- a word of an infinity, or a text that is parsed as a value
abbrev pub ParsesSpecial : (List ℕ → Type 0) → List ℕ → Type 0
ParsesSpecial parses text = (text ≡ codes "infinity") ⊎ (text ≡ codes "-infinity") ⊎ parses text
