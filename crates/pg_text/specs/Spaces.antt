-- White space around texts.
use Rattle.std.specs.Prelude.{◌≡◌, ℕ, ◌-◌, List, drop, length, take}
use Rattle.std.specs.Char.{is_ascii_whitespace}
use Rattle.std.specs.List.{prefix_len, suffix_len}

-- the text without the white space at its start, and without that at its end
abbrev pub trimmed_start : List ℕ → List ℕ
trimmed_start text = drop (prefix_len is_ascii_whitespace text) text

abbrev pub trimmed_end : List ℕ → List ℕ
trimmed_end text = take (length text - suffix_len is_ascii_whitespace text) text

-- the text without the white space around it
abbrev pub trimmed : List ℕ → List ℕ
trimmed text = trimmed_end (trimmed_start text)

-- what a text says that may stand in white space
abbrev pub Trimmed : {A : Type 0} → (List ℕ → A → Type 0) → List ℕ → A → Type 0
Trimmed says text v = says (trimmed text) v

-- what a text says that does not
abbrev pub Plain : {A : Type 0} → (List ℕ → A → Type 0) → List ℕ → A → Type 0
Plain says text v = (trimmed text ≡ text) × says text v

-- a text that is parsed and does not stand in white space
abbrev pub ParsesPlain : (List ℕ → Type 0) → List ℕ → Type 0
ParsesPlain parses text = (trimmed text ≡ text) × parses text
