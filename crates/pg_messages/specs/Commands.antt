-- The tag of a command that ended (CommandComplete, in "Message Formats" of PostgreSQL's documentation).
use Rattle.std.specs.Prelude.{◌≡◌, ◌<◌, ◌^◌, ◌++◌, ◌∷◌, ℕ, List}
use Rattle.std.specs.Str.Parse.{IsNumeral, digits_value}

-- the word is this number in decimal digits, which fits in 64 bits
abbrev pub IsNumber : List ℕ → ℕ → Type 0
IsNumber word n = IsNumeral 10 word × (n ≡ digits_value 10 word) × (n < 2 ^ 64)

-- the tag ends with a space and this number of rows
abbrev pub IsRowCount : List ℕ → ℕ → Type 0
IsRowCount tag n = (front word : List ℕ) × (tag ≡ front ++ 32 ∷ word) × IsNumber word n
