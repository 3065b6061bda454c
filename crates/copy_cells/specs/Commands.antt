-- What the words of a command line ask for.
use Rattle.std.specs.Global.{Global}
use Rattle.std.specs.Prelude.{◌≡◌, ◌⊎◌, ℕ, List, String, codes, drop}
use Rattle.pg_copy.specs.Arguments.{IsRefused, IsRequest, first_word}
use Rattle.pg_copy.specs.declared.arguments.Request.{Request}
use Rattle.pg_copy.specs.declared.arguments.Request.TheVariants as request
use Rattle.copy_cells.specs.declared.Asked.{Asked}
use Rattle.copy_cells.specs.declared.Asked.TheVariants as asked
use Rattle.copy_cells.specs.declared.Direction.{Direction}
use Rattle.copy_cells.specs.declared.Direction.TheVariants.{Read, Write}

-- the word that asks for a direction
abbrev pub word_of : Direction → List ℕ
word_of Read = codes "read"
word_of Write = codes "write"

-- of the words after a direction those are types that come after "--", or all
abbrev pub AreTypes : List (String Global) → List (String Global) → Type 0
AreTypes words types = (types ≡ words) ⊎ ((first_word words ≡ codes "--") × (types ≡ drop 1 words))

-- the words are a direction, and of the types after it this holds
abbrev pub AsksBy : List (String Global) → Direction → (List (String Global) → Type 0) → Type 0
AsksBy words direction Holds =
    (first_word words ≡ word_of direction)
    × ((types : List (String Global)) × AreTypes (drop 1 words) types × Holds types)

-- the words are a direction, and those after it ask for this
abbrev pub Asks : List (String Global) → Direction → Request → Type 0
Asks words direction wanted = AsksBy words direction (λ types. IsRequest types wanted)

-- what words ask for: help or the version, by a word that comes first or after a direction, or a COPY, whose types may
-- be refused
abbrev pub IsAsked : List (String Global) → Asked → Type 0
IsAsked words asked.Help =
    (first_word words ≡ codes "--help") ⊎ ((direction : Direction) × Asks words direction request.Help)
IsAsked words asked.Version =
    (first_word words ≡ codes "--version") ⊎ (first_word (drop 1 words) ≡ codes "--version")
IsAsked words (asked.Copy direction columns) = Asks words direction (request.Copy columns)
IsAsked words (asked.Refused fault) =
    (direction : Direction) × AsksBy words direction (λ types. IsRefused types fault)
