-- What is written to an output, or appended to a buffer.
use Rattle.std.specs.Prelude.{◌≡◌, ℕ, List, ◌++◌, Option, take}
use Rattle.std.specs.Io.KnownBytes.{Appends}

-- such bytes were written
abbrev pub WritesWhole : (List ℕ → Type 0) → Option (List ℕ) → Option (List ℕ) → Type 0
WritesWhole Is old new = (bytes : List ℕ) × Is bytes × Appends old new bytes

-- a prefix of such bytes was written
abbrev pub WritesPart : (List ℕ → Type 0) → Option (List ℕ) → Option (List ℕ) → Type 0
WritesPart Is old new = (bytes : List ℕ) × (n : ℕ) × Is bytes × Appends old new (take n bytes)

-- such bytes, and then such an end
abbrev pub EndsIn : (List ℕ → Type 0) → (List ℕ → Type 0) → List ℕ → Type 0
EndsIn Is IsEnd bytes = (begun end : List ℕ) × Is begun × IsEnd end × (bytes ≡ begun ++ end)

-- such bytes were appended
abbrev pub Gains : (List ℕ → Type 0) → List ℕ → List ℕ → Type 0
Gains Is old new = (bytes : List ℕ) × Is bytes × (new ≡ old ++ bytes)

-- some bytes were appended
abbrev pub Extends : List ℕ → List ℕ → Type 0
Extends old new = (bytes : List ℕ) × (new ≡ old ++ bytes)
