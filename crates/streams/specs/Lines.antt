-- The lines of a text.
use Rattle.std.specs.Prelude.{◌≡◌, ℕ, false, ◌==◌, List, [], ◌∷◌, if◌then◌else◌}
use Rattle.std.specs.List.{AllByRecursion}

-- no byte is the separator
abbrev pub Lacks : ℕ → List ℕ → Type 0
Lacks separator = AllByRecursion (λ byte. (byte == separator) ≡ false)

-- a byte put before the first line
abbrev pub onto : ℕ → List (List ℕ) → List (List ℕ)
onto x [] = (x ∷ []) ∷ []
onto x (line ∷ lines) = (x ∷ line) ∷ lines

-- the lines: each ends with byte 10, and a last one without it counts if it is not empty
unfoldable pub lines_of : List ℕ → List (List ℕ)
lines_of [] = []
lines_of (x ∷ xs) = if x == 10 then [] ∷ lines_of xs else onto x (lines_of xs)

-- no byte of the line ends it
abbrev pub IsOneLine : List ℕ → Type 0
IsOneLine = Lacks 10
