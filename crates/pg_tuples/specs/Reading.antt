-- What is at the front of bytes that are read as a binary COPY.
use Rattle.std.specs.Prelude.{◌≡◌, ◌⊎◌, ◌<◌, ℕ, List, [], ◌∷◌, ◌++◌, length, Option, Some, None}
use Rattle.pg_tuples.specs.Refusals.{HasNegativeLength}
use Rattle.pg_tuples.specs.Tuples.{CountThen, FrameThen, FramesThen, IsHeader, signature, trailer}
use Rattle.pg_tuples.specs.declared.tuples.Front.{Front}
use Rattle.pg_tuples.specs.declared.tuples.Front.TheVariants.{Tuple, Trailer, Part}

-- followed by any `len` bytes it is a header
abbrev pub AwaitsExtension : ℕ → List ℕ → Type 0
AwaitsExtension len s = (more : List ℕ) → length more ≡ len → IsHeader (s ++ more)

-- the bytes end in the signature
abbrev pub EndsInSignature : List ℕ → Type 0
EndsInSignature s = (more : List ℕ) × (s ++ more ≡ signature)

-- the bytes end in the four flags, or before them
abbrev pub EndsInFlags : List ℕ → Type 0
EndsInFlags s = (flags : List ℕ) × (s ≡ signature ++ flags) × (length flags < 4)

-- the bytes end in the length of the header extension, or before it
abbrev pub EndsInLength : List ℕ → Type 0
EndsInLength s =
    (a b : ℕ) × (len : List ℕ) × (s ≡ signature ++ 0 ∷ 0 ∷ a ∷ b ∷ len) × (length len < 4)

-- the bytes end before the header extension
abbrev pub EndsInHeader : List ℕ → Type 0
EndsInHeader s = EndsInSignature s ⊎ (EndsInFlags s ⊎ EndsInLength s)

-- the bytes end in the header extension, or before it
abbrev pub EndsInExtension : List ℕ → Type 0
EndsInExtension s = (len : ℕ) × (0 < len) × AwaitsExtension len s

-- the header was taken, except for `len` bytes of its extension; or it is truncated, and nothing was taken
abbrev pub TakesHeader : List ℕ → Option ℕ → List ℕ → Type 0
TakesHeader old None new = EndsInHeader old × (new ≡ old)
TakesHeader old (Some len) new = (t : List ℕ) × AwaitsExtension len t × (old ≡ t ++ new)

-- no complete frame of a cell is at the front
abbrev pub NoFrame : List ℕ → Type 0
NoFrame s = (rest : List ℕ) → FrameThen s rest → ⊥

-- the bytes end in the frame of a cell, or before it
abbrev pub EndsInFrame : List ℕ → Type 0
EndsInFrame s = NoFrame s × (HasNegativeLength s → ⊥)

-- the bytes end in the tuple of n columns, or before it: in the number of columns, or in the frame of a column
abbrev pub EndsInTuple : ℕ → List ℕ → Type 0
EndsInTuple n s =
    (length s < 2)
    ⊎ ((place : ℕ) × (fields rest : List ℕ) × (place < n) × CountThen s n fields
    × FramesThen fields place rest × EndsInFrame rest)

-- a tuple of n columns, or the trailer, is at the front
abbrev pub StandsAt : ℕ → List ℕ → Front → Type 0
StandsAt n s (Tuple frames rest) =
    FramesThen frames.now n [] × CountThen s n (frames.now ++ rest.now)
StandsAt n s (Trailer rest) = s ≡ trailer ++ rest.now
StandsAt n s Part = EndsInTuple n s
