-- Which bytes are refused as a header, or as a tuple.
use Rattle.std.specs.Prelude.{◌≡◌, ◌≢◌, ◌+◌, ◌<◌, ℕ, suc, pos, negsuc, List, [], ◌∷◌, ◌++◌, FitsSigned, bit_and}
use Rattle.std.specs.Int.{w16, w32, from_be_bytes}
use Rattle.pg_base.specs.Cells.{IsBe, be}
use Rattle.pg_tuples.specs.Tuples.{CountThen, FramesThen, signature}
use Rattle.pg_tuples.specs.declared.header.HeaderFault.{HeaderFault}
use Rattle.pg_tuples.specs.declared.header.HeaderFault.TheVariants.{Signature, Oids, Flags, Extension}
use Rattle.pg_tuples.specs.declared.tuples.TupleFault.{TupleFault}
use Rattle.pg_tuples.specs.declared.tuples.TupleFault.TheVariants.{Columns, Length}

-- whatever follows these bytes, they do not begin as the others do
abbrev pub NeverBegins : List ℕ → List ℕ → Type 0
NeverBegins s t = (more rest : List ℕ) → s ++ more ≡ t ++ rest → ⊥

-- the fault of the critical flags, which are two bytes: the lowest flag says that the tuples have OIDs
abbrev pub RefusesFlags : ℕ → ℕ → HeaderFault → Type 0
RefusesFlags high low Oids = bit_and (from_be_bytes w16 (high ∷ low ∷ [])) 1 ≢ 0
RefusesFlags high low Flags =
    ((high ≡ 0) × (low ≡ 0) → ⊥) × (bit_and (from_be_bytes w16 (high ∷ low ∷ [])) 1 ≡ 0)
RefusesFlags high low fault = ⊥

-- the critical flags, which are the first two of the four bytes after the signature, are refused
abbrev pub HasRefusedFlags : List ℕ → HeaderFault → Type 0
HasRefusedFlags s fault =
    (high low a b : ℕ) × (rest : List ℕ) × (s ≡ signature ++ high ∷ low ∷ a ∷ b ∷ rest)
    × RefusesFlags high low fault

-- the length of the header extension is negative
abbrev pub HasNegativeExtension : List ℕ → Type 0
HasNegativeExtension s =
    (a b n : ℕ) × (len rest : List ℕ) × IsBe w32 len (negsuc n)
    × (s ≡ signature ++ 0 ∷ 0 ∷ a ∷ b ∷ (len ++ rest))

-- the bytes do not begin with a header, with this fault
abbrev pub RefusesHeader : List ℕ → HeaderFault → Type 0
RefusesHeader s Signature = NeverBegins s signature
RefusesHeader s Oids = HasRefusedFlags s Oids
RefusesHeader s Flags = HasRefusedFlags s Flags
RefusesHeader s Extension = HasNegativeExtension s

-- the length prefix at the front is negative, and is not -1
abbrev pub HasNegativeLength : List ℕ → Type 0
HasNegativeLength s = (n : ℕ) × (len rest : List ℕ) × IsBe w32 len (negsuc (suc n)) × (s ≡ len ++ rest)

-- the bytes do not begin with a tuple of n columns, with this fault: the number of columns is another, and it is not
-- the trailer; or the length prefix of a column is negative, after complete frames
abbrev pub RefusesTupleOf : ℕ → List ℕ → TupleFault → Type 0
RefusesTupleOf n s (Columns expected got) =
    (expected ≡ n) × (got ≢ pos n) × (got ≢ negsuc 0) × FitsSigned w16 got
    × (rest : List ℕ) × (s ≡ be w16 got ++ rest)
RefusesTupleOf n s (Length column) =
    (place : ℕ) × (fields rest : List ℕ) × (place < n) × CountThen s n fields
    × FramesThen fields place rest × (column ≡ place + 1) × HasNegativeLength rest
