-- The fields of a message, read off the front of its bytes ("Message Data Types" in PostgreSQL's documentation).
use Rattle.std.specs.Prelude.{◌==◌, ℕ, ℤ, List, [], ◌∷◌, length, take, drop, Option, Some, None, option_map}
use Rattle.std.specs.Prelude.{if◌then◌else◌, nat_lt}
use Rattle.std.specs.Borrow.{Bor}
use Rattle.std.specs.Int.{from_be_bytes, w16, w32}
use Rattle.std.specs.Str.{is_utf8}
use Rattle.pg_base.specs.Cells.{signed_in}
use Rattle.pg_base.specs.Counts.{after_number, has_number, number_in}

-- a value and the bytes after it, if they are there
abbrev pub Split : Type 0 → Type 0
Split A = Option (A × List ℕ)

-- what a call returned, without where it lies in memory
abbrev pub now_of : {A B : Type 0} → (A → B) → Option (A × Bor (List ℕ)) → Split B
now_of view = option_map (λ p. (view p.0, p.1.now))

-- a byte
abbrev pub byte_at : List ℕ → Split ℕ
byte_at [] = None
byte_at (byte ∷ rest) = Some (byte, rest)

-- an unsigned integer in two bytes
abbrev pub count_at : List ℕ → Split ℕ
count_at s = if nat_lt (length s) 2 then None else Some (from_be_bytes w16 (take 2 s), drop 2 s)

-- an integer in two bytes
abbrev pub int2_at : List ℕ → Split ℤ
int2_at s = if nat_lt (length s) 2 then None else Some (signed_in w16 (take 2 s), drop 2 s)

-- an OID in four bytes
abbrev pub oid_at : List ℕ → Split ℕ
oid_at s = if nat_lt (length s) 4 then None else Some (from_be_bytes w32 (take 4 s), drop 4 s)

-- an integer in four bytes
abbrev pub int4_at : List ℕ → Split ℤ
int4_at s = if has_number s then Some (number_in s, after_number s) else None

-- four bytes
abbrev pub salt_at : List ℕ → Split (List ℕ)
salt_at s = if nat_lt (length s) 4 then None else Some (take 4 s, drop 4 s)

-- a byte before the first of two
abbrev pub onto : ℕ → List ℕ × List ℕ → List ℕ × List ℕ
onto byte p = (byte ∷ p.0, p.1)

-- the bytes before the first zero byte, and those after it
unfoldable pub until_zero : List ℕ → Split (List ℕ)
until_zero [] = None
until_zero (byte ∷ rest) = if byte == 0 then Some ([], rest) else option_map (onto byte) (until_zero rest)

-- a text, if it is UTF-8
abbrev pub text_of : Split (List ℕ) → Split (List ℕ)
text_of None = None
text_of (Some p) = if is_utf8 p.0 then Some p else None

-- a text and the zero byte that ends it
abbrev pub string_at : List ℕ → Split (List ℕ)
string_at s = text_of (until_zero s)
