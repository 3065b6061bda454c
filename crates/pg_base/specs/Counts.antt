-- Count and length prefixes of 4 bytes (pq_getmsgint).
use Rattle.std.specs.Prelude.{◌≡◌, ◌==◌, ◌+◌, zero, suc, Result, Ok, Err, IfSome, IsSome, ℕ, ℤ, pos, negsuc, List}
use Rattle.std.specs.Prelude.{[], ◌∷◌, ◌++◌, length, take, drop, Bool, true, false, nat_le, Option, Some, None}
use Rattle.std.specs.Prelude.{if◌then◌else◌}
use Rattle.std.specs.Borrow.{Bor}
use Rattle.std.specs.Int.{w32}
use Rattle.pg_base.specs.Cells.{be, IsBe, fits_prefix, signed_in}
use Rattle.pg_types.specs.declared.fault.Fault.{Fault}
use Rattle.pg_types.specs.Faults.{Refusal, refusal_of, size, count}
use Rattle.pg_base.specs.Formats.{Checks, first_fault_of}

-- the number of bytes of a prefix
abbrev pub number_width : ℕ
number_width = 4

-- whether the bytes of the prefix are there
abbrev pub has_number : List ℕ → Bool
has_number s = nat_le number_width (length s)

-- the number that the first bytes spell
abbrev pub number_in : List ℕ → ℤ
number_in s = signed_in w32 (take number_width s)

-- the bytes after the prefix
abbrev pub after_number : List ℕ → List ℕ
after_number s = drop number_width s

-- a prefix as a number of items or bytes; a negative one counts as 0
abbrev pub count_or_zero : ℤ → ℕ
count_or_zero (pos n) = n
count_or_zero (negsuc n) = 0

-- whether a number is not negative
abbrev pub not_negative : ℤ → Bool
not_negative (pos n) = true
not_negative (negsuc n) = false

-- the bytes are a count
abbrev pub IsCount : List ℕ → ℕ → Type 0
IsCount s n = IsBe w32 s (pos n)

-- the checks of a count prefix: a truncated one is Size, and a negative one Count
abbrev pub count_checks : List ℕ → Checks
count_checks s = (has_number s, size) ∷ (not_negative (number_in s), count) ∷ []

-- the check of a length: any other number of bytes is Size
abbrev pub length_check : ℕ → List ℕ → Bool × Refusal
length_check n b = (length b == n, size)

-- the check of the end: trailing bytes are Size
abbrev pub no_trailing : List ℕ → Bool × Refusal
no_trailing = length_check 0

-- s begins with bytes that spell a value, and then comes rest
abbrev pub StartsWith : {A : Type 0} → (List ℕ → A → Type 0) → List ℕ → A × Bor (List ℕ) → Type 0
StartsWith spells s p = (t : List ℕ) × (s ≡ t ++ p.1.now) × spells t p.0

-- what is to be read: the number of items to come, and the remaining bytes
pub record ToRead : Type 0 where
  pub left : ℕ
  pub bytes : List ℕ

-- nothing is to be read
abbrev pub nothing : ToRead
nothing = record { left = 0; bytes = [] }

-- the checks of what comes next: those of an item or, after the last item, that there are no trailing bytes
abbrev pub checks_of_next : (List ℕ → Checks) → ℕ → List ℕ → Checks
checks_of_next item zero s = no_trailing s ∷ []
checks_of_next item (suc n) s = item s

-- the checks of what comes next in what is to be read
abbrev pub next_checks : (List ℕ → Checks) → ToRead → Checks
next_checks item r = checks_of_next item r.left r.bytes

-- the item that the first bytes spell was taken
pub record TakesItem {A : Type 0} (form : List ℕ → A → Type 0) (old : ToRead) (v : A) (new : ToRead) : Type 0 where
  -- one item fewer is to come
  pub fewer : new.left + 1 ≡ old.left
  -- the item's bytes
  pub front : List ℕ
  -- the remaining bytes follow them
  pub is : old.bytes ≡ front ++ new.bytes
  -- they spell the item
  pub spells : form front v

-- a step of reading: the next item was taken from the front; or the fault of its first check that fails, or of the
-- check of the end, was returned, and then nothing is to be read; or nothing was to be read
abbrev pub TakesNext : {A : Type 0} → (List ℕ → A → Type 0) → (List ℕ → Checks) → ToRead → Option (Result A Fault)
    → ToRead → Type 0
TakesNext spells item old (Some (Ok v)) new = TakesItem spells old v new
TakesNext spells item old (Some (Err f)) new =
    IfSome (refusal_of f) (λ r. first_fault_of (next_checks item old) ≡ Some r) × IsSome (refusal_of f)
    × (new ≡ nothing)
TakesNext spells item old None new = (old ≡ nothing) × (new ≡ nothing)

-- whether the bytes after a length prefix are all there
abbrev pub has_cell : List ℕ → Bool
has_cell s = nat_le (count_or_zero (number_in s)) (length (after_number s))

-- the bytes after a length prefix: none where it is negative
abbrev pub bytes_in : List ℕ → List ℕ
bytes_in s = take (count_or_zero (number_in s)) (after_number s)

-- the bytes after a length and its bytes
abbrev pub after_cell : List ℕ → List ℕ
after_cell s = drop (count_or_zero (number_in s)) (after_number s)

-- the checks of the first cell: a truncated length or cell is Size
abbrev pub cell_checks : List ℕ → Checks
cell_checks s = (has_number s, size) ∷ (has_cell s, size) ∷ []

-- the bytes of a count; None if it does not fit in four bytes
abbrev pub count_bytes : ℕ → Option (List ℕ)
count_bytes n = if fits_prefix n then Some (be w32 (pos n)) else None
