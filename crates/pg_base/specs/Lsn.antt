-- The text of a log sequence number (pg_lsn_out); parsing accepts more texts than pg_lsn_in.
use Rattle.std.specs.Prelude.{ℕ, ◌*◌, ◌/◌, ◌%◌, ◌^◌, ◌==◌, List, ◌∷◌, ◌++◌, length, Bool, true, ◌&&◌, nat_lt}
use Rattle.std.specs.Prelude.{Option, Some, None, option_map, option_and_then, if◌then◌else◌, bit_or}
use Rattle.std.specs.Char.{is_digit}
use Rattle.std.specs.Fmt.{digits}
use Rattle.std.specs.List.{before_first, after_first, list_all}
use Rattle.std.specs.Str.Parse.{digits_value, without_leading_plus}

-- the byte of `/`
abbrev pub slash : ℕ
slash = 47

-- it is printed as its two halves of 32 bits in upper-case hexadecimal, without leading zeros, with `/` between them
abbrev pub lsn_text : ℕ → List ℕ
lsn_text n = digits 16 true (n / 2 ^ 32) ++ (slash ∷ digits 16 true (n % 2 ^ 32))

-- one or more hexadecimal digits of either case, of value below 2^64
abbrev pub is_hex_number : List ℕ → Bool
is_hex_number s = (nat_lt 0 (length s) && list_all (λ c. is_digit c 16) s) && nat_lt (digits_value 16 s) (2 ^ 64)

-- the number in a half of the text, which may begin with `+`
abbrev pub half_of : List ℕ → Option ℕ
half_of s = let number = without_leading_plus s in if is_hex_number number then Some (digits_value 16 number) else None

-- the number of two halves, in 64 bits: the high bits of the first are lost, and the second may overlap the first
abbrev pub position_of : ℕ → ℕ → ℕ
position_of hi lo = bit_or (hi * 2 ^ 32 % 2 ^ 64) lo

-- the number that a text names, if any: its halves are before and after the first `/`. Without a `/` nothing comes
-- after it, and the empty text is not a half
abbrev pub lsn_of : List ℕ → Option ℕ
lsn_of s =
    let hi = half_of (before_first (λ c. c == slash) s) in
    let lo = half_of (after_first (λ c. c == slash) s) in
    option_and_then (λ h. option_map (position_of h) lo) hi
