-- Bit strings: BIT (bit_send, bit_recv) and VARBIT (varbit_send, varbit_recv).
use Rattle.std.specs.Prelude.{◌≡◌, ℕ, ◌+◌, ◌-◌, ◌*◌, ◌/◌, ◌%◌, ◌^◌, ◌<◌, ◌≤◌, ◌==◌, List, [], ◌∷◌, ◌++◌}
use Rattle.std.specs.Prelude.{length, map, slice_index, slice_index_or, Option, Some, None, Bool, false, ◌||◌}
use Rattle.std.specs.Prelude.{nat_lt, nat_le, if◌then◌else◌, Result, Ok, Err, ⊤}
use Rattle.std.specs.Int.{bit_at, div_ceil}
use Rattle.std.specs.List.{range_with_len}
use Rattle.pg_base.specs.Appending.{Wire, wire_of}
use Rattle.pg_base.specs.Cells.{Cell, with_prefix}
use Rattle.pg_base.specs.Counts.{IsCount, after_number, count_checks, length_check, number_in, count_or_zero}
use Rattle.pg_types.specs.declared.types.built_in.BuiltIn.TheVariants.{Bit, Varbit}
use Rattle.pg_types.specs.Content.{Content, is_row}
use Rattle.pg_types.specs.Faults.{Refusal, Outcome, refusal_of, transmit}
use Rattle.pg_types.specs.declared.fault.Fault.{Fault}
use Rattle.pg_base.specs.Formats.{first_fault_of, ReadsPlain}

-- BIT and VARBIT
abbrev pub accepted_bits : Content → Bool
accepted_bits ty = is_row Bit ty || is_row Varbit ty

-- the bit of a byte at a place from 0 to 7; place 0 is the most significant bit
abbrev pub bit_of : ℕ → ℕ → Bool
bit_of byte place = bit_at byte (7 - place) == 1

-- bit i of bytes: the one at place i mod 8 of byte i div 8; after the last byte it is 0
abbrev pub nth_bit : List ℕ → ℕ → Bool
nth_bit b i = bit_of (slice_index b (i / 8)) (i % 8)

-- the first n bits of bytes
unfoldable pub first_bits : ℕ → List ℕ → List Bool
first_bits n b = map (nth_bit b) (range_with_len 0 n)

-- how many bytes n bits take
abbrev pub bytes_for : ℕ → ℕ
bytes_for n = div_ceil n 8

-- item i of a list as a digit; after its end 0
abbrev pub digit : List Bool → ℕ → ℕ
digit v i = if slice_index_or v i false then 1 else 0

-- byte k of packed bits: items 8 k to 8 k + 7, the first being the most significant bit
unfoldable pub packed_byte : List Bool → ℕ → ℕ
packed_byte v k =
    128 * digit v (8 * k) + 64 * digit v (8 * k + 1) + 32 * digit v (8 * k + 2) + 16 * digit v (8 * k + 3) +
    8 * digit v (8 * k + 4) + 4 * digit v (8 * k + 5) + 2 * digit v (8 * k + 6) + digit v (8 * k + 7)

-- bits packed eight to a byte; the padding bits of the last byte are 0
unfoldable pub packed : List Bool → List ℕ
packed v = map (packed_byte v) (range_with_len 0 (bytes_for (length v)))

-- the number of padding bits in the last byte of n bits
abbrev pub pad_of : ℕ → ℕ
pad_of n = 8 * bytes_for n - n

-- the byte with its k least significant bits set to 0
abbrev pub without_low : ℕ → ℕ → ℕ
without_low k byte = byte / 2 ^ k * 2 ^ k

-- the greatest length of a bit string
abbrev pub most_bits : ℕ
most_bits = 2 ^ 64 - 1

-- all bits of the bytes; more than the greatest length is Transmit, and any other error is Memory
abbrev pub TakesBytes : List ℕ → Result (List Bool) Fault → Type 0
TakesBytes b (Ok v) = (8 * length b ≤ most_bits) × (v ≡ first_bits (8 * length b) b)
TakesBytes b (Err f) = refusal_of f ≡ (if nat_le (8 * length b) most_bits then None else Some transmit)

-- the bit was appended; or nothing changed, with Transmit if the greatest length is reached, and with Memory otherwise
abbrev pub Pushes : List Bool → Bool → List Bool → Result ⊤ Fault → Type 0
Pushes old bit new (Ok done) = (length old < most_bits) × (new ≡ old ++ bit ∷ [])
Pushes old bit new (Err f) = (new ≡ old)
    × (refusal_of f ≡ (if nat_lt (length old) most_bits then None else Some transmit))

-- the last bit was removed; nothing if there is none
abbrev pub Pops : List Bool → Option Bool → List Bool → Type 0
Pops old (Some bit) new = old ≡ new ++ bit ∷ []
Pops old None new = (old ≡ []) × (new ≡ [])

-- the bytes spell these bits: their number in four bytes, and as many bytes as they take, of which they are the first
-- bits; the padding bits of the last byte may have any value
pub record SpellsBits (b : List ℕ) (v : List Bool) : Type 0 where
  -- the bytes of the number of bits
  pub count_prefix : List ℕ
  -- the bytes of the bits
  pub bits_bytes : List ℕ
  -- they follow one another
  pub is : b ≡ count_prefix ++ bits_bytes
  -- the number is that of the bits
  pub counts : IsCount count_prefix (length v)
  -- there are as many bytes as the bits take
  pub width : length bits_bytes ≡ bytes_for (length v)
  -- the bits are the first of these bytes
  pub first : v ≡ first_bits (length v) bits_bytes

-- the bytes spell the bits of a value
abbrev pub FormBits : {A : Type 0} → (A → List Bool) → List ℕ → A → Type 0
FormBits bits_of b v = SpellsBits b (bits_of v)

-- the checks of the number come first; then any other number of bytes than the bits take is Size
abbrev pub first_fault_bits : List ℕ → Option Refusal
first_fault_bits b = first_fault_of
    (count_checks b ++ length_check (bytes_for (count_or_zero (number_in b))) (after_number b) ∷ [])

-- what a cell reads as
abbrev pub ReadsBits : {A : Type 0} → (A → List Bool) → Cell → Outcome A → Type 0
ReadsBits bits_of = ReadsPlain (FormBits bits_of) first_fault_bits

-- the bytes of a cell of bits: their number in four bytes, and the bits packed; None if the number does not fit
abbrev pub bits_cell : List Bool → Option (List ℕ)
bits_cell v = with_prefix (length v) (packed v)

-- the cell of bits; Transmit if there are too many
abbrev pub wire_bits : List Bool → Wire
wire_bits v = wire_of (bits_cell v)

-- BIT, VARBIT (bit_out, varbit_out): a digit 1 or 0 for each bit
abbrev pub bit_digit : Bool → ℕ
bit_digit bit = if bit then 49 else 48

abbrev pub bits_text : List Bool → List ℕ
bits_text bits = map bit_digit bits
