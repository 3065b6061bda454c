-- A value or an infinity: DATE in 4 bytes (date_send, date_recv), TIMESTAMP and TIMESTAMPTZ in 8 (timestamp_send,
-- timestamp_recv, timestamptz_send, timestamptz_recv). The greatest and the least number are the infinities.
use Rattle.std.specs.Prelude.{◌≡◌, ◌≢◌, ◌⊎◌, ◌-◌, ◌^◌, ℕ, ℤ, pos, negsuc, List, length, Some, None, Ok, Err, Bool, ◌&&◌}
use Rattle.std.specs.Int.{Width, byte_len}
use mir.Val.{bits}
use Rattle.pg_base.specs.declared.special.Date.{Date}
use Rattle.pg_base.specs.declared.special.Date.TheVariants.{PosInfinity as AfterDates, NegInfinity as BeforeDates}
use Rattle.pg_base.specs.declared.special.Date.TheVariants.{Value as OneDate}
use Rattle.pg_base.specs.declared.special.Timestamp.{Timestamp}
use Rattle.pg_base.specs.declared.special.Timestamp.TheVariants.{PosInfinity as AfterTimestamps}
use Rattle.pg_base.specs.declared.special.Timestamp.TheVariants.{NegInfinity as BeforeTimestamps}
use Rattle.pg_base.specs.declared.special.Timestamp.TheVariants.{Value as OneTimestamp}
use Rattle.pg_types.specs.declared.types.built_in.BuiltIn.TheVariants.{Date as DateRow}
use Rattle.pg_base.specs.Appending.{Wire}
use Rattle.pg_base.specs.Cells.{Cell, be}
use Rattle.pg_types.specs.Content.{Content, is_row}
use Rattle.pg_types.specs.Faults.{Refusal, Outcome, size}
use Rattle.pg_base.specs.Formats.{NotNull}
use Rattle.pg_base.specs.Timestamps.{accepts_timestamps}

-- a value, or the infinity that is greater or less than all values
pub data Special (A : Type 0) : Type 0 where
  pos_infinity : Special A
  neg_infinity : Special A
  value : A → Special A

-- what a date that may be infinite is
abbrev pub date_view : {A : Type 0} → Date A → Special A
date_view AfterDates = pos_infinity
date_view BeforeDates = neg_infinity
date_view (OneDate v) = value v

-- what a timestamp that may be infinite is
abbrev pub timestamp_view : {A : Type 0} → Timestamp A → Special A
timestamp_view AfterTimestamps = pos_infinity
timestamp_view BeforeTimestamps = neg_infinity
timestamp_view (OneTimestamp v) = value v

-- dates that may be infinite accept DATE if their values do
abbrev pub accepted_date : (Content → Bool) → Content → Bool
accepted_date inside ty = is_row DateRow ty && inside ty

-- timestamps that may be infinite accept TIMESTAMP and TIMESTAMPTZ if their values do
abbrev pub accepted_timestamp : (Content → Bool) → Content → Bool
accepted_timestamp inside ty = accepts_timestamps ty && inside ty

-- the greatest number of a width, which stands for infinity
abbrev pub infinity_number : Width → ℤ
infinity_number w = pos (2 ^ (bits w - 1) - 1)

-- the least number of a width, which stands for -infinity
abbrev pub minus_infinity_number : Width → ℤ
minus_infinity_number w = negsuc (2 ^ (bits w - 1) - 1)

-- the bytes of infinity
abbrev pub infinity : Width → List ℕ
infinity w = be w (infinity_number w)

-- the bytes of -infinity
abbrev pub minus_infinity : Width → List ℕ
minus_infinity w = be w (minus_infinity_number w)

-- the bytes have the width and are not an infinity
pub record IsFiniteCell (w : Width) (b : List ℕ) : Type 0 where
  pub width : length b ≡ byte_len w
  pub not_infinity : b ≢ infinity w
  pub not_minus_infinity : b ≢ minus_infinity w

-- the bytes spell an infinity, or they are finite and spell a value
abbrev pub FormSpecial : {A : Type 0} → Width → (A → Type 0) → List ℕ → Special A → Type 0
FormSpecial w form b pos_infinity = b ≡ infinity w
FormSpecial w form b neg_infinity = b ≡ minus_infinity w
FormSpecial w form b (value v) = IsFiniteCell w b × form v

-- the bytes are refused: as Size if they have another width, and otherwise, if they are finite, as a value is refused
abbrev pub RefusedSpecial : Width → (Refusal → Type 0) → List ℕ → Refusal → Type 0
RefusedSpecial w refused b r = ((length b ≢ byte_len w) × (r ≡ size)) ⊎ (IsFiniteCell w b × refused r)

-- what bytes give: an infinity is itself, without reading a value; all others give a value or its fault
abbrev pub DecodesSpecial : {A B : Type 0} → Width → (B → Special A) → (Outcome A → Type 0) → List ℕ → Outcome B
    → Type 0
DecodesSpecial w view reads b (Ok s) = FormSpecial w (λ v. reads (Ok v)) b (view s)
DecodesSpecial w view reads b (Err r) = RefusedSpecial w (λ f. reads (Err f)) b r

-- what a cell gives: NULL gives WasNull, even if the value has a reading for it
abbrev pub ReadsSpecial : {A B : Type 0} → Width → (B → Special A) → (Cell → Outcome A → Type 0) → Cell → Outcome B
    → Type 0
ReadsSpecial w view reads = NotNull (λ b. DecodesSpecial w view (reads (Some b)) b)

-- NULL, an infinity and a cell of another width are read without allocating, and a value if its own reading does not
-- allocate
abbrev pub FreeSpecial : Width → (List ℕ → Type 0) → Cell → Type 0
FreeSpecial w free None = Unit {0}
FreeSpecial w free (Some b) = IsFiniteCell w b → free b

-- an infinity is written as its bytes, and a value as the value inside
abbrev pub wire_special : {A : Type 0} → Width → (A → Wire) → Special A → Wire
wire_special w wire pos_infinity = Ok (Some (infinity w))
wire_special w wire neg_infinity = Ok (Some (minus_infinity w))
wire_special w wire (value v) = wire v

-- an infinity, or a value of which P holds
abbrev pub InfinityOr : {A : Type 0} → (A → Type 0) → Special A → Type 0
InfinityOr P pos_infinity = Unit {0}
InfinityOr P neg_infinity = Unit {0}
InfinityOr P (value v) = P v

-- the same infinity, or the same value
abbrev pub SameSpecial : {A : Type 0} → (A → A → Type 0) → Special A → Special A → Type 0
SameSpecial same pos_infinity pos_infinity = Unit {0}
SameSpecial same neg_infinity neg_infinity = Unit {0}
SameSpecial same (value v) (value u) = same v u
SameSpecial same _ _ = ⊥
