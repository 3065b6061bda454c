-- What is parsed as an interval.
use Rattle.std.specs.Prelude.{◌≡◌, ◌⊎◌, ℕ, zero, suc, ◌+◌, ◌*◌, ◌≤◌, ℤ, pos, neg_ℤ, ◌+ℤ◌, ◌*ℤ◌, Bool, true, false}
use Rattle.std.specs.Prelude.{List, [], ◌∷◌, ◌++◌, codes, Option, Some, None}
use Rattle.std.specs.Option.{unwrap_or}
use Rattle.pg_base.specs.declared.interval.Interval.{Interval}
use Rattle.pg_text.specs.Scans.{TakesFraction, TakesNumber}
use Rattle.pg_text.specs.declared.intervals.Parts.{Parts}
use Rattle.pg_text.specs.declared.intervals.Field.{Field}
use Rattle.pg_text.specs.declared.intervals.Field.TheVariants.{Year, Month, Day}

-- a sign, if there is one, and whether it is a minus
abbrev pub TakesSign : List ℕ → Bool → List ℕ → Type 0
TakesSign text true rest = text ≡ 45 ∷ rest
TakesSign text false rest = (text ≡ 43 ∷ rest) ⊎ (text ≡ rest)

-- the number with its sign
abbrev pub signed : Bool → ℕ → ℤ
signed true n = neg_ℤ (pos n)
signed false n = pos n

abbrev pub field_name : Field → List ℕ
field_name Year = codes "year"
field_name Month = codes "mon"
field_name Day = codes "day"

-- a space and the name of a field, with or without an s
abbrev pub TakesField : List ℕ → Field → List ℕ → Type 0
TakesField text field rest =
    (name : List ℕ) × (text ≡ 32 ∷ (field_name field ++ name)) × ((name ≡ 115 ∷ rest) ⊎ (name ≡ rest))

-- a signed number and its field
abbrev pub TakesCount : List ℕ → ℤ → Field → List ℕ → Type 0
TakesCount text count field rest =
    (negative : Bool)
    × (n : ℕ)
    × (a b : List ℕ)
    × TakesSign text negative a
    × TakesNumber a n b
    × TakesField b field rest
    × (count ≡ signed negative n)

-- minutes, seconds and a fraction after so many hours, and the microseconds of it all
abbrev pub TakesMinutes : List ℕ → ℕ → ℕ → List ℕ → Type 0
TakesMinutes text hours micros rest =
    (minutes seconds fraction : ℕ)
    × (a b : List ℕ)
    × TakesNumber text minutes (58 ∷ a)
    × (minutes ≤ 59)
    × TakesNumber a seconds b
    × (seconds ≤ 59)
    × TakesFraction b fraction rest
    × (micros ≡ (hours * 3_600 + minutes * 60 + seconds) * 1_000_000 + fraction)

-- a signed time of any number of hours, in microseconds
abbrev pub TakesTime : List ℕ → ℤ → List ℕ → Type 0
TakesTime text micros rest =
    (negative : Bool)
    × (hours time : ℕ)
    × (a b : List ℕ)
    × TakesSign text negative a
    × TakesNumber a hours (58 ∷ b)
    × TakesMinutes b hours time rest
    × (micros ≡ signed negative time)

-- a part that was not there is there now
abbrev pub IsSet : Option ℤ → ℤ → Option ℤ → Type 0
IsSet old part new = (old ≡ None) × (new ≡ Some part)

-- the count of a field that had none, and the other parts are as before
abbrev pub SetsField : Parts → Field → ℤ → Parts → Type 0
SetsField old Year count new =
    IsSet old.years count new.years × (new.months ≡ old.months) × (new.days ≡ old.days) × (new.micros ≡ old.micros)
SetsField old Month count new =
    IsSet old.months count new.months × (new.years ≡ old.years) × (new.days ≡ old.days) × (new.micros ≡ old.micros)
SetsField old Day count new =
    IsSet old.days count new.days × (new.years ≡ old.years) × (new.months ≡ old.months) × (new.micros ≡ old.micros)

-- the time, if there was none, and the other parts are as before
abbrev pub SetsTime : Parts → ℤ → Parts → Type 0
SetsTime old micros new =
    IsSet old.micros micros new.micros × (new.years ≡ old.years) × (new.months ≡ old.months) × (new.days ≡ old.days)

-- a part, which was not there
abbrev pub TakesPart : Parts → List ℕ → Parts → List ℕ → Type 0
TakesPart old text new rest =
    ((count : ℤ) × (field : Field) × TakesCount text count field rest × SetsField old field count new)
    ⊎ ((micros : ℤ) × TakesTime text micros rest × SetsTime old micros new)

-- one to so many parts with spaces between
abbrev pub TakesParts : ℕ → Parts → List ℕ → Parts → Type 0
TakesParts zero old text new = ⊥
TakesParts (suc most) old text new =
    (next : Parts)
    × (rest : List ℕ)
    × TakesPart old text next rest
    × (((rest ≡ []) × (new ≡ next)) ⊎ ((after : List ℕ) × (rest ≡ 32 ∷ after) × TakesParts most next after new))

abbrev pub no_parts : Parts
no_parts = record { years = None; months = None; days = None; micros = None }

-- what the parts are together
abbrev pub IsSumOf : Parts → Interval → Type 0
IsSumOf parts v =
    (v.months ≡ unwrap_or parts.years (pos 0) *ℤ pos 12 +ℤ unwrap_or parts.months (pos 0))
    × (v.days ≡ unwrap_or parts.days (pos 0))
    × (v.microseconds ≡ unwrap_or parts.micros (pos 0))

-- what is parsed as an interval (interval_in): years, months, days and a time, each at most once and in any order
abbrev pub SaysInterval : List ℕ → Interval → Type 0
SaysInterval text v = (parts : Parts) × TakesParts 4 no_parts text parts × IsSumOf parts v
