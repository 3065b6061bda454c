-- Lemmas on what texts are scanned as.
use Rattle.std.proofs.Common.{◌≡◌, ◌*◌, ℕ, ℤ, List, [], IfSome, None, Option, Some, subst, sym}
use Rattle.std.specs.Prelude.{SomeIff}
use Rattle.jiff.specs.Types.{Date, Time}
use Rattle.pg_calendar.specs.Calendar.{day_number}
use Rattle.pg_text.specs.Scans.{IsServerDay, SaysDate, SaysTime, TakesClock, TakesTimestamp, TakesWholeDay}

-- what holds of the value of a checked operation
pub some_value : {A : Type 0} (r : Option A) (P : Type 0) (v : A) (Q : A → Type 0) → SomeIff r P v → Q v → IfSome r Q
some_value None P v Q h q = tt
some_value (Some x) P v Q h q = subst Q (sym h.1) q

-- a timestamp of the same fields
pub same_timestamp : (text : List ℕ) (y z : ℤ) (m n d e h i p q s t f : ℕ) → y ≡ z → m ≡ n → d ≡ e → h ≡ i
    → p ≡ q → s ≡ t → TakesTimestamp text y m d h p s f → TakesTimestamp text z n e i q t f
same_timestamp text y z m n d e h i p q s t f year month day hour minute second read =
    subst {A = ℤ × ℕ × ℕ × ℕ × ℕ × ℕ} (λ v. TakesTimestamp text v.0 v.1 v.2 v.3 v.4 v.5 f)
    (λ k. (year k, month k, day k, hour k, minute k, second k)) read

-- a date of the same fields
pub date_said : (text : List ℕ) (d : Date) (year : ℤ) (month day : ℕ) → d.year ≡ year → d.month ≡ month → d.day ≡ day
    → IsServerDay (day_number year month day) → TakesWholeDay text year month day → SaysDate text d
date_said text d year month day y m e within read =
    subst {A = ℤ × ℕ × ℕ} (λ v. TakesWholeDay text v.0 v.1 v.2 × IsServerDay (day_number v.0 v.1 v.2))
    (λ k. (sym y k, sym m k, sym e k)) (read, within)

-- a timestamp of a day of the same fields
pub same_day : (y z : ℤ) (m n d e : ℕ) → y ≡ z → m ≡ n → d ≡ e → IsServerDay (day_number y m d)
    → IsServerDay (day_number z n e)
same_day y z m n d e year month day within =
    subst {A = ℤ × ℕ × ℕ} (λ v. IsServerDay (day_number v.0 v.1 v.2)) (λ k. (year k, month k, day k)) within

-- a time of day of the same fields
pub time_said : (text : List ℕ) (t : Time) (hour minute second micros : ℕ) → t.hour ≡ hour → t.minute ≡ minute
    → t.second ≡ second → t.subsec_nanosecond ≡ micros * 1000 → TakesClock text hour minute second micros []
    → SaysTime text t
time_said text t hour minute second micros h m s fraction read = (
  micros,
  subst {A = ℕ × ℕ × ℕ} (λ v. TakesClock text v.0 v.1 v.2 micros []) (λ k. (sym h k, sym m k, sym s k)) read,
  fraction,
)
