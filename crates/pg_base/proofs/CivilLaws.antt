-- Laws of dates and times.
use Rattle.std.specs.Prelude.{◌≡◌, ℕ, ◌<◌, ◌+◌, ◌*◌, ◌/◌, ◌^◌, ℤ, pos, negsuc, neg_ℤ, ◌-ℤ◌, int_div, ◌≤ℤ◌, int_le}
use Rattle.std.specs.Prelude.{List, Some, None, true, false, Result, Ok, Err, IsOkAnd, FitsSigned, refl}
use Rattle.std.proofs.Common.{sym, ◌∙◌, ap, arith}
use Rattle.std.proofs.lemmas.Bool.{and_from, and_parts, false_from_ne_true, true_from_ne_false, eq-eqb}
use Rattle.std.proofs.lemmas.Option.{IfSome_then}
use Rattle.std.proofs.lemmas.Nat.{from_be_bytes-to_be_bytes_4, from_be_bytes-to_be_bytes_8}
use Rattle.std.specs.Int.{Width, w32, w64, from_be_bytes, to_be_bytes}
use Rattle.jiff.proofs.Family.{epoch_day_range, time_nanos_bound, civil_nanos_range}
use Rattle.jiff.proofs.SpanFacts.{signed_arith}
use borrow.Author.Differences.{le-true, le-false}
use mir.Val.{bits}
use Rattle.jiff.specs.Types.{Date, Time, DateTime, Timestamp}
use Rattle.jiff.specs.Words.{epoch_day, time_nanos, civil_nanos, IsBetween}
use Rattle.pg_base.specs.Cells.{be, IsBe, signed_in}
use Rattle.pg_base.specs.Civil.{is_between, first_fault_count, FormCount, CountGives, base_day, first_day, last_day}
use Rattle.pg_base.specs.Civil.{IsDayOf, last_micros, IsAfterMidnight, first_civil, last_civil, first_instant}
use Rattle.pg_base.specs.Civil.{last_instant, instant_nanos, wire_date, wire_time, wire_datetime, wire_instant}
use Rattle.pg_base.specs.Civil.{ReadsDate, ReadsTime, ReadsDateTime, ReadsInstant}
use Rattle.pg_types.specs.Faults.{Outcome, Answers, refusal_of, decode}
use Rattle.pg_base.proofs.FormatLaws.{be-back, be-length, be-single, fits}
use Rattle.pg_base.specs.Formats.{IsGrammar, Decodes}
use Rattle.pg_base.specs.Timestamps.{base_nanos, whole_micros, IsAfterBase}
use Rattle.pg_base.specs.Numbers.{FormSigned, wire_signed}
use Rattle.pg_base.specs.Appending.{Wire}
use Rattle.pg_types.specs.declared.fault.Fault.{Fault}

test_le : (a b : ℤ) → a ≤ℤ b → int_le a b ≡ true
test_le a b h = true_from_ne_false _ (λ f. let over = le-false a b f in omega (arith, signed_arith, h))

test_le_back : (a b : ℤ) → int_le a b ≡ true → a ≤ℤ b
test_le_back a b h = let under = le-true a b h in omega (arith, signed_arith)

test_between : (low high z : ℤ) → IsBetween low high z → is_between low high z ≡ true
test_between low high z h = and_from _ _ (test_le low z h.0) (test_le z high h.1)

test_outside : (low high z : ℤ) → (IsBetween low high z → ⊥) → is_between low high z ≡ false
test_outside low high z h = false_from_ne_true _
    (λ t. let both = and_parts _ _ t in h (test_le_back low z both.0, test_le_back z high both.1))

-- over a width whose bytes give the number back, and bounds
module _ (w : Width) (back : (n : ℕ) → n < 2 ^ bits w → from_be_bytes w (to_be_bytes w n) ≡ n) (low high : ℤ) where
  number_of_bytes : (b : List ℕ) (z : ℤ) → IsBe w b z → signed_in w b ≡ z
  number_of_bytes b z h = ap (signed_in w) h.1 ∙ be-back w back z h.0

  within_passes : (b : List ℕ) (z : ℤ) → IsBe w b z → IsBetween low high z → first_fault_count w low high b ≡ None
  within_passes b z h k = rw (eq-eqb _ _ (be-length w b z h), number_of_bytes b z h, test_between low high z k) refl

  outside_is_decode : (b : List ℕ) (z : ℤ) → IsBe w b z → (IsBetween low high z → ⊥) → first_fault_count w low high b
      ≡ Some decode
  outside_is_decode b z h k = rw (eq-eqb _ _ (be-length w b z h), number_of_bytes b z h, test_outside low high z k) refl

  -- counts are a grammar where a count names one value
  count_grammar : {A B : Type 0} (content_of : A → B) (names : ℤ → A → Type 0)
      → ((z : ℤ) (v u : A) → names z v → names z u → content_of v ≡ content_of u)
      → IsGrammar (λ v u. content_of v ≡ content_of u) (FormCount w low high names) (first_fault_count w low high)
  count_grammar content_of names one = record {
    passes = λ b v h. within_passes b h.count h.is h.within;
    single = λ b v u h k. one h.count v u h.named (rw (be-single w back b h.count k.count h.is k.is) k.named);
  }

  -- what a count gives is what its bytes give
  count_decodes : {A : Type 0} (names : ℤ → A → Type 0) (b : List ℕ) (z : ℤ) → IsBe w b z → (o : Outcome A)
      → CountGives low high names z o → Decodes (FormCount w low high names) (first_fault_count w low high) b o
  count_decodes names b z h (Ok v) k = record { count = z; is = h; within = k.0; named = k.1 }
  count_decodes names b z h (Err r) k = outside_is_decode b z h k.0 ∙ ap Some (sym k.1)

  -- the same of what a call answered
  count_answered : {A : Type 0} (names : ℤ → A → Type 0) (b : List ℕ) (z : ℤ) → IsBe w b z → (r : Result A Fault)
      → Answers (CountGives low high names z) r
      → Answers (Decodes (FormCount w low high names) (first_fault_count w low high) b) r
  count_answered names b z h (Ok v) k = count_decodes names b z h (Ok v) k
  count_answered names b z h (Err f) k = IfSome_then (refusal_of f) k (λ r g. count_decodes names b z h (Err r) g)

  -- the bytes of a count within the bounds are read as what it names
  count_back : {A : Type 0} (names : ℤ → A → Type 0) (b : List ℕ) (z : ℤ) → IsBe w b z → IsBetween low high z
      → (o : Outcome A) → Decodes (FormCount w low high names) (first_fault_count w low high) b o → IsOkAnd o (names z)
  count_back names b z h k (Ok v) d = rw (be-single w back b z d.count h d.is) d.named
  count_back names b z h k (Err r) d = let bad : None ≡ Some r = sym (within_passes b z h k) ∙ d in cc

-- DATE, TIME, TIMESTAMP and TIMESTAMPTZ are grammars: a count names one value
pub date_grammar : IsGrammar (λ v u. epoch_day v ≡ epoch_day u) (FormCount w32 first_day last_day IsDayOf)
    (first_fault_count w32 first_day last_day)
date_grammar = count_grammar w32 from_be_bytes-to_be_bytes_4 first_day last_day epoch_day IsDayOf
    (λ z v u h k. h ∙ sym k)

pub time_grammar : IsGrammar (λ v u. time_nanos v ≡ time_nanos u) (FormCount w64 (pos 0) last_micros IsAfterMidnight)
    (first_fault_count w64 (pos 0) last_micros)
time_grammar = count_grammar w64 from_be_bytes-to_be_bytes_8 (pos 0) last_micros time_nanos IsAfterMidnight
    (λ z v u h k. let same = h ∙ sym k in cc)

pub datetime_grammar : IsGrammar (λ v u. civil_nanos v ≡ civil_nanos u)
    (FormCount w64 first_civil last_civil (IsAfterBase civil_nanos)) (first_fault_count w64 first_civil last_civil)
datetime_grammar = count_grammar w64 from_be_bytes-to_be_bytes_8 first_civil last_civil civil_nanos
    (IsAfterBase civil_nanos) (λ z v u h k. h ∙ sym k)

pub instant_grammar : IsGrammar (λ v u. instant_nanos v ≡ instant_nanos u)
    (FormCount w64 first_instant last_instant (IsAfterBase instant_nanos))
    (first_fault_count w64 first_instant last_instant)
instant_grammar = count_grammar w64 from_be_bytes-to_be_bytes_8 first_instant last_instant instant_nanos
    (IsAfterBase instant_nanos) (λ z v u h k. h ∙ sym k)

-- what reading the counts of 4 and of 8 bytes answers
pub answered_4 : {A : Type 0} (low high : ℤ) (names : ℤ → A → Type 0) (b : List ℕ) (z : ℤ) → FormSigned w32 b z
    → (r : Result A Fault) → Answers (CountGives low high names z) r
    → Answers (Decodes (FormCount w32 low high names) (first_fault_count w32 low high) b) r
answered_4 low high names = count_answered w32 from_be_bytes-to_be_bytes_4 low high names

pub answered_8 : {A : Type 0} (low high : ℤ) (names : ℤ → A → Type 0) (b : List ℕ) (z : ℤ) → FormSigned w64 b z
    → (r : Result A Fault) → Answers (CountGives low high names z) r
    → Answers (Decodes (FormCount w64 low high names) (first_fault_count w64 low high) b) r
answered_8 low high names = count_answered w64 from_be_bytes-to_be_bytes_8 low high names

-- the written form is the bytes of a count within the bounds, and no refusal
abbrev pub IsWrittenCount : Width → ℤ → ℤ → ℤ → Wire → Type 0
IsWrittenCount w low high z wire = (wire ≡ Ok (Some (be w z))) × FitsSigned w z × IsBetween low high z

wire_of_count : (w : Width) (low high z : ℤ) → FitsSigned w z → IsBetween low high z
    → IsWrittenCount w low high z (wire_signed w z)
wire_of_count w low high z h k = (rw (fits w z h) refl, h, k)

day_within : (v : Date) → IsBetween first_day last_day (epoch_day v -ℤ base_day)
day_within v = omega (arith, signed_arith, epoch_day_range v)

-- no date is refused, and none is written as the least or the greatest number of 4 bytes
pub date_written : (v : Date) → IsWrittenCount w32 first_day last_day (epoch_day v -ℤ base_day) (wire_date v)
date_written v = let k = day_within v in wire_of_count w32 first_day last_day _ (omega (arith, signed_arith, k)) k

micros_within : (v : Time) → IsBetween (pos 0) last_micros (pos (time_nanos v / 1000))
micros_within v = omega (arith, signed_arith, time_nanos_bound v)

-- no time is refused
pub time_written : (v : Time) → IsWrittenCount w64 (pos 0) last_micros (pos (time_nanos v / 1000)) (wire_time v)
time_written v = let k = micros_within v in wire_of_count w64 (pos 0) last_micros _ (omega (arith, signed_arith, k)) k

thousandth_within : (z : ℤ) (m n : ℕ) → IsBetween (neg_ℤ (pos (m * 1000))) (pos (n * 1000 + 999)) z
    → IsBetween (neg_ℤ (pos m)) (pos n) (int_div z (pos 1000))
thousandth_within (pos k) m n h = omega (arith, signed_arith, h)
thousandth_within (negsuc k) m n h = omega (arith, signed_arith, h)

civil_within : (v : DateTime) → IsBetween first_civil last_civil (whole_micros (civil_nanos v))
civil_within v = thousandth_within (civil_nanos v -ℤ base_nanos) 378_651_801_600_000_000 252_455_615_999_999_999
    (omega (arith, signed_arith, civil_nanos_range v))

-- no civil datetime is refused, and none is written as the least or the greatest number of 8 bytes
pub datetime_written : (v : DateTime)
    → IsWrittenCount w64 first_civil last_civil (whole_micros (civil_nanos v)) (wire_datetime v)
datetime_written v = let k = civil_within v in
    wire_of_count w64 first_civil last_civil _ (omega (arith, signed_arith, k)) k

instant_within : (v : Timestamp) → IsBetween first_instant last_instant (whole_micros (instant_nanos v))
instant_within v = thousandth_within (instant_nanos v -ℤ base_nanos) 378_651_708_001_000_000 252_455_522_400_999_999
    (omega (arith, signed_arith, v.in_range))

-- the same of instants
pub instant_written : (v : Timestamp)
    → IsWrittenCount w64 first_instant last_instant (whole_micros (instant_nanos v)) (wire_instant v)
instant_written v = let k = instant_within v in
    wire_of_count w64 first_instant last_instant _ (omega (arith, signed_arith, k)) k

-- what a value is read back as: it stands where its count says
module _ {A : Type 0} (w : Width) (back : (n : ℕ) → n < 2 ^ bits w → from_be_bytes w (to_be_bytes w n) ≡ n)
    (low high : ℤ) (names : ℤ → A → Type 0) where
  written_back : (z : ℤ) (wire : Wire) → IsWrittenCount w low high z wire → (b : List ℕ) → wire ≡ Ok (Some b)
      → (o : Outcome A) → Decodes (FormCount w low high names) (first_fault_count w low high) b o → IsOkAnd o (names z)
  written_back z wire k b e o d = let same : Ok (Some (be w z)) ≡ Ok (Some b) = sym k.0 ∙ e in let is : b ≡ be w z =
      cc in count_back w back low high names b z (k.1, is) k.2 o d

back_date : (v : Date) (o : Outcome Date) → IsOkAnd o (IsDayOf (epoch_day v -ℤ base_day))
    → IsOkAnd o (λ u. epoch_day u ≡ epoch_day v)
back_date v (Ok u) h = omega (arith, signed_arith, h)
back_date v (Err r) h = h

back_time : (v : Time) (o : Outcome Time) → IsOkAnd o (IsAfterMidnight (pos (time_nanos v / 1000)))
    → IsOkAnd o (λ u. time_nanos u ≡ time_nanos v / 1000 * 1000)
back_time v (Ok u) h = omega (arith, signed_arith, h)
back_time v (Err r) h = h

-- a date is read back as itself
pub date_back : (v : Date) (b : List ℕ) → wire_date v ≡ Ok (Some b) → (o : Outcome Date) → ReadsDate (Some b) o
    → IsOkAnd o (λ u. epoch_day u ≡ epoch_day v)
date_back v b e o d = back_date v o
    (written_back w32 from_be_bytes-to_be_bytes_4 first_day last_day IsDayOf _ (wire_date v) (date_written v) b e o d)

-- a time is read back as itself, truncated to microseconds
pub time_back : (v : Time) (b : List ℕ) → wire_time v ≡ Ok (Some b) → (o : Outcome Time) → ReadsTime (Some b) o
    → IsOkAnd o (λ u. time_nanos u ≡ time_nanos v / 1000 * 1000)
time_back v b e o d = back_time v o
    (written_back w64 from_be_bytes-to_be_bytes_8 (pos 0) last_micros IsAfterMidnight _ (wire_time v)
    (time_written v) b e o d)

-- a civil datetime, and an instant, is read back as itself, truncated to microseconds toward 2000-01-01 00:00:00
pub datetime_back : (v : DateTime) (b : List ℕ) → wire_datetime v ≡ Ok (Some b) → (o : Outcome DateTime)
    → ReadsDateTime (Some b) o → IsOkAnd o (IsAfterBase civil_nanos (whole_micros (civil_nanos v)))
datetime_back v b e o d = written_back w64 from_be_bytes-to_be_bytes_8 first_civil last_civil
    (IsAfterBase civil_nanos) _ (wire_datetime v) (datetime_written v) b e o d

pub instant_back : (v : Timestamp) (b : List ℕ) → wire_instant v ≡ Ok (Some b) → (o : Outcome Timestamp)
    → ReadsInstant (Some b) o → IsOkAnd o (IsAfterBase instant_nanos (whole_micros (instant_nanos v)))
instant_back v b e o d = written_back w64 from_be_bytes-to_be_bytes_8 first_instant last_instant
    (IsAfterBase instant_nanos) _ (wire_instant v) (instant_written v) b e o d
