-- Laws of dates and timestamps: reading and writing agree, and no value becomes an infinity.
use Rattle.std.specs.Prelude.{◌≡◌, ◌*◌, ◌/◌, ℕ, ℤ, pos, negsuc, ◌+ℤ◌, ◌-ℤ◌, ◌*ℤ◌, int_div, List, Option, Some, None}
use Rattle.std.specs.Prelude.{Ok, Err, IsOkAnd, refl}
use Rattle.std.proofs.Common.{sym, ◌∙◌, ap, subst, arith}
use Rattle.std.specs.Int.{Width, byte_len, w32, w64}
use Rattle.jiff.proofs.SpanFacts.{signed_arith}
use Rattle.jiff.specs.Types.{Date, Time}
use Rattle.jiff.specs.Words.{epoch_day, time_nanos, civil_nanos}
use Rattle.pg_base.specs.Appending.{Wire}
use Rattle.pg_base.specs.Cells.{Cell, be}
use Rattle.pg_base.specs.Civil.{FormCount, ReadsCount, first_fault_count, first_day, last_day, base_day, IsDayOf}
use Rattle.pg_base.specs.Civil.{last_micros, IsAfterMidnight, first_civil, last_civil, first_instant, last_instant}
use Rattle.pg_base.specs.Civil.{instant_nanos, ReadsDate, ReadsTime, ReadsDateTime, ReadsInstant, wire_date}
use Rattle.pg_base.specs.Civil.{wire_time, wire_datetime, wire_instant}
use Rattle.pg_base.proofs.CivilLaws.{IsWrittenCount, date_written, time_written, datetime_written, instant_written}
use Rattle.pg_base.proofs.CivilLaws.{date_back, time_back, datetime_back, instant_back}
use Rattle.pg_types.specs.Faults.{Refusal, Outcome}
use Rattle.pg_base.proofs.FormatLaws.{int8_grammar}
use Rattle.pg_base.specs.Timestamps.{base_nanos, whole_micros, IsAfterBase, FormTimestamp, ReadsTimestamp}
use Rattle.pg_base.specs.Timestamps.{wire_timestamp}
use Rattle.pg_base.specs.Numbers.{ReadsSigned, first_fault_number, wire_signed}
use Rattle.postgres_types.specs.Laws.NumberBack.{signed_finite, signed_lawful}
use Rattle.postgres_types.specs.TimestampBack.{KeptMicros, KeptMicrosOfDay}
use Rattle.postgres_types.specs.Laws.Plain.{WrittenAsKept, kept_lawful}
use Rattle.postgres_types.specs.ReadingBack.{BackKept, IsLawful, KeepsFinite, WrittenFinite}

-- a type that writes what bytes give as the same bytes keeps finite cells
pub finite_kept : {A : Type 0} (w : Width) (reads : Cell → Outcome A → Type 0) (wire : A → Wire)
    → ((b : List ℕ) (v : A) → reads (Some b) (Ok v) → wire v ≡ Ok (Some b)) → KeepsFinite w reads wire
finite_kept w reads wire again b v h k = subst (WrittenFinite w) (sym (again b v k)) h

-- if a number names one value and each value is written as its number, what bytes give is written as the same bytes
again_by : {A : Type 0} (w : Width) (low high : ℤ) (names : ℤ → A → Type 0) (count_of : A → ℤ) (wire : A → Wire)
    → ((v : A) → IsWrittenCount w low high (count_of v) (wire v)) → ((z : ℤ) (v : A) → names z v → count_of v ≡ z)
    → (b : List ℕ) (v : A) → ReadsCount w low high names (Some b) (Ok v) → wire v ≡ Ok (Some b)
again_by w low high names count_of wire written one b v h =
    (written v).0 ∙ ap (λ z. Ok (Some (be w z))) (one h.count v h.named) ∙ ap (λ c. Ok (Some c)) (sym h.is.1)

no_fault_by : (o : Option Refusal) → ((r : Refusal) → o ≡ Some r → ⊥) → o ≡ None
no_fault_by None h = refl
no_fault_by (Some r) h = absurd (h r refl)

-- for the numbers of a width and what is kept of a value, if what is written is read back as what is kept
module _ {A : Type 0} (w : Width) (low high : ℤ) (names : ℤ → A → Type 0) (count_of : A → ℤ) (wire : A → Wire)
    (kept same : A → A → Type 0)
    (written : (v : A) → IsWrittenCount w low high (count_of v) (wire v))
    (one : (z : ℤ) (v : A) → names z v → count_of v ≡ z)
    (back : (v : A) (b : List ℕ) → wire v ≡ Ok (Some b) → (o : Outcome A) → ReadsCount w low high names (Some b) o
    → IsOkAnd o (kept v))
    (named : (v u : A) → kept v u → names (count_of v) u)
    (counted : (v u : A) → same v u → count_of v ≡ count_of u)
    (respects : (v u t : A) → same v u → kept v t → kept u t) where
  count_kept : (v : A) → WrittenAsKept (FormCount w low high names) (first_fault_count w low high) kept v (wire v)
  count_kept v =
      let b : List ℕ = be w (count_of v) in
      let is = written v in
      subst (WrittenAsKept (FormCount w low high names) (first_fault_count w low high) kept v) (sym is.0) (
        no_fault_by (first_fault_count w low high b) (λ r e. back v b is.0 (Err r) e),
        λ u k. record { count = count_of v; is = (is.1, refl); within = is.2; named = named v u k },
        λ u h. back v b is.0 (Ok u) h,
      )

  same_count_wire : (v u : A) → same v u → wire v ≡ wire u
  same_count_wire v u h = (written v).0 ∙ ap (λ z. Ok (Some (be w z))) (counted v u h) ∙ sym (written u).0

  count_lawful : IsLawful same (ReadsCount w low high names) wire (BackKept kept)
  count_lawful = kept_lawful (FormCount w low high names)
      (first_fault_count w low high) kept same wire same_count_wire respects
      (λ b v h. back v b (again_by w low high names count_of wire written one b v h) (Ok v) h) count_kept

days_named : (z : ℤ) (v : Date) → IsDayOf z v → epoch_day v -ℤ base_day ≡ z
days_named z v h = omega (arith, signed_arith, h)

days_back : (v : Date) (b : List ℕ) → wire_date v ≡ Ok (Some b) → (o : Outcome Date) → ReadsDate (Some b) o
    → IsOkAnd o (λ u. epoch_day v ≡ epoch_day u)
days_back v b e (Ok u) d = sym (date_back v b e (Ok u) d)
days_back v b e (Err r) d = date_back v b e (Err r) d

-- a date is lawful, and is read back as itself
pub date_lawful : IsLawful (λ v w. epoch_day v ≡ epoch_day w) ReadsDate wire_date
    (BackKept (λ v w. epoch_day v ≡ epoch_day w))
date_lawful = count_lawful w32 first_day last_day IsDayOf (λ v. epoch_day v -ℤ base_day) wire_date
    (λ v w. epoch_day v ≡ epoch_day w) (λ v w. epoch_day v ≡ epoch_day w)
    date_written days_named days_back (λ v u h. omega (arith, signed_arith, h)) (λ v u h. ap (λ z. z -ℤ base_day) h)
    (λ v u t h k. sym h ∙ k)

micros_named : (z : ℤ) (v : Time) → IsAfterMidnight z v → pos (time_nanos v / 1000) ≡ z
micros_named z v h = omega (arith, signed_arith, h)

-- a time is lawful, and is read back truncated to microseconds
pub time_lawful : IsLawful (λ v w. time_nanos v ≡ time_nanos w) ReadsTime wire_time (BackKept KeptMicrosOfDay)
time_lawful = count_lawful w64 (pos 0) last_micros IsAfterMidnight
    (λ v. pos (time_nanos v / 1000)) wire_time KeptMicrosOfDay (λ v w. time_nanos v ≡ time_nanos w)
    time_written micros_named time_back (λ v u h. omega (arith, signed_arith, h)) (λ v u h. ap (λ n. pos (n / 1000)) h)
    (λ v u t h k. k ∙ ap (λ n. n / 1000 * 1000) h)

thousandth_of : (z : ℤ) → int_div (z *ℤ pos 1000) (pos 1000) ≡ z
thousandth_of (pos n) = omega (arith, signed_arith)
thousandth_of (negsuc n) = omega (arith, signed_arith)

-- a whole microsecond is not truncated
whole_micros_exact : (nanos z : ℤ) → nanos ≡ base_nanos +ℤ z *ℤ pos 1000 → whole_micros nanos ≡ z
whole_micros_exact nanos z h =
    let rest : nanos -ℤ base_nanos ≡ z *ℤ pos 1000 = omega (arith, signed_arith, h) in
    ap (λ n. int_div n (pos 1000)) rest ∙ thousandth_of z

-- for timestamps that are given by their nanoseconds
module _ {A : Type 0} (nanos : A → ℤ) where
  timestamp_named : (z : ℤ) (v : A) → IsAfterBase nanos z v → whole_micros (nanos v) ≡ z
  timestamp_named z v h = whole_micros_exact (nanos v) z h

  timestamp_respects : (v u t : A) → nanos v ≡ nanos u → KeptMicros nanos v t → KeptMicros nanos u t
  timestamp_respects v u t h k = k ∙ ap (λ n. base_nanos +ℤ whole_micros n *ℤ pos 1000) h

-- and so are civil datetimes and instants
pub datetime_lawful : IsLawful (λ v w. civil_nanos v ≡ civil_nanos w) ReadsDateTime wire_datetime
    (BackKept (KeptMicros civil_nanos))
datetime_lawful = count_lawful w64 first_civil last_civil (IsAfterBase civil_nanos)
    (λ v. whole_micros (civil_nanos v)) wire_datetime (KeptMicros civil_nanos) (λ v w. civil_nanos v ≡ civil_nanos w)
    datetime_written (timestamp_named civil_nanos) datetime_back (λ v u h. h) (λ v u h. ap whole_micros h)
    (timestamp_respects civil_nanos)

pub instant_lawful : IsLawful (λ v w. instant_nanos v ≡ instant_nanos w) ReadsInstant wire_instant
    (BackKept (KeptMicros instant_nanos))
instant_lawful = count_lawful w64 first_instant last_instant (IsAfterBase instant_nanos)
    (λ v. whole_micros (instant_nanos v)) wire_instant (KeptMicros instant_nanos)
    (λ v w. instant_nanos v ≡ instant_nanos w)
    instant_written (timestamp_named instant_nanos) instant_back (λ v u h. h) (λ v u h. ap whole_micros h)
    (timestamp_respects instant_nanos)

-- dates, civil datetimes and instants write finite cells as finite cells
pub date_finite : (w : Width) → KeepsFinite w ReadsDate wire_date
date_finite w = finite_kept w ReadsDate wire_date
    (again_by w32 first_day last_day IsDayOf (λ v. epoch_day v -ℤ base_day) wire_date date_written days_named)

pub datetime_finite : (w : Width) → KeepsFinite w ReadsDateTime wire_datetime
datetime_finite w = finite_kept w ReadsDateTime wire_datetime
    (again_by w64 first_civil last_civil (IsAfterBase civil_nanos)
    (λ v. whole_micros (civil_nanos v)) wire_datetime datetime_written (timestamp_named civil_nanos))

pub instant_finite : (w : Width) → KeepsFinite w ReadsInstant wire_instant
instant_finite w = finite_kept w ReadsInstant wire_instant
    (again_by w64 first_instant last_instant (IsAfterBase instant_nanos)
    (λ v. whole_micros (instant_nanos v)) wire_instant instant_written (timestamp_named instant_nanos))

int8_lawful : IsLawful (λ m n. m ≡ n) (ReadsSigned w64) (wire_signed w64) (BackKept (λ m n. m ≡ n))
int8_lawful = signed_lawful w64 int8_grammar

-- a number that is not refused is written as its bytes
spelled_as : (z : ℤ) (c : Cell) → wire_signed w64 z ≡ Ok c → ReadsSigned w64 c (Ok z)
spelled_as z c e = int8_lawful.back_reads z c (Ok z) e refl

-- for timestamps with every number of microseconds
module _ {A : Type 0} (nanos : A → ℤ) where
  timestamp_kept : (v : A) (x : Wire) → wire_timestamp (nanos v) ≡ x
      → WrittenAsKept (FormTimestamp nanos) (first_fault_number (byte_len w64)) (KeptMicros nanos) v x
  timestamp_kept v (Ok None) e = spelled_as (whole_micros (nanos v)) None e
  timestamp_kept v (Ok (Some b)) e =
      let is = spelled_as (whole_micros (nanos v)) (Some b) e in (
        int8_grammar.passes b (whole_micros (nanos v)) is,
        λ u k. (whole_micros (nanos v), is, k),
        λ u h. subst (λ z. IsAfterBase nanos z u) (int8_grammar.single b h.0 (whole_micros (nanos v)) h.1 is) h.2,
      )
  timestamp_kept v (Err r) e = tt

  timestamp_whole : (b : List ℕ) (v : A) → FormTimestamp nanos b v → KeptMicros nanos v v
  timestamp_whole b v h = h.2 ∙ ap (λ z. base_nanos +ℤ z *ℤ pos 1000) (sym (timestamp_named nanos h.0 v h.2))

  -- they are lawful, and are read back truncated to microseconds
  pub timestamp_lawful : IsLawful (λ v w. nanos v ≡ nanos w) (ReadsTimestamp nanos) (λ v. wire_timestamp (nanos v))
      (BackKept (KeptMicros nanos))
  timestamp_lawful = kept_lawful (FormTimestamp nanos) (first_fault_number (byte_len w64)) (KeptMicros nanos)
      (λ v w. nanos v ≡ nanos w) (λ v. wire_timestamp (nanos v))
      (λ v u h. ap wire_timestamp h) (timestamp_respects nanos) timestamp_whole
      (λ v. timestamp_kept v (wire_timestamp (nanos v)) refl)

  -- and write finite cells as finite cells
  pub timestamp_finite : (w : Width) → KeepsFinite w (ReadsTimestamp nanos) (λ v. wire_timestamp (nanos v))
  timestamp_finite w b v finite h =
      subst (λ z. WrittenFinite w (wire_signed w64 z)) (sym (timestamp_named nanos h.0 v h.2))
      (signed_finite w w64 b h.0 finite h.1)
