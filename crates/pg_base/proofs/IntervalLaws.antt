-- Laws of intervals: their format is a grammar, and its check is complete.
use Rattle.std.specs.Prelude.{◌≡◌, ◌++◌, ℕ, ℤ, List, length, take, drop, refl}
use Rattle.std.proofs.Common.{sym, ◌∙◌, ap, append_assoc, arith, length-take, length-drop, take-append-drop}
use Rattle.std.specs.Int.{w32, w64}
use Rattle.pg_base.specs.declared.interval.Interval.{Interval}
use Rattle.pg_base.specs.Cells.{AreBytes, IsBe, be}
use Rattle.pg_base.specs.Formats.{IsComplete, IsGrammar}
use Rattle.pg_base.specs.Interval.{FormInterval, Parts, SpellsInterval, interval_bytes, interval_width}
use Rattle.pg_base.specs.Numbers.{first_fault_number}
use Rattle.pg_base.proofs.CellRows.{bytes_before, four_bytes, trailing_bytes}
use Rattle.pg_base.proofs.Completeness.{int8_complete, right_length}
use Rattle.pg_base.proofs.FormatLaws.{int4_grammar, int8_grammar, passes_number}

-- the bytes of an interval are as many as it has
interval-length : (b : List ℕ) (microseconds days months : ℤ) → SpellsInterval b microseconds days months
    → length b ≡ interval_width
interval-length b microseconds days months h = ap length h.3

-- bytes spell one interval
spells_single : (b : List ℕ) (m d n k e o : ℤ) → SpellsInterval b m d n → SpellsInterval b k e o
    → (m ≡ k) × (d ≡ e) × (n ≡ o)
spells_single b m d n k e o h g =
    let same : interval_bytes m d n ≡ interval_bytes k e o = sym h.3 ∙ g.3 in
    let microseconds : be w64 m ≡ be w64 k = ap (take 8) same in
    let days : be w32 d ≡ be w32 e = ap (λ s. take 4 (drop 8 s)) same in
    let months : be w32 n ≡ be w32 o = ap (drop 12) same in (
      int8_grammar.single (be w64 m) m k (h.0, refl) (g.0, microseconds),
      int4_grammar.single (be w32 d) d e (h.1, refl) (g.1, days),
      int4_grammar.single (be w32 n) n o (h.2, refl) (g.2, months),
    )

-- the interval of these parts
abbrev interval_of : Parts → Interval
interval_of parts = record { microseconds = parts.0; days = parts.1; months = parts.2 }

interval_single : (b : List ℕ) (v w : Interval) → FormInterval b v → FormInterval b w → v ≡ w
interval_single b v w h k =
    let same = spells_single b v.microseconds v.days v.months w.microseconds w.days w.months h k in
    let microseconds : v.microseconds ≡ w.microseconds = same.0 in
    let days : v.days ≡ w.days = same.1 in
    let months : v.months ≡ w.months = same.2 in
    let equal : interval_of (v.microseconds, v.days, v.months) ≡ interval_of (w.microseconds, w.days, w.months) = cc in
    equal

pub interval_grammar : IsGrammar (λ v w. v ≡ w) FormInterval (first_fault_number interval_width)
interval_grammar = record {
  passes = λ b v h. passes_number interval_width b (interval-length b v.microseconds v.days v.months h);
  single = interval_single;
}

-- any eight bytes are those of a number
eight_bytes : (b : List ℕ) → AreBytes b → length b ≡ 8 → (z : ℤ) × IsBe w64 b z
eight_bytes b h l = int8_complete b h (passes_number 8 b l)

-- and bytes whose parts spell numbers spell an interval of them
pub spelt_by_parts : (b : List ℕ) (m d n : ℤ) → IsBe w64 (take 8 b) m → IsBe w32 (take 4 (drop 8 b)) d
    → IsBe w32 (drop 4 (drop 8 b)) n → SpellsInterval b m d n
spelt_by_parts b m d n h k g =
    let rest = drop 8 b in (
      h.0,
      k.0,
      g.0,
      sym (take-append-drop 8 b) ∙ ap (λ s. s ++ rest) h.1
          ∙ ap (λ s. be w64 m ++ s) (sym (take-append-drop 4 rest) ∙ ap (λ s. s ++ drop 4 rest) k.1)
          ∙ ap (λ s. be w64 m ++ be w32 d ++ s) g.1,
    )

-- bytes that were appended part by part are the interval's
pub appended_by_parts : (s t u w : List ℕ) (m d n : ℤ) → t ≡ s ++ be w64 m → u ≡ t ++ be w32 d → w ≡ u ++ be w32 n
    → w ≡ s ++ interval_bytes m d n
appended_by_parts s t u w m d n h k g =
    g ∙ ap (λ r. r ++ be w32 n) (k ∙ ap (λ r. r ++ be w32 d) h)
    ∙ append_assoc (s ++ be w64 m) (be w32 d) (be w32 n)
    ∙ append_assoc s (be w64 m) (be w32 d ++ be w32 n)

pub interval_complete : IsComplete FormInterval (first_fault_number interval_width)
interval_complete b h e =
    let whole : length b ≡ interval_width = right_length interval_width b e in
    let rest = drop 8 b in
    let rest_bytes = trailing_bytes b (take 8 b) rest (sym (take-append-drop 8 b)) h in
    let m = eight_bytes (take 8 b) (bytes_before b 8 h) (simp length-take (omega (arith, whole))) in
    let d = four_bytes (take 4 rest) (bytes_before rest 4 rest_bytes)
    (simp (length-take, length-drop) (omega (arith, whole))) in
    let n = four_bytes (drop 4 rest)
    (trailing_bytes rest (take 4 rest) (drop 4 rest) (sym (take-append-drop 4 rest)) rest_bytes)
    (simp length-drop (omega (arith, whole))) in
    (interval_of (m.0, d.0, n.0), spelt_by_parts b m.0 d.0 n.0 m.1 d.1 n.1)
