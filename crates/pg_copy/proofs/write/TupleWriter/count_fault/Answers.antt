-- What the proof of `TupleWriter::count_fault` answers by hand.
use Rattle.std.proofs.Common.{◌≡◌, ◌-◌, ◌^◌, ◌<◌, ◌∙◌, ℕ, ℤ, Ok, Err, Result, FitsSigned, ap, arith, length, min}
use Rattle.std.proofs.Common.{of_z, rules}
use Rattle.std.proofs.Common.{pos, refl, to_z, w64, inl, inr}
use Rattle.std.proofs.lemmas.Bool.{cases_lt}
use Rattle.std.proofs.lemmas.Int.{ints}
use Rattle.std.proofs.lemmas.List.Splits.{length-slice_split}
use Rattle.std.specs.Prelude.{◌==◌, count_by}
use Rattle.std.specs.Result.{OkIff, result_unwrap_or}
use Rattle.pg_copy.specs.TextLines.{fields_of}
use Rattle.pg_copy.proofs.write.TupleWriter.count_fault.Goals as goal

-- the number, or the greatest that 64 bits with a sign can say
named : {E : Type 0} (r : Result ℤ E) (n : ℕ) → OkIff r (FitsSigned w64 (pos n)) (pos n)
    → result_unwrap_or r (pos (2 ^ 63 - 1)) ≡ pos (min n (2 ^ 63 - 1))
named (Ok z) n p =
    let fits : FitsSigned w64 (pos n) = p.0 in
    let below : n < 2 ^ 63 = omega (arith, ints) in
    let least : n ≡ min n (2 ^ 63 - 1) = omega (arith, below) in
    p.1 ∙ ap pos least
named (Err e) n p =
    elim (cases_lt n (2 ^ 63)) [
      | inl below ↦ let fits : FitsSigned w64 (pos n) = omega (arith, ints, below) in absurd (p fits)
      | inr above ↦ let most : 2 ^ 63 - 1 ≡ min n (2 ^ 63 - 1) = omega (arith, above) in ap pos most
    ]

pub returns : goal.returns
returns c =
    let tabs : c.count-tabs.result ≡ count_by (λ byte. byte == 9) c.args.line.now = search rules in
    let fields = length-slice_split (λ byte. byte == 9) c.args.line.now in
    let kept : to_z w64 (of_z w64 c.unwrap_or.result) ≡ c.unwrap_or.result = omega (arith, ints) in
    let same : min c.saturating_add-fields.result (2 ^ 63 - 1) ≡ min (length (fields_of c.args.line.now)) (2 ^ 63 - 1)
    = omega (arith, tabs, fields, c.saturating_add-fields.ensures) in (
      refl,
      kept ∙ c.unwrap_or.ensures ∙ named c.try_from.result c.saturating_add-fields.result c.try_from.ensures
          ∙ ap pos same,
    )
