-- What the proof of `numeric_from_sql` answers by hand.
use Rattle.std.proofs.Common.{◌≡◌, ◌≢◌, ◌==◌, ◌∙◌, ap, arith, rules, w16, length, to_z, of_z}
use Rattle.std.proofs.lemmas.Int.{to_z-of_z}
use Rattle.pg_numbers.specs.Numeric.{canonical, parts}
use Rattle.pg_numbers.specs.NumericCells.{numbers_in, negative_sign, scale_in, sign_in, stated, weight_in, nan_sign}
use Rattle.pg_numbers.specs.NumericCells.{infinity_sign, negative_infinity_sign}
use Rattle.pg_numbers.specs.declared.numeric.Numeric.TheVariants.{Finite}
use Rattle.pg_numbers.proofs.CellBytes.{numbers_length, value_of_number}
use Rattle.pg_numbers.proofs.numeric.cell.numeric_from_sql.Goals as goal

pub from_parts-requires-clause-short : goal.from_parts-requires-clause-short
from_parts-requires-clause-short c =
    omega (
      arith,
      numbers_length c.in_ok-stated.stated.digits.now,
      ap length c.in_ok-digits-in_default.ensures.ok,
      c.in_ok-stated.ensures.short,
    )

pub returns-in_ok-digits-in_default : goal.returns-in_ok-digits-in_default
returns-in_ok-digits-in_default c =
    let b = c.args.raw.now in
    let s = c.in_ok-stated.stated in
    let read = c.in_ok-stated.ensures.outcome in
    let weight : to_z w16 (of_z w16 s.weight) ≡ weight_in b = to_z-of_z w16 s.weight (search rules) ∙ read.2 in
    let digits = c.in_ok-digits-in_default.ensures.ok ∙ ap numbers_in read.4 in
    let same : parts (s.sign == negative_sign) (to_z w16
    (of_z w16 s.weight)) s.scale c.in_ok-digits-in_default.digits.items ≡ stated b =
    ap (λ n. parts (n == negative_sign) (to_z w16
    (of_z w16 s.weight)) s.scale c.in_ok-digits-in_default.digits.items) read.1
    ∙ ap (λ z. parts (sign_in b == negative_sign) z s.scale c.in_ok-digits-in_default.digits.items) weight
    ∙ ap (λ n. parts (sign_in b == negative_sign) (weight_in b) n c.in_ok-digits-in_default.digits.items) read.3
    ∙ ap (parts (sign_in b == negative_sign) (weight_in b) (scale_in b)) digits in
    let not_nan : sign_in b ≢ nan_sign = omega (arith, read.1) in
    let not_infinity : sign_in b ≢ infinity_sign = omega (arith, read.1) in
    let not_negative_infinity : sign_in b ≢ negative_infinity_sign = omega (arith, read.1) in (
      read.0,
      ap Finite (c.from_parts.ensures ∙ ap canonical same)
          ∙ value_of_number (sign_in b) (stated b) not_nan not_infinity not_negative_infinity,
    )
