-- What the proof of `decimal_to_sql` answers by hand.
use Rattle.std.proofs.Common.{◌≡◌, ◌++◌, ◌∙◌, ap, arith, rules, append_assoc, length, w16, to_z, of_z}
use Rattle.std.proofs.lemmas.Int.{to_z-of_z}
use Rattle.pg_numbers.specs.NumericCells.{digit_bytes, head_bytes, sign_of}
use Rattle.pg_numbers.proofs.WrittenCells.{appends_no_number}
use Rattle.pg_numbers.specs.Laws.Numeric.{digit_bytes_length}
use Rattle.pg_numbers.proofs.numeric.cell.decimal_to_sql.Goals as goal

pub returns-in_err-reserve-clause-appends : goal.returns-in_err-reserve-clause-appends
returns-in_err-reserve-clause-appends c =
    let p = c.args.v.now in
    let fault = c.from_residual.ensures in
    let left = c.in_err-reserve.ensures in
    appends_no_number p c.args.out.now c.reserve.new.self c.from_residual.result fault.0 fault.1 left.items
    (omega (arith, left.spare.1, ap length c.digits-digits.ensures.digits)) left.spare.0

pub returns-clause-appends : goal.returns-clause-appends
returns-clause-appends c =
    let p = c.args.v.now in
    let old = c.args.out.now.items in
    let ds = c.digits-digits.result.now in
    let digits = c.digits-digits.ensures.digits in
    let weight : to_z w16 (of_z w16 c.weight.result) ≡ p.weight =
    to_z-of_z w16 c.weight.result (search rules) ∙ c.weight.ensures in
    let sign : c.sign_of-sign.result ≡ sign_of p.negative = c.sign_of-sign.ensures ∙ ap sign_of c.is_negative.ensures in
    let head : c.head.result ≡ head_bytes (length p.digits) p.weight (sign_of p.negative) p.scale =
    c.head.ensures
    ∙ ap (λ n. head_bytes n (to_z w16 (of_z w16 c.weight.result)) c.sign_of-sign.result c.scale.result)
    (ap length digits)
    ∙ ap (λ z. head_bytes (length p.digits) z c.sign_of-sign.result c.scale.result) weight
    ∙ ap (λ n. head_bytes (length p.digits) p.weight n c.scale.result) sign
    ∙ ap (head_bytes (length p.digits) p.weight (sign_of p.negative)) c.scale.ensures in (
      c.extend_by_digits.ensures.items
          ∙ ap (λ b. b ++ digit_bytes ds)
          (c.extend_reserved.ensures.items ∙ ap (λ b. b ++ c.head.result) c.in_ok-reserve.ensures.items)
          ∙ append_assoc old c.head.result (digit_bytes ds)
          ∙ ap (λ b. old ++ b) (ap (λ b. b ++ digit_bytes ds) head
          ∙ ap (λ xs. head_bytes (length p.digits) p.weight (sign_of p.negative) p.scale ++ digit_bytes xs) digits),
      omega (
        arith,
        c.extend_by_digits.ensures.spare,
        c.extend_reserved.ensures.spare,
        c.in_ok-reserve.ensures.spare.0,
        ap length head,
        ap length digits,
        digit_bytes_length p.digits,
      ),
    )
