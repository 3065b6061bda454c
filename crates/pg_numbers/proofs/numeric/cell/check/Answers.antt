-- What the proof of `check` answers by hand.
use Rattle.std.proofs.Common.{rules, ◌≡◌, ◌≤◌, ◌*◌, ◌∙◌, ap, sym, arith, true, length, drop, w16}
use Rattle.std.proofs.lemmas.Int.{to_z-of_z}
use Rattle.pg_numbers.specs.Numeric.{are_digits, max_scale}
use Rattle.pg_numbers.specs.NumericCells.{count_in, head_len, is_sign, numbers_in, scale_in, sign_in}
use Rattle.pg_numbers.proofs.CellBytes.{after_head, fails_digits}
use Rattle.pg_numbers.specs.Laws.Numeric.{passes_checks}
use Rattle.pg_numbers.proofs.numeric.cell.check.Goals as goal

pub returns-then-not-are_digits-clause-outcome : goal.returns-then-not-are_digits-clause-outcome
returns-then-not-are_digits-clause-outcome c =
    let b = c.args.raw.now in
    let rest = after_head b in
    let sign : is_sign (sign_in b) ≡ true =
    ap is_sign (sym c.from_be_bytes-sign.ensures) ∙ sym c.is_sign.ensures ∙ c.if-not-is_sign.false in
    let scale : scale_in b ≤ max_scale = omega (arith, c.from_be_bytes-scale.ensures) in
    let whole : length (drop head_len b) ≡ 2 * count_in b =
    ap length (sym rest) ∙ c.if-digits-from.false ∙ ap (λ n. 2 * n) (c.from.ensures ∙ c.from_be_bytes.ensures) in
    let fault = fails_digits b c.in-len8-up.len_at_least sign scale whole
    (ap (λ s. are_digits (numbers_in s)) (sym rest) ∙ sym c.are_digits.ensures ∙ c.if-not-are_digits.true) in
    rw c.invalid_digit.ensures fault

pub returns-clause-outcome : goal.returns-clause-outcome
returns-clause-outcome c =
    let b = c.args.raw.now in
    let rest = after_head b in
    let sign : is_sign (sign_in b) ≡ true =
    ap is_sign (sym c.from_be_bytes-sign.ensures) ∙ sym c.is_sign.ensures ∙ c.if-not-is_sign.false in
    let scale : scale_in b ≤ max_scale = omega (arith, c.from_be_bytes-scale.ensures) in
    let whole : length (drop head_len b) ≡ 2 * count_in b =
    ap length (sym rest) ∙ c.if-digits-from.false ∙ ap (λ n. 2 * n) (c.from.ensures ∙ c.from_be_bytes.ensures) in (
      passes_checks b c.in-len8-up.len_at_least sign scale whole
          (ap (λ s. are_digits (numbers_in s)) (sym rest) ∙ sym c.are_digits.ensures ∙ c.if-not-are_digits.false),
      c.from_be_bytes-sign.ensures,
      to_z-of_z w16 c.from_be_bytes-2.result (search rules) ∙ c.from_be_bytes-2.ensures,
      c.from_be_bytes-scale.ensures,
      rest,
    )
