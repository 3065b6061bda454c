-- What the proof of `extend_by_digits` answers by hand.
use Rattle.std.proofs.Common.{◌<◌, ◌++◌, ◌∙◌, ap, sym, arith, append_assoc, length, take}
use Rattle.pg_numbers.specs.NumericCells.{digit_bytes}
use Rattle.pg_numbers.proofs.WrittenCells.{digit_bytes_more}
use Rattle.pg_numbers.proofs.numeric.cell.extend_by_digits.Goals as goal

pub loop-digit-preserved : goal.loop-digit-preserved
loop-digit-preserved c =
    let ds = c.args.digits.now in
    let old = c.args.out.now.items in
    let before = digit_bytes (take c.loop-digit.digit-index ds) in
    let lt : c.loop-digit.digit-index < length ds = omega arith in (
      c.extend_reserved.ensures.items ∙ ap (λ b. b ++ c.to_be_bytes.result) c.loop-digit.invariant.0
          ∙ append_assoc old before c.to_be_bytes.result
          ∙ ap (λ b. old ++ b) (ap (λ b. before ++ b) c.to_be_bytes.ensures
          ∙ sym (digit_bytes_more ds c.loop-digit.digit-index lt)),
      omega (arith, c.loop-digit.invariant.1, c.extend_reserved.ensures.spare, ap length c.to_be_bytes.ensures),
    )
