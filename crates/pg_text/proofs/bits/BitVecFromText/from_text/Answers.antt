-- What the proof of `BitVec::from_text` answers by hand.
use Rattle.std.proofs.Common.{◌≡◌, ◌<◌, get_or, length, ap, ◌∙◌, arith}
use Rattle.pg_base.specs.Bits.{bits_text}
use Rattle.pg_text.proofs.BitTexts.{digit_of_bits}
use Rattle.pg_text.proofs.bits.BitVecFromText.from_text.Goals as goal

pub returns-in_default : goal.returns-in_default
returns-in_default c = λ says.
    let i = c.loop-digit.digit-index in
    let same : c.as_bytes-digits.result.now ≡ bits_text says.0 = c.as_bytes-digits.ensures.value ∙ says.1 in
    let within : i < length (bits_text says.0) = omega (arith, c.loop-digit-test.true, ap length same) in
    let digit = digit_of_bits says.0 i within in
    absurd (c.in_default.ensures digit.0 (ap (λ text. get_or text i 0) same ∙ digit.1))
