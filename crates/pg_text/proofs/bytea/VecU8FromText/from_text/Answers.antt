-- What the proof of `from_text` answers by hand.
use Rattle.std.proofs.Common.{◌∷◌, ap, sym, ◌∙◌}
use Rattle.pg_text.proofs.EscapedBytes.{escapes_parsed, hex_parsed}
use Rattle.pg_text.proofs.bytea.VecU8FromText.from_text.Goals as goal

pub returns : goal.returns
returns c =
    let split = c.in-Some.ensures.cases in
    let text = split.1.1 ∙ ap (λ digits. 92 ∷ 120 ∷ digits) (sym split.2) in
    hex_parsed c.args.text.now c.in-Some.digits.now c.decode.result text c.decode.ensures

pub returns-in_default : goal.returns-in_default
returns-in_default c = escapes_parsed c.args.text.now c.unescape.result c.in_default.ensures.cases c.unescape.ensures
