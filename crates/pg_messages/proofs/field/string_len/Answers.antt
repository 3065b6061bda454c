-- What the proof of `string_len` answers by hand.
use Rattle.std.proofs.Common.{◌==◌, ◌++◌, ◌∷◌, [], ap, ◌∙◌, sym, arith, length-append}
use Rattle.std.specs.List.{list_any}
use Rattle.pg_messages.proofs.Forms.{plain_string}
use Rattle.pg_messages.proofs.field.string_len.Goals as goal

pub returns : goal.returns
returns c =
    let text = c.args.text.now in
    let plain = ap (list_any (λ byte. byte == 0)) (sym c.as_bytes.ensures.value) ∙ sym c.contains.ensures.value
    ∙ c.if-contains.false in
    (text ++ 0 ∷ [], plain_string text plain, omega (arith, c.saturating_add.ensures, length-append text (0 ∷ [])))
