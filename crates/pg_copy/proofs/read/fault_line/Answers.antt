-- What the proof of `fault_line` answers by hand.
use Rattle.std.proofs.Common.{◌∙◌, ◌++◌, ◌∷◌, [], ap}
use Rattle.pg_copy.proofs.EscapeLaws.{escaped_one_line}
use Rattle.pg_copy.specs.Escapes.{escaped}
use Rattle.pg_copy.proofs.read.fault_line.Goals as goal

pub returns : goal.returns
returns c =
    let text = c.as_bytes.result.now in (
      escaped text,
      escaped_one_line text,
      c.in_ok-push.ensures.items
          ∙ ap (λ l. l ++ 10 ∷ [])
          (c.in_ok-escape.ensures.ok ∙ ap (λ l. l ++ escaped text) c.in_ok-line.ensures.items),
    )
