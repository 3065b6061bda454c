-- What the proof of `escape` answers by hand.
use Rattle.std.proofs.Common.{◌≡◌, subst, true}
use Rattle.std.specs.Bool.{OnTrue}
use Rattle.std.specs.List.{list_all}
use Rattle.pg_copy.specs.Escapes.{is_plain}
use Rattle.pg_copy.proofs.EscapeLaws.{appended, plain_text}
use Rattle.pg_copy.proofs.escapes.escape.Goals as goal

pub returns-then-is_surely_plain-clause-ok : goal.returns-then-is_surely_plain-clause-ok
returns-then-is_surely_plain-clause-ok c =
    let text = c.args.text.now in
    let is : list_all is_plain text ≡ true =
    subst (λ b. OnTrue b (list_all is_plain text ≡ true)) c.if-is_surely_plain.true c.is_surely_plain.ensures in
    appended c.extend_from_slice.result c.args.out.now.items text c.extend_from_slice.new.self.items
    c.extend_from_slice.ensures.items (plain_text text is)
