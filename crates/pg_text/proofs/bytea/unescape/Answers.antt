-- What the proof of `unescape` answers by hand.
use Rattle.std.proofs.Common.{◌≡◌, ◌==◌, [], ap, length, sym, true, ◌∙◌}
use Rattle.std.proofs.lemmas.Bool.{eqb-true}
use Rattle.std.proofs.lemmas.List.{nil_from_length}
use Rattle.pg_text.proofs.EscapedBytes.{follows_end, follows_next, follows_none}
use Rattle.pg_text.proofs.bytea.unescape.Goals as goal

pub returns-in_default : goal.returns-in_default
returns-in_default c = λ says.
    absurd (follows_none c.args.text.now c.loop-rest.rest.now c.loop-rest.bytes.items c.loop-rest.invariant
    (sym c.in_default.ensures.byte)
    (λ none. let empty : c.is_empty.result ≡ true = c.is_empty.ensures ∙ ap (λ l. length l == 0) none in absurd cc) says)

pub loop-rest-preserved : goal.loop-rest-preserved
loop-rest-preserved c =
    follows_next c.args.text.now c.loop-rest.rest.now c.loop-rest.bytes.items c.loop-rest.invariant c.in-Some.after.now
    c.push.new.self.items c.in-Some.byte (sym c.in-Some.ensures.byte) c.in_ok-push.ensures.items

pub returns : goal.returns
returns c =
    follows_end c.args.text.now c.loop-rest.rest.now c.loop-rest.bytes.items c.loop-rest.invariant
    (nil_from_length c.loop-rest.rest.now (eqb-true _ _ (sym c.is_empty.ensures ∙ c.loop-rest-test.false)))
