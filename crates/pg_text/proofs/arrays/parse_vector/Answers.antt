-- What the proof of `parse_vector` answers by hand.
use Rattle.std.proofs.Common.{map, length, sym, ap, ◌∙◌, lit<}
use Rattle.std.specs.List.{join_with_byte}
use Rattle.std.proofs.lemmas.Iterator.Consumers.{YieldsList-end, YieldsList-turn}
use Rattle.std.proofs.lemmas.Iterator.Splits.{YieldsList-from_str_split}
use Rattle.std.proofs.lemmas.List.{map_push}
use Rattle.std.proofs.lemmas.Result.{err_from_is_err_and}
use Rattle.std.proofs.lemmas.List.Splits.{join_with_byte-slice_split}
use Rattle.pg_text.proofs.Joins.{zip_push}
use Rattle.pg_text.proofs.VectorTexts.{part_parsed}
use Rattle.pg_text.specs.Spaces.{ParsesPlain, Plain}
use Rattle.pg_text.proofs.arrays.parse_vector.Goals as goal

pub returns-in_err-parse_plain : goal.returns-in_err-parse_plain
returns-in_err-parse_plain g c =
    let text = c.args.text.now in
    let turn = YieldsList-turn (YieldsList-from_str_split 32 text (lit< tt) (cc) (cc) (cc)) c.loop-number.yielded _
    c.loop-number.yielded_by _ _ c.in-Some.number c.in-Some.is c.next.ensures.steps in
    let p = err_from_is_err_and c.from_residual.result c.from_residual.ensures.1 in
    rw (p.1, p.2) (λ parsed. c.in_err-parse_plain.ensures
    (part_parsed (ParsesPlain g.T.FromText.parses) text c.in-Some.number.now (length c.loop-number.yielded)
    (sym c.is_empty.ensures ∙ c.if-is_empty.false) turn.0 turn.1 parsed))

pub loop-number-preserved : goal.loop-number-preserved
loop-number-preserved g c =
    rw (map_push (λ x. x.now) c.loop-number.yielded c.in-Some.number, c.in_ok-push.ensures.items)
    (zip_push (Plain g.T.FromText.says) (map (λ x. x.now) c.loop-number.yielded) c.loop-number.numbers.items
    c.in-Some.number.now c.in_ok-parse_plain.field-0 c.loop-number.invariant c.in_ok-parse_plain.ensures)

pub returns : goal.returns
returns g c =
    let text = c.args.text.now in
    let t = YieldsList-end (YieldsList-from_str_split 32 text (lit< tt) (cc) (cc) (cc)) c.loop-number.yielded _
    c.loop-number.yielded_by _ _ c.in-None.is c.next.ensures.steps in (
      map (λ x. x.now) c.loop-number.yielded,
      sym (ap (join_with_byte 32) t.0 ∙ join_with_byte-slice_split 32 text),
      c.loop-number.invariant,
    )
