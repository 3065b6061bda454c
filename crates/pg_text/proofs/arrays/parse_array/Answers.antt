-- What the proof of `parse_array` answers by hand.
use Rattle.std.proofs.Common.{◌∙◌, sym, subst, arith}
use Rattle.std.specs.Str.{IsUtf8}
use Rattle.std.proofs.lemmas.Result.{err_from_is_err_and}
use Rattle.pg_text.proofs.ArrayTexts.{begun_last, begun_next, begun_none, says_array, says_nothing}
use Rattle.pg_text.proofs.ItemTexts.{item_found, none_found}
use Rattle.pg_text.proofs.ParsedArrays.{between_parsed, item_utf8, rest_parsed, shorter, some_item, value_parsed}
use Rattle.pg_text.proofs.ParsedArrays.{within_braces}
use Rattle.pg_text.specs.declared.items.Items.TheVariants.{OfArray}
use Rattle.pg_text.proofs.arrays.parse_array.Goals as goal

pub returns-then-is_empty : goal.returns-then-is_empty
returns-then-is_empty g c =
    let says = g.T.FromText.says in
    let inside = c.in-Some.rest.now in
    says_array says inside c.args.text.now c.new-elements.result.items
    (sym c.as_bytes.ensures.value ∙ c.in-Some.ensures)
    (says_nothing says inside c.new-elements.result.items c.new-elements.ensures.items
    (sym c.is_empty.ensures ∙ c.if-is_empty.true))

pub returns-then-not-item : goal.returns-then-not-item
returns-then-not-item g c =
    let says = g.T.FromText.says in
    let inside = c.in-Some.rest.now in
    let old = c.loop.rest.now in
    let new = c.next.new.text.now in
    let out = c.next.new.out.items in
    let item = c.in-Some-2.item in
    says_array says inside c.args.text.now c.push.new.self.items (sym c.as_bytes.ensures.value ∙ c.in-Some.ensures)
    (begun_last says inside c.loop.elements.items c.push.new.self.items c.in_ok-parse_element.field-0 old new out
    c.as_slice.result.now item.is_null _ c.loop.invariant.0 c.in_ok-text.ensures c.as_slice.ensures.value
    c.in_ok-parse_element.ensures c.in_ok-push.ensures.items item.has_comma
    (item_found OfArray old new out _ item c.in-Some-2.is c.in_ok-item.ensures) c.if-not-item.true)

pub loop-init : goal.loop-init
loop-init g c =
    let inside = c.in-Some.rest.now in
    let is = sym c.as_bytes.ensures.value ∙ c.in-Some.ensures in (
      begun_none g.T.FromText.says inside c.new-elements.result.items c.new-elements.ensures.items,
      between_parsed g.T.FromText.parses c.args.text.now inside is (sym c.is_empty.ensures ∙ c.if-is_empty.false),
      omega (arith, within_braces c.args.text.now inside is),
    )

pub loop-preserved : goal.loop-preserved
loop-preserved g c =
    let inside = c.in-Some.rest.now in
    let old = c.loop.rest.now in
    let new = c.next.new.text.now in
    let out = c.next.new.out.items in
    let item = c.in-Some-2.item in
    let taken = item_found OfArray old new out _ item c.in-Some-2.is c.in_ok-item.ensures in (
      begun_next g.T.FromText.says inside c.loop.elements.items c.push.new.self.items c.in_ok-parse_element.field-0 old
          new out c.as_slice.result.now item.is_null _ c.loop.invariant.0 c.in_ok-text.ensures
          c.as_slice.ensures.value c.in_ok-parse_element.ensures c.in_ok-push.ensures.items item.has_comma taken
          c.if-not-item.false,
      λ parsed.
          rest_parsed g.T.FromText.parses old new out item.has_comma item.is_null taken c.if-not-item.false
          (c.loop.invariant.1 parsed),
      omega (arith, c.loop.invariant.2, shorter old new item.has_comma _ taken c.if-not-item.false),
    )

pub returns-in_default-2 : goal.returns-in_default-2
returns-in_default-2 g c = λ parsed.
    let old = c.loop.rest.now in
    absurd (some_item g.T.FromText.parses old (c.loop.invariant.1 parsed)
    (none_found OfArray old c.next.new.text.now c.next.new.out.items _ c.in_default-2.is c.in_ok-item.ensures))

pub returns-in_err-text : goal.returns-in_err-text
returns-in_err-text g c =
    let old = c.loop.rest.now in
    let new = c.next.new.text.now in
    let out = c.next.new.out.items in
    let item = c.in-Some-2.item in
    let taken = item_found OfArray old new out _ item c.in-Some-2.is c.in_ok-item.ensures in
    let p = err_from_is_err_and c.from_residual-in_err-text.result c.from_residual-in_err-text.ensures.1 in
    rw (p.1, p.2) (λ parsed. absurd (c.in_err-text.ensures.1 (subst IsUtf8 (sym c.as_slice.ensures.value)
    (item_utf8 g.T.FromText.parses old new out item.has_comma item.is_null taken (c.loop.invariant.1 parsed)
    c.in_err-text.ensures.0))))

pub returns-in_err-parse_element : goal.returns-in_err-parse_element
returns-in_err-parse_element g c =
    let old = c.loop.rest.now in
    let new = c.next.new.text.now in
    let out = c.next.new.out.items in
    let item = c.in-Some-2.item in
    let taken = item_found OfArray old new out _ item c.in-Some-2.is c.in_ok-item.ensures in
    let fault = c.from_residual-in_err-parse_element in
    let p = err_from_is_err_and fault.result fault.ensures.1 in
    rw (p.1, p.2) (λ parsed. c.in_err-parse_element.ensures
    (value_parsed g.T.FromText.parses old new out item.has_comma item.is_null taken _ c.as_slice.result.now
    c.in_ok-text.ensures c.as_slice.ensures.value (c.loop.invariant.1 parsed)))

pub returns : goal.returns
returns g c = λ parsed. absurd (omega (arith, c.loop.invariant.2, c.loop-test.false))
