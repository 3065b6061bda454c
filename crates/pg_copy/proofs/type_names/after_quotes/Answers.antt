-- What the proof of `after_quotes` answers by hand.
use Rattle.std.proofs.Common.{ap, arith, false, rules, sym, true, ◌∙◌}
use Rattle.std.proofs.lemmas.Str.Pattern.{split_parts, strip_prefix_char}
use Rattle.pg_copy.proofs.QuoteLaws.{no_quote, one_quote, to_quote}
use Rattle.pg_copy.specs.Words.{after_quotes}
use Rattle.pg_copy.proofs.type_names.after_quotes.Goals as goal

pub loop-after-preserved : goal.loop-after-preserved
loop-after-preserved c =
    let l = c.loop-after in
    let cut = rw c.in-Some.is at (split_parts 34 l.quoted.now c.split_once.result c.split_once.ensures.cases
    (omega arith)) in
    let two = rw c.in-Some-strip_prefix.is at (strip_prefix_char 34 c.in-Some.after.now c.strip_prefix.result
    c.strip_prefix.ensures.cases (omega arith)) in
    let name = c.in-Some.field-0-0.now in (
      search rules,
      l.invariant.1 ∙ ap (after_quotes false) cut.0 ∙ to_quote name c.in-Some.after.now cut.1 ∙ ap (after_quotes true)
          two,
    )

pub returns-in-None : goal.returns-in-None
returns-in-None c =
    let l = c.loop-after in
    let cut = rw c.in-Some.is at (split_parts 34 l.quoted.now c.split_once.result c.split_once.ensures.cases
    (omega arith)) in
    let one = rw c.in-None.is at (strip_prefix_char 34 c.in-Some.after.now c.strip_prefix.result
    c.strip_prefix.ensures.cases (omega arith)) in
    let after = c.in-Some.after.now in
    sym (l.invariant.1 ∙ ap (after_quotes false) cut.0 ∙ to_quote c.in-Some.field-0-0.now after cut.1 ∙ one_quote after
    one)

pub returns : goal.returns
returns c =
    let l = c.loop-after in
    let none = rw c.in_default.is at (split_parts 34 l.quoted.now c.split_once.result c.split_once.ensures.cases
    (omega arith)) in
    sym (l.invariant.1 ∙ no_quote l.quoted.now none)
