-- What the proof of `without_modifier` answers by hand.
use Rattle.std.proofs.Common.{◌≡◌, ◌++◌, Some, None, true, false, ap, arith, rules, sym, ◌∙◌}
use Rattle.std.specs.Str.{trim_end}
use Rattle.std.specs.Prelude.{if◌then◌else◌, option_and_then, string_bytes}
use Rattle.pg_copy.proofs.QuoteLaws.{split_once_around}
use Rattle.pg_copy.specs.TypeNames.{around_modifier, is_modifier, unmodified}
use Rattle.pg_copy.proofs.type_names.without_modifier.Goals as goal

pub returns-in_default : goal.returns-in_default
returns-in_default c =
    let name = c.args.name.now in
    let cut = rw c.in_default.is at (split_once_around 40 name c.split_once.result c.split_once.ensures.cases
    (omega arith)) in
    ap (λ s. Some s) c.in_ok-from_str.ensures.ok ∙ ap (unmodified name) cut

pub returns-in_default-split_once : goal.returns-in_default-split_once
returns-in_default-split_once c =
    let name = c.args.name.now in
    let cut = rw c.in-Some.is at (split_once_around 40 name c.split_once.result c.split_once.ensures.cases
    (omega arith)) in
    let unclosed = rw c.in_default-split_once.is at (split_once_around 41 c.in-Some.rest.now c.split_once-2.result
    c.split_once-2.ensures.cases (omega arith)) in
    ap (option_and_then (around_modifier c.in-Some.before.now)) unclosed ∙ ap (unmodified name) cut

pub returns-then-not-is_modifier : goal.returns-then-not-is_modifier
returns-then-not-is_modifier c =
    let name = c.args.name.now in
    let before = c.in-Some.before.now in
    let cut = rw c.in-Some.is at (split_once_around 40 name c.split_once.result c.split_once.ensures.cases
    (omega arith)) in
    let closed = rw c.in-Some-split_once.is at (split_once_around 41 c.in-Some.rest.now c.split_once-2.result
    c.split_once-2.ensures.cases (omega arith)) in
    let other : is_modifier c.in-Some-split_once.modifier.now ≡ false = search rules in
    let none : around_modifier before (c.in-Some-split_once.modifier.now, c.in-Some-split_once.after.now) ≡ None =
    ap (λ t. if t then Some (trim_end before ++ c.in-Some-split_once.after.now) else None) other in
    sym none ∙ ap (option_and_then (around_modifier before)) closed ∙ ap (unmodified name) cut

pub returns : goal.returns
returns c =
    let name = c.args.name.now in
    let before = c.in-Some.before.now in
    let modifier = c.in-Some-split_once.modifier.now in
    let after = c.in-Some-split_once.after.now in
    let cut = rw c.in-Some.is at (split_once_around 40 name c.split_once.result c.split_once.ensures.cases
    (omega arith)) in
    let closed = rw c.in-Some-split_once.is at (split_once_around 41 c.in-Some.rest.now c.split_once-2.result
    c.split_once-2.ensures.cases (omega arith)) in
    let front : string_bytes c.in_ok-plain.plain ≡ trim_end before = c.in_ok-plain.ensures.ok ∙ c.trim_end.ensures.trim
    in
    let whole : string_bytes c.push_str.new.self ≡ trim_end before ++ after =
    c.in_ok-push_str.ensures.bytes ∙ ap (λ f. f ++ after) front in
    let own : is_modifier modifier ≡ true = search rules in
    let left : around_modifier before (modifier, after) ≡ Some (trim_end before ++ after) =
    ap (λ t. if t then Some (trim_end before ++ after) else None) own in
    ap (λ s. Some s) whole ∙ sym left ∙ ap (option_and_then (around_modifier before)) closed ∙ ap (unmodified name) cut
