-- What the proof of `base_of` answers by hand.
use Rattle.std.proofs.Common.{◌≡◌, None, Some, ap, codes, option_and_then, rules, sym, ◌∙◌}
use Rattle.std.proofs.lemmas.Str.Pattern.{starts_text}
use Rattle.std.specs.Option.{option_or}
use Rattle.pg_copy.proofs.TypeTexts.{of_another, of_interval}
use Rattle.pg_copy.specs.TypeNames.{between}
use Rattle.pg_copy.specs.Types.{base_of}
use Rattle.pg_copy.proofs.type_names.base_of.Goals as goal

pub returns-then-starts_with : goal.returns-then-starts_with
returns-then-starts_with c =
    let tested = starts_text c.starts_with.result (codes "interval ") c.args.name.now c.starts_with.ensures.cases in
    of_interval c.args.name.now (sym tested ∙ c.if-starts_with.true)

pub returns-in-Some : goal.returns-in-Some
returns-in-Some c =
    let name = c.args.name.now in
    let tested = starts_text c.starts_with.result (codes "interval ") name c.starts_with.ensures.cases in
    let found = sym c.in-Some.is ∙ c.parse.ensures in
    of_another name (Some c.in-Some.base) (sym tested ∙ c.if-starts_with.false)
    (ap (λ base. option_or base (option_and_then base_of (between 34 34 name))) found)

pub returns-in_err-unquoted-in-None : goal.returns-in_err-unquoted-in-None
returns-in_err-unquoted-in-None c =
    let name = c.args.name.now in
    let tested = starts_text c.starts_with.result (codes "interval ") name c.starts_with.ensures.cases in
    let missed = sym c.in-None.is ∙ c.parse.ensures in
    let bare = rw c.in_err-unquoted-in-None.was at c.unquoted.ensures in
    let none : c.from_residual.result ≡ None = search rules in
    of_another name c.from_residual.result (sym tested ∙ c.if-starts_with.false)
    (none ∙ ap (option_and_then base_of) bare ∙ ap (λ base. option_or base
    (option_and_then base_of (between 34 34 name))) missed)

pub returns-in_ok-unquoted-in-None : goal.returns-in_ok-unquoted-in-None
returns-in_ok-unquoted-in-None c =
    let name = c.args.name.now in
    let tested = starts_text c.starts_with.result (codes "interval ") name c.starts_with.ensures.cases in
    let missed = sym c.in-None.is ∙ c.parse.ensures in
    let inner = rw c.in_ok-unquoted-in-None.was at c.unquoted.ensures in
    of_another name c.parse-in-None.result (sym tested ∙ c.if-starts_with.false)
    (c.parse-in-None.ensures ∙ ap (option_and_then base_of) inner
    ∙ ap (λ base. option_or base (option_and_then base_of (between 34 34 name))) missed)
