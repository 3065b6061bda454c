-- What the proof of `fields` answers by hand.
use Rattle.std.proofs.Common.{◌≡◌, None, ap, arith, option_and_then, ◌∙◌}
use Rattle.std.proofs.lemmas.Str.Pattern.{strip_prefix_char, strip_suffix_char}
use Rattle.pg_copy.proofs.TypeTexts.{first_stripped, last_stripped}
use Rattle.pg_copy.specs.TypeNames.{without_last}
use Rattle.pg_copy.proofs.type_names.TypeName.fields.Goals as goal

pub returns-in_err-strip_prefix : goal.returns-in_err-strip_prefix
returns-in_err-strip_prefix c =
    let text = c.args.self.now.name.now in
    let begins = strip_prefix_char 40 text c.strip_prefix.result c.strip_prefix.ensures.cases (omega arith) in
    let first = rw c.in_err-strip_prefix.was at (first_stripped 40 text c.strip_prefix.result begins) in
    let none : c.from_residual.result ≡ None = grind arith in
    rw none (ap (option_and_then (without_last 41)) first)

pub returns : goal.returns
returns c =
    let text = c.args.self.now.name.now in
    let begins = strip_prefix_char 40 text c.strip_prefix.result c.strip_prefix.ensures.cases (omega arith) in
    let first = rw c.in_ok-strip_prefix.was at (first_stripped 40 text c.strip_prefix.result begins) in
    let rest = c.in_ok-strip_prefix.field-0.now in
    let ends = strip_suffix_char 41 rest c.strip_suffix.result c.strip_suffix.ensures.cases (omega arith) in
    last_stripped 41 rest c.strip_suffix.result ends ∙ ap (option_and_then (without_last 41)) first
