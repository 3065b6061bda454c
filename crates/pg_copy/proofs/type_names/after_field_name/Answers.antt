-- What the proof of `after_field_name` answers by hand.
use Rattle.std.proofs.Common.{ap, arith, sym, ◌∙◌}
use Rattle.std.proofs.lemmas.Str.Pattern.{strip_prefix_char}
use Rattle.pg_copy.proofs.QuoteLaws.{not_quoted}
use Rattle.pg_copy.specs.Words.{after_name}
use Rattle.pg_copy.proofs.type_names.after_field_name.Goals as goal

pub returns-in-None : goal.returns-in-None
returns-in-None c =
    let field = c.trim_start-field.result.now in
    let plain = rw c.in-None.is at (strip_prefix_char 34 field c.strip_prefix.result c.strip_prefix.ensures.cases
    (omega arith)) in
    c.after_space.ensures ∙ sym (ap after_name (sym c.trim_start-field.ensures.trim) ∙ not_quoted field plain)
