-- What the proof of `parse` answers by hand.
use Rattle.std.proofs.Common.{[], ◌++◌, ap, arith, length-set, refl, rules, sym, ◌∙◌}
use Rattle.std.specs.Prelude.{option_map}
use Rattle.pg_more_types.proofs.Macaddr8Texts.{begun, byte_taken, more_said, no_byte, whole_said}
use Rattle.pg_more_types.specs.Macaddr8.{bytes_said}
use Rattle.pg_more_types.proofs.macaddr8.text.parse.Goals as goal

pub loop-place-init : goal.loop-place-init
loop-place-init c =
    let separator = c.separator_of-separator.result in (
      refl,
      begun (bytes_said 8 separator c.args.text.now)
          ∙ ap (λ rest. option_map (λ more. [] ++ more) (bytes_said 8 separator rest)) (sym c.as_bytes-rest.ensures.value),
    )

pub loop-place-preserved : goal.loop-place-preserved
loop-place-preserved c =
    let l = c.loop-place in
    let separator = c.separator_of-separator.result in (
      length-set l.bytes l.place c.in_ok-bytes.field-0 ∙ l.invariant.0,
      byte_taken (bytes_said 8 separator c.args.text.now) separator l.rest.now l.bytes l.place l.invariant.1 _
          c.in_ok-bytes.field-0 _ (search rules) l.invariant.0 (omega arith) c.in_ok-bytes.ensures,
    )

pub returns-in_err-bytes : goal.returns-in_err-bytes
returns-in_err-bytes c =
    let l = c.loop-place in
    let separator = c.separator_of-separator.result in
    let none =
    no_byte (bytes_said 8 separator c.args.text.now) separator l.rest.now l.bytes l.place l.invariant.1 (search rules)
    c.in_err-bytes.ensures in
    c.from_residual.ensures ∙ sym none
    ∙ ap (λ separator. bytes_said 8 separator c.args.text.now) c.separator_of-separator.ensures

pub returns-then-is_empty : goal.returns-then-is_empty
returns-then-is_empty c =
    let l = c.loop-place in
    let separator = c.separator_of-separator.result in
    let whole =
    whole_said (bytes_said 8 separator c.args.text.now) separator l.rest.now l.bytes l.place l.invariant.1 (search rules)
    l.invariant.0 (search rules) in
    sym whole ∙ ap (λ separator. bytes_said 8 separator c.args.text.now) c.separator_of-separator.ensures

pub returns-else-is_empty : goal.returns-else-is_empty
returns-else-is_empty c =
    let l = c.loop-place in
    let separator = c.separator_of-separator.result in
    let none =
    more_said (bytes_said 8 separator c.args.text.now) separator l.rest.now l.bytes l.place l.invariant.1 (search rules)
    l.invariant.0 (λ empty. search rules) in
    sym none ∙ ap (λ separator. bytes_said 8 separator c.args.text.now) c.separator_of-separator.ensures
