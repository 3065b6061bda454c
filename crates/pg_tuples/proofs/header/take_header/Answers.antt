-- What the proof of `take_header` answers by hand.
use Rattle.std.proofs.lemmas.Grind.{common_steps}
use Rattle.std.proofs.Common.{◌≡◌, ◌<ℤ◌, ◌∙◌, nat_abs, of_z, pos, refl, sym, to_z, arith}
use Rattle.std.proofs.lemmas.Int.{ints}
use Rattle.std.specs.Int.{w32}
use Rattle.pg_tuples.proofs.HeaderLaws.{answered, ends_in_length, ends_in_signature, extension_refused}
use Rattle.pg_tuples.proofs.HeaderLaws.{flags_refused, header_taken}
use Rattle.pg_tuples.specs.Refusals.{RefusesHeader}
use Rattle.pg_tuples.proofs.header.take_header.Goals as goal

pub returns-clause-ok : goal.returns-clause-ok
returns-clause-ok c =
    let len = nat_abs (to_z w32 (of_z w32 c.in-Ok.len)) in
    let is : c.in-Ok.len ≡ pos len = omega (arith, ints) in
    header_taken c.args.bytes.now.now c.in-Some.flags.now c.in-Some.ensures.cases.0 c.in-Some.ensures.cases.1
    c.in-len4-up.len_at_least c.in_ok-check_flags.ensures.ok.0 c.in_ok-check_flags.ensures.ok.1
    c.in-Ok.extension.now c.in-Ok.len c.in-Ok.ensures.outcome len is

pub returns-in_err-check_flags-clause-refused : goal.returns-in_err-check_flags-clause-refused
returns-in_err-check_flags-clause-refused c =
    answered (RefusesHeader c.args.bytes.now.now) c.from_residual.result c.in_err-check_flags.field-0.0
    c.from_residual.ensures.1
    (flags_refused c.args.bytes.now.now c.in-Some.flags.now c.in-Some.ensures.cases.0 c.in-Some.ensures.cases.1
    c.in-len4-up.len_at_least c.in_err-check_flags.field-0.0 c.in_err-check_flags.ensures.refused)

pub returns-then-len-lt0-clause-refused : goal.returns-then-len-lt0-clause-refused
returns-then-len-lt0-clause-refused c =
    let below : c.in-Ok.len <ℤ pos 0 = omega (arith, ints) in
    extension_refused c.args.bytes.now.now c.in-Some.flags.now c.in-Some.ensures.cases.0 c.in-Some.ensures.cases.1
    c.in-len4-up.len_at_least c.in_ok-check_flags.ensures.ok.0 c.in_ok-check_flags.ensures.ok.1
    c.in-Ok.extension.now c.in-Ok.len c.in-Ok.ensures.outcome below

pub returns-then-starts_with-clause-ok : goal.returns-then-starts_with-clause-ok
returns-then-starts_with-clause-ok c =
    (ends_in_signature c.args.bytes.now.now (sym c.starts_with.ensures.value ∙ c.if-starts_with.true), refl)

pub returns-in_default-split_number-clause-ok : goal.returns-in_default-split_number-clause-ok
returns-in_default-split_number-clause-ok c = (
  ends_in_length c.args.bytes.now.now c.in-Some.flags.now c.in-Some.ensures.cases.0 c.in-Some.ensures.cases.1
      c.in-len4-up.len_at_least c.in_ok-check_flags.ensures.ok.0 c.in_ok-check_flags.ensures.ok.1 (grind (arith, common_steps)),
  refl,
)
