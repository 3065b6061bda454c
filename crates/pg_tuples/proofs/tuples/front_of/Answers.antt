-- What the proof of `front_of` answers by hand.
use Rattle.std.proofs.Common.{◌≡◌, ◌+◌, ◌++◌, ◌∙◌, ℤ, ap, append-nil, arith, of_z, refl, subst, sym, to_z, true, w16}
use Rattle.std.proofs.lemmas.Grind.{common_steps}
use Rattle.std.proofs.lemmas.Int.{ints}
use Rattle.std.proofs.lemmas.Slice.Eq.{bytes_eq-Decides}
use Rattle.pg_tuples.proofs.FrontLaws.{columns_counted, count_refused, tuple_ends}
use Rattle.pg_tuples.proofs.HeaderLaws.{answered}
use Rattle.pg_tuples.specs.Refusals.{RefusesTupleOf}
use Rattle.pg_tuples.specs.declared.tuples.TupleFault.TheVariants.{Length}
use Rattle.pg_tuples.specs.Tuples.{trailer}
use Rattle.pg_tuples.proofs.tuples.front_of.Goals as goal

pub returns-then-not-is_count-clause-refused : goal.returns-then-not-is_count-clause-refused
returns-then-not-is_count-clause-refused c =
    let got : ℤ = to_z w16 (of_z w16 c.number_in.result) in
    let same : to_z w16 (of_z w16 c.number_in.result) ≡ c.number_in.result = omega (arith, ints) in
    count_refused c.args.columns c.args.bytes.now c.in-Some.count.now c.in-Some.fields.now
    c.in-Some.ensures.cases.0 c.in-Some.ensures.cases.1 c.number_in.result got c.number_in.ensures same
    (λ is. let yes_it_is = c.is_count.ensures.1 is in let bad : ⊥ = cc (yes_it_is, c.if-not-is_count.true) in bad)
    (λ e. let equal = (bytes_eq-Decides c.in-Some.count.now trailer).1 e in
    let bad : ⊥ = cc (equal, c.eq.ensures, c.if-eq.false) in bad)

pub returns-in_ok-check_length-in-Err-clause-ok : goal.returns-in_ok-check_length-in-Err-clause-ok
returns-in_ok-check_length-in-Err-clause-ok c =
    let is_so : c.is_count.result ≡ true = c.if-not-is_count.false in
    tuple_ends c.args.columns c.args.bytes.now c.in-Some.count.now c.in-Some.fields.now
    c.in-Some.ensures.cases.0 c.in-Some.ensures.cases.1 c.in-Err.place c.in-Err.rest.now
    (c.is_count.ensures.0 is_so) c.in-Err.ensures.err.0 c.in-Err.ensures.err.1 c.in-Err.ensures.err.2
    c.in_ok-check_length-in-Err.ensures.ok

pub returns-in-Ok-clause-ok : goal.returns-in-Ok-clause-ok
returns-in-Ok-clause-ok c =
    let is_so : c.is_count.result ≡ true = c.if-not-is_count.false in
    let framed = c.in-Ok.ensures.ok in
    let bytes = framed.1 in
    let rest = c.in-Ok.rest.now in
    let is : c.split_at.result.0.now ≡ bytes = grind (arith, common_steps) in
    let counted = columns_counted c.args.columns c.args.bytes.now c.in-Some.count.now c.in-Some.fields.now
    c.in-Some.ensures.cases.0 c.in-Some.ensures.cases.1 (c.is_count.ensures.0 is_so) in (
      (framed.0, bytes, framed.2, framed.3, is ∙ sym (append-nil bytes)),
      (
        counted.0,
        counted.1,
        counted.2 ∙ ap (λ l. counted.0 ++ l) (framed.4 ∙ ap (λ l. l ++ rest) (sym is)),
      ),
    )

pub returns-in_err-check_length-in-Err-clause-refused : goal.returns-in_err-check_length-in-Err-clause-refused
returns-in_err-check_length-in-Err-clause-refused c =
    let is_so : c.is_count.result ≡ true = c.if-not-is_count.false in
    let n = c.args.columns in
    let s = c.args.bytes.now in
    let place = c.in-Err.place in
    let found = c.in_err-check_length-in-Err.ensures.refused in
    let counted = columns_counted n s c.in-Some.count.now c.in-Some.fields.now
    c.in-Some.ensures.cases.0 c.in-Some.ensures.cases.1 (c.is_count.ensures.0 is_so) in
    let refused : RefusesTupleOf n s (Length (place + 1)) = (
      place,
      c.in-Some.fields.now,
      c.in-Err.rest.now,
      c.in-Err.ensures.err.0,
      counted,
      c.in-Err.ensures.err.1,
      refl,
      found.1,
    ) in
    answered (RefusesTupleOf n s) c.from_residual.result c.in_err-check_length-in-Err.field-0.0
    c.from_residual.ensures.1 (subst (RefusesTupleOf n s) (sym found.0) refused)
