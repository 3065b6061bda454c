-- What the proof of `described` answers by hand.
use Rattle.std.proofs.Common.{◌≡◌, ◌∷◌, ◌++◌, ◌∙◌, [], true, arith, inl, inr, length-append, refl, rules, subst, sym}
use Rattle.std.specs.Result.{is_ok}
use Rattle.std.proofs.lemmas.Result.{err_from_is_err_and}
use Rattle.pg_client.specs.CatalogTypes.{table_of}
use Rattle.pg_client.specs.Descriptions.{IsColumn, IsWhyNoColumn}
use Rattle.pg_client.proofs.Turns.{one_more}
use Rattle.pg_client.proofs.described.described.Goals as goal

pub returns-in_err-column : goal.returns-in_err-column
returns-in_err-column c =
    let p = err_from_is_err_and c.from_residual.result c.from_residual.ensures.1 in
    let so_far = c.loop-place.invariant in
    let rest = c.loop-place.rest.now in
    rw (p.1, p.2) (inr (
      c.loop-place.columns.items,
      rest,
      so_far.1,
      inl (
        omega (arith, so_far.0, c.loop-place-test.true, c.from-place-end.ensures),
        subst (λ n. IsWhyNoColumn c.args.has_formats (table_of c.args.catalog.now) n rest c.in_err-column.field-0.0) (sym so_far.0)
            c.in_err-column.ensures.why.0,
      ),
    ))

pub loop-place-preserved : goal.loop-place-preserved
loop-place-preserved c =
    let so_far = c.loop-place.invariant in
    let kept : is_ok c.push.result ≡ true = search rules in
    let items : c.push.new.self.items ≡ c.loop-place.columns.items ++ c.in_ok-column.column ∷ [] =
    c.push.ensures.items ∙ rw kept refl in
    rw items (
      omega (arith, so_far.0, length-append c.loop-place.columns.items (c.in_ok-column.column ∷ [])),
      one_more (IsColumn c.args.has_formats (table_of c.args.catalog.now)) c.loop-place.columns.items c.in_ok-column.column
          c.args.descriptions.now c.loop-place.rest.now c.take_column.new.rest.now so_far.1 c.in_ok-column.ensures.column,
    )
