-- What the proof of `Decimal::new` answers by hand.
use Rattle.std.proofs.Common.{◌≡◌, ◌∙◌, ap, arith, rules, refl, w16, length, true, None}
use Rattle.std.proofs.lemmas.Bool.{le-leb}
use Rattle.std.proofs.lemmas.Int.{to_z-of_z}
use Rattle.pg_base.specs.Formats.{first_fault_of}
use Rattle.pg_numbers.specs.Numeric.{are_digits, canonical, max_digits, max_scale, parts, parts_checks, units_of}
use Rattle.pg_numbers.proofs.Units.{canonical_scale, canonical_units}
use Rattle.pg_numbers.proofs.numeric.Decimal.new.Goals as goal

pub returns : goal.returns
returns c =
    let p = parts c.args.negative c.args.weight c.args.scale c.args.digits.now in
    let digits : are_digits c.args.digits.now ≡ true = search rules in
    let passes : first_fault_of (parts_checks p) ≡ None =
    rw (
      le-leb c.args.scale max_scale (omega arith),
      le-leb (length c.args.digits.now) max_digits
          (omega arith),
      digits,
    ) refl in
    let number : c.from_parts.result ≡ canonical p =
    c.from_parts.ensures
    ∙ ap (λ z. canonical (parts c.args.negative z c.args.scale c.in_ok-digits.digits.items))
    (to_z-of_z w16 c.args.weight c.ranges.weight)
    ∙ ap (λ ds. canonical (parts c.args.negative c.args.weight c.args.scale ds)) c.in_ok-digits.ensures.items in
    (passes, number, ap (λ q. q.scale) number ∙ canonical_scale p, ap units_of number ∙ canonical_units p)
