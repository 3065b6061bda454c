-- What the proof of `magnitude_of` answers by hand.
use Rattle.std.proofs.Common.{◌≡◌, ◌+◌, ◌*◌, ◌^◌, ◌-◌, ◌∙◌, ◌+ℤ◌, ◌-ℤ◌, ap, sym, arith, get_or, drop, pos, subst}
use Rattle.std.proofs.Common.{unwrap_or, ℕ}
use Rattle.pg_numbers.specs.Numeric.{Parts, units, units_of}
use Rattle.pg_numbers.proofs.Integers.{units_step}
use Rattle.pg_numbers.proofs.NoIntegers.{above, none_below_one, none_of_fraction, not_below}
use Rattle.std.proofs.Common.{MatchOption, Option, List, length, ◌≤◌, ◌<◌}
use Rattle.pg_numbers.proofs.numeric.integers.magnitude_of.Goals as goal

pub loop-at-preserved : goal.loop-at-preserved
loop-at-preserved c =
    let p = c.args.v.now in
    let ds = c.digits-digits.result.now in
    let at = c.loop-at.at in
    let count = c.in_ok-count.count in
    let whole : p.weight +ℤ pos 1 ≡ pos count = c.in_ok-count.ensures in
    let digit : c.unwrap_or-digit.result ≡ get_or ds at 0 =
    c.unwrap_or-digit.ensures ∙ ap (λ o. unwrap_or o 0) c.copied.ensures ∙ c.get.ensures.lookup.4 (omega arith) 0 in
    let magnitude : c.in_ok-magnitude.magnitude ≡ c.loop-at.magnitude * 10000 + c.unwrap_or-digit.result =
    omega (arith, c.in_ok-magnitude.ensures.1, c.in_ok-checked_mul.ensures.1, c.into.ensures) in
    let counts : ℕ → Type 0 = λ n.
    n * 10 ^ (4 * (count - (at + 1)) + p.scale) + units (p.weight -ℤ pos (at + 1)) p.scale (drop (at + 1) ds)
    ≡ units p.weight p.scale ds in
    subst counts (sym magnitude)
    (units_step p.weight p.scale c.loop-at.magnitude c.unwrap_or-digit.result count at ds whole c.loop-at-test.true
    digit c.loop-at.invariant)

-- what is said of a number and no magnitude
abbrev NoMagnitude : Parts → Type 0
NoMagnitude p = (n : ℕ) → units_of p ≡ n * 10 ^ p.scale → 2 ^ 128 ≤ n

abbrev Magnitude : Parts → Option ℕ → Type 0
Magnitude p result = MatchOption result (NoMagnitude p) (λ n. units_of p ≡ n * 10 ^ p.scale)

pub returns-in_err-count : goal.returns-in_err-count
returns-in_err-count c =
    subst (Magnitude c.args.v.now) (sym c.from_residual.ensures)
    (none_below_one (2 ^ 128) c.args.v.now c.digits-digits.ensures.number c.in_err-count.ensures)

pub returns-then-digits-count : goal.returns-then-digits-count
returns-then-digits-count c =
    none_of_fraction (2 ^ 128) c.args.v.now c.in_ok-count.count c.digits-digits.ensures.number c.in_ok-count.ensures
    (omega (arith, ap length c.digits-digits.ensures.digits))

-- the first digits that were read are too great
too_great : (p : Parts) (ds : List ℕ) (magnitude digit count at : ℕ) → ds ≡ p.digits → p.weight +ℤ pos 1 ≡ pos count
    → at < count → digit ≡ get_or ds at 0
    → magnitude * 10 ^ (4 * (count - at) + p.scale) + units (p.weight -ℤ pos at) p.scale (drop at ds)
    ≡ units p.weight p.scale ds
    → 2 ^ 128 ≤ magnitude * 10000 + digit → NoMagnitude p
too_great p ds magnitude digit count at same whole below is so_far great n e =
    above (2 ^ 128) (magnitude * 10000 + digit) (count - (at + 1)) p.scale
    (units (p.weight -ℤ pos (at + 1)) p.scale (drop (at + 1) ds)) (units p.weight p.scale ds) n
    (units_step p.weight p.scale magnitude digit count at ds whole below is so_far) great
    (ap (units p.weight p.scale) same ∙ e)

pub returns-in_err-checked_mul : goal.returns-in_err-checked_mul
returns-in_err-checked_mul c =
    let digit : c.unwrap_or-digit.result ≡ get_or c.digits-digits.result.now c.loop-at.at 0 =
    c.unwrap_or-digit.ensures ∙ ap (λ o. unwrap_or o 0) c.copied.ensures ∙ c.get.ensures.lookup.4 (omega arith) 0 in
    let great : 2 ^ 128 ≤ c.loop-at.magnitude * 10000 =
    not_below (c.loop-at.magnitude * 10000) (2 ^ 128) c.in_err-checked_mul.ensures in
    subst (Magnitude c.args.v.now) (sym c.from_residual-in_err-checked_mul.ensures)
    (too_great c.args.v.now c.digits-digits.result.now c.loop-at.magnitude c.unwrap_or-digit.result c.in_ok-count.count
    c.loop-at.at c.digits-digits.ensures.digits c.in_ok-count.ensures c.loop-at-test.true digit c.loop-at.invariant
    (omega (arith, great)))

pub returns-in_err-magnitude : goal.returns-in_err-magnitude
returns-in_err-magnitude c =
    let digit : c.unwrap_or-digit.result ≡ get_or c.digits-digits.result.now c.loop-at.at 0 =
    c.unwrap_or-digit.ensures ∙ ap (λ o. unwrap_or o 0) c.copied.ensures ∙ c.get.ensures.lookup.4 (omega arith) 0 in
    let great : 2 ^ 128 ≤ c.in_ok-checked_mul.field-0 + c.into.result =
    not_below (c.in_ok-checked_mul.field-0 + c.into.result) (2 ^ 128) c.in_err-magnitude.ensures in
    subst (Magnitude c.args.v.now) (sym c.from_residual-in_err-magnitude.ensures)
    (too_great c.args.v.now c.digits-digits.result.now c.loop-at.magnitude c.unwrap_or-digit.result c.in_ok-count.count
    c.loop-at.at c.digits-digits.ensures.digits c.in_ok-count.ensures c.loop-at-test.true digit c.loop-at.invariant
    (omega (arith, great, c.in_ok-checked_mul.ensures.1, c.into.ensures)))
