-- What the proof of `finite_parts` answers by hand.
use Rattle.std.proofs.Common.{rules, arith, ◌≡◌, w64, to_z, of_z}
use Rattle.jiff_core.proofs.SignedLemmas.{signed_casts}
use Rattle.pg_cells_c.proofs.date_parts.finite_parts.Goals as goal

pub returns : goal.returns
returns c =
    let year : to_z w64 (of_z w64 c.new.result.date.year) ≡ c.new.result.date.year = search rules in
    let same = c.new.ensures.2 in
    rw year (c.new.ensures.0, c.new.ensures.1, omega (arith, signed_casts))
