-- What the proof of `parse_unix_time` answers by hand.
use Rattle.std.proofs.Common.{rules, arith, ◌≡◌, ◌+ℤ◌, ◌*ℤ◌, pos, w64, to_z, of_z}
use Rattle.jiff_core.proofs.SignedLemmas.{signed_arith}
use Rattle.pg_text.proofs.dates.parse_unix_time.Goals as goal

pub returns : goal.returns
returns c =
    let micros : to_z w64 (of_z w64 c.in_ok-micros.micros) ≡ c.in_ok-micros.micros = search rules in
    let nanos = rw micros at c.from_postgres_micros.ensures in (
      c.in_ok-micros.micros +ℤ pos 10_957 *ℤ pos 86_400_000_000,
      c.in_ok-micros.ensures,
      (omega (arith, signed_arith), omega (arith, signed_arith)),
      omega (arith, signed_arith),
    )
