-- What the proof of `BitVec::from_bytes` answers by hand.
use Rattle.std.proofs.Common.{◌≡◌, ◌*◌, length, ap, arith}
use Rattle.pg_base.proofs.BitLemmas.{all_bits}
use Rattle.pg_base.proofs.bits.BitVec.from_bytes.Goals as goal

pub invariant_of-result : goal.invariant_of-result
invariant_of-result c =
    let copy = c.in_ok-bytes.ensures.items in
    let count : c.in-Some.len ≡ 8 * length c.in_ok-bytes.bytes.items =
    omega (arith, ap length copy, c.in-Some.ensures) in
    all_bits c.in-Some.len c.in_ok-bytes.bytes.items count (λ k. rw copy (c.type_inv.bytes k).fits)
