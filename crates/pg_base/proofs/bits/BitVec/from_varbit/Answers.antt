-- What the proof of `BitVec::from_varbit` answers by hand.
use Rattle.std.proofs.Common.{Fits, w8, ◌≡◌, ℕ, ◌∙◌, ◌+◌, get_or, length, ap, sym, rules, arith}
use Rattle.pg_base.specs.Bits.{bytes_for, first_bits, pad_of, without_low}
use Rattle.pg_base.proofs.PadLemmas.{masked_view, masked_packed, none_tidy}
use Rattle.pg_base.proofs.bits.BitVec.from_varbit.Goals as goal
use Rattle.pg_base.proofs.bits.BitVec.from_varbit.Goals.{in-Some, in_default}

pub invariant_of-result : goal.invariant_of-result
invariant_of-result c =
    let n = c.len-len.result in
    let p = c.in_ok-bytes.bytes.items in
    let copy = c.in_ok-bytes.ensures.items in
    let count = ap length copy ∙ c.bytes-padded.ensures.whole ∙ ap bytes_for (sym c.len-len.ensures) in
    let fit : (k : ℕ) → Fits w8 (get_or c.bytes-padded.result.now k 0) = search rules in
    elim c.match-checked_sub.branch [
      | in-Some w ↦
          let last : w.in-Some.last + 1 ≡ length p = omega (arith, ap length copy, w.in-Some.ensures) in
          let last_is = w.without_pad.ensures ∙ ap (λ x. without_low (pad_of n) (get_or x w.in-Some.last 0))
          (sym copy) in
          rw w.bytes-is (masked_packed n w.in-Some.last w.without_pad.result p count last
          (λ k. rw copy (fit k).fits) last_is)
      | in_default w ↦
          let none : length p ≡ 0 = omega (arith, ap length copy, w.in_default.ensures) in
          rw w.bytes-is (none_tidy n p count none)
    ]

pub returns-clause-ok : goal.returns-clause-ok
returns-clause-ok c =
    let n = c.len-len.result in
    let p = c.in_ok-bytes.bytes.items in
    let copy = c.in_ok-bytes.ensures.items in
    let count = ap length copy ∙ c.bytes-padded.ensures.whole ∙ ap bytes_for (sym c.len-len.ensures) in
    let fit : (k : ℕ) → Fits w8 (get_or c.bytes-padded.result.now k 0) = search rules in
    let same : first_bits n c.match-checked_sub.bytes.items ≡ first_bits n p = (elim c.match-checked_sub.branch [
      | in-Some w ↦
          let last : w.in-Some.last + 1 ≡ length p = omega (arith, ap length copy, w.in-Some.ensures) in
          let last_is = w.without_pad.ensures ∙ ap (λ x. without_low (pad_of n) (get_or x w.in-Some.last 0))
          (sym copy) in
          rw w.bytes-is (masked_view n w.in-Some.last w.without_pad.result p count last
          (λ k. rw copy (fit k).fits) last_is)
      | in_default w ↦ ap (λ x. first_bits n x.items) w.bytes-is
    ]) in
    same ∙ ap (first_bits n) (copy ∙ c.bytes-padded.ensures.bytes)
    ∙ ap (λ x. first_bits x c.args.bits.bytes.now) c.len-len.ensures
