-- What the proof of `BitVec::push` answers by hand.
use Rattle.std.proofs.Common.{length, ◌≡◌, ◌+◌, ◌∙◌, ◌%◌, ◌/◌, ◌<◌, ◌∷◌, [], ◌++◌, false, ap, sym, refl, arith}
use Rattle.std.specs.Prelude.{nat_lt, List, Bool, true, Result, Ok, Err, ⊤, IsErr}
use Rattle.std.specs.Result.{IsErrAnd}
use Rattle.pg_types.specs.declared.fault.Fault.{Fault}
use Rattle.pg_types.specs.declared.fault.Fault.TheVariants.{Memory}
use Rattle.pg_types.specs.Faults.{refusal_of}
use Rattle.std.proofs.lemmas.Bool.Decides.{nat_tests}
use Rattle.pg_base.specs.Bits.{Pushes, first_bits, most_bits}
use Rattle.pg_base.proofs.BitLemmas.{byte_read, trailing_byte, first_bits_len, is_put, room_in_last, pushed_view}
use Rattle.pg_base.proofs.BitLemmas.{pushed_tidy, next_view, next_tidy}
use Rattle.pg_base.proofs.bits.BitVec.push.Goals as goal
use Rattle.pg_base.proofs.bits.BitVec.push.Goals.{then-place-eq0+in_ok-push, else-place-eq0}

pub returns-then-self : goal.returns-then-self
returns-then-self c =
    let count : length c.args.self.now ≡ c.self.inside.len = ap length (sym c.self.view_is)
    ∙ first_bits_len c.self.inside.len c.self.inside.bytes.items in
    let full : nat_lt (length c.args.self.now) most_bits ≡ false =
    (let g = c.if-self.true in grind (arith, nat_tests)) in
    (refl, rw full refl)

pushes_nothing : (old new : List Bool) (bit : Bool) (r : Result ⊤ Fault) → new ≡ old → length old < most_bits → IsErr r
    → IsErrAnd r (λ f. f ≡ Memory) → Pushes old bit new r
pushes_nothing old new bit (Ok done) e h is and = absurd (cc)
pushes_nothing old new bit (Err f) e h is and =
    let room : nat_lt (length old) most_bits ≡ true = grind (arith, nat_tests) in
    (e, rw room (ap refusal_of and))

pub returns-in_err-push : goal.returns-in_err-push
returns-in_err-push c =
    let count : length c.args.self.now ≡ c.self.inside.len = ap length (sym c.self.view_is)
    ∙ first_bits_len c.self.inside.len c.self.inside.bytes.items in
    let same = ap (first_bits c.self.inside.len) c.in_err-push.ensures.items ∙ c.self.view_is in
    pushes_nothing c.args.self.now (first_bits c.self.inside.len c.push.new.self.items) c.args.bit
    c.from_residual.result same
    (omega arith) c.from_residual.ensures.0
    c.from_residual.ensures.1

pub index-requires : goal.index-requires
index-requires c = trailing_byte c.self.inside.len c.self.inside.bytes c.self.invariant c.if-place-eq0.false

pub index_mut-requires : goal.index_mut-requires
index_mut-requires c = trailing_byte c.self.inside.len c.self.inside.bytes c.self.invariant c.if-place-eq0.false

pub invariant_of-self-2 : goal.invariant_of-self-2
invariant_of-self-2 c =
    let n = c.self.inside.len in
    let b = c.self.inside.bytes in
    elim c.if-place-eq0.branch [
      | then-place-eq0+in_ok-push w ↦
          rw (w.self-inside-is, w.in_ok-push.ensures.items)
          (next_tidy n b.items c.self.invariant w.with_bit.result c.args.bit w.if-place-eq0.true w.with_bit.ensures
          w.with_bit.type_inv)
      | else-place-eq0 w ↦
          let read = byte_read b (n / 8) w.index.result.now
          (trailing_byte n b c.self.invariant w.if-place-eq0.false) w.index.ensures in
          let put = is_put b.items (n / 8) (n % 8) w.with_bit-else-place-eq0.result w.index.result.now c.args.bit read
          w.with_bit-else-place-eq0.ensures in
          rw w.self-inside-is
          (pushed_tidy n b.items c.self.invariant b.items w.with_bit-else-place-eq0.result c.args.bit
          (room_in_last n b.items c.self.invariant w.if-place-eq0.false) put
          w.with_bit-else-place-eq0.type_inv)
    ]

pub returns : goal.returns
returns c =
    let n = c.self.inside.len in
    let b = c.self.inside.bytes in
    let bit = c.args.bit in
    let count : length c.args.self.now ≡ n = ap length (sym c.self.view_is) ∙ first_bits_len n b.items in
    let view : first_bits (c.if-place-eq0.self-inside.len + 1) c.if-place-eq0.self-inside.bytes.items
    ≡ first_bits n b.items ++ bit ∷ [] = (elim c.if-place-eq0.branch [
      | then-place-eq0+in_ok-push w ↦
          rw (w.self-inside-is, w.in_ok-push.ensures.items)
          (next_view n b.items c.self.invariant w.with_bit.result bit w.if-place-eq0.true w.with_bit.ensures
          w.with_bit.type_inv)
      | else-place-eq0 w ↦
          let read = byte_read b (n / 8) w.index.result.now
          (trailing_byte n b c.self.invariant w.if-place-eq0.false) w.index.ensures in
          let put = is_put b.items (n / 8) (n % 8) w.with_bit-else-place-eq0.result w.index.result.now bit read
          w.with_bit-else-place-eq0.ensures in
          rw w.self-inside-is
          (pushed_view n b.items c.self.invariant b.items w.with_bit-else-place-eq0.result bit
          (room_in_last n b.items c.self.invariant w.if-place-eq0.false) put
          w.with_bit-else-place-eq0.type_inv)
    ]) in
    (omega arith, view ∙ ap (λ v. v ++ bit ∷ []) c.self.view_is)
