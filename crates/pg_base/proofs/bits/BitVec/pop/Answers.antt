-- What the proof of `BitVec::pop` answers by hand.
use Rattle.std.proofs.Common.{length, set, get_or, ◌≡◌, ◌-◌, ◌∙◌, ◌%◌, ◌/◌, ◌∷◌, [], ◌++◌, false, ap, sym, arith}
use Rattle.std.proofs.lemmas.List.{nil_from_length}
use Rattle.std.specs.Vec.{vec_len}
use Rattle.pg_base.specs.Bits.{bit_of, first_bits}
use Rattle.pg_base.proofs.BitLemmas.{byte_read, byte_within, first_bits_len, is_put, tidy_len, dropped_view}
use Rattle.pg_base.proofs.BitLemmas.{dropped_tidy, cleared_view, cleared_tidy}
use Rattle.pg_base.proofs.bits.BitVec.pop.Goals as goal

pub returns-then-self-eq0 : goal.returns-then-self-eq0
returns-then-self-eq0 c =
    let none = nil_from_length c.args.self.now
    (ap length (sym c.self.view_is) ∙ first_bits_len c.self.inside.len c.self.inside.bytes.items
    ∙ c.if-self-eq0.true) in
    (none, none)

pub index-byte-requires : goal.index-byte-requires
index-byte-requires c = byte_within c.self.inside.len (c.self.inside.len - 1) c.self.inside.bytes c.self.invariant
    (omega arith)

pub index_mut-requires : goal.index_mut-requires
index_mut-requires c = byte_within c.self.inside.len (c.self.inside.len - 1) c.self.inside.bytes c.self.invariant
    (omega arith)

pub invariant_of-self : goal.invariant_of-self
invariant_of-self c =
    let n = c.self.inside.len in
    let b = c.self.inside.bytes in
    let k : vec_len b - 1 ≡ (n - 1) / 8 = omega (arith, tidy_len n b.items c.self.invariant, b.ok.0) in
    rw c.pop.ensures.rest (dropped_tidy n (n - 1) b.items c.self.invariant (omega arith)
    (vec_len b - 1) c.if-place-eq0.true k)

pub invariant_of-self-else-place-eq0 : goal.invariant_of-self-else-place-eq0
invariant_of-self-else-place-eq0 c =
    let n = c.self.inside.len in
    let m = n - 1 in
    let b = c.self.inside.bytes in
    let read = byte_read b (m / 8) c.index-byte.result.now
    (byte_within n m b c.self.invariant (omega arith)) c.index-byte.ensures in
    let put = is_put b.items (m / 8) (m % 8) c.with_bit.result c.index-byte.result.now false read c.with_bit.ensures in
    cleared_tidy n m b.items c.self.invariant
    (omega arith) c.with_bit.result c.if-place-eq0.false put c.with_bit.type_inv

pub returns-then-place-eq0 : goal.returns-then-place-eq0
returns-then-place-eq0 c =
    let n = c.self.inside.len in
    let m = n - 1 in
    let b = c.self.inside.bytes in
    let k : vec_len b - 1 ≡ m / 8 = omega (arith, tidy_len n b.items c.self.invariant, b.ok.0) in
    let read = byte_read b (m / 8) c.index-byte.result.now
    (byte_within n m b c.self.invariant (omega arith)) c.index-byte.ensures in
    sym c.self.view_is ∙ dropped_view n m b.items c.self.invariant (omega arith) (vec_len b - 1) c.if-place-eq0.true k ∙
    ap (λ x. first_bits m x ++ bit_of (get_or b.items (m / 8) 0) (m % 8) ∷ []) (sym c.pop.ensures.rest) ∙
    ap (λ x. first_bits m c.pop.new.self.items ++ x ∷ []) (sym (c.bit_of-bit.ensures ∙ ap (λ x. bit_of x (m % 8)) read))

pub returns-else-place-eq0 : goal.returns-else-place-eq0
returns-else-place-eq0 c =
    let n = c.self.inside.len in
    let m = n - 1 in
    let b = c.self.inside.bytes in
    let read = byte_read b (m / 8) c.index-byte.result.now
    (byte_within n m b c.self.invariant (omega arith)) c.index-byte.ensures in
    let put = is_put b.items (m / 8) (m % 8) c.with_bit.result c.index-byte.result.now false read c.with_bit.ensures in
    sym c.self.view_is ∙ cleared_view n m b.items c.self.invariant
    (omega arith) c.with_bit.result c.if-place-eq0.false put c.with_bit.type_inv ∙
    ap (λ x. first_bits m (set b.items (m / 8) c.with_bit.result) ++ x ∷ [])
    (sym (c.bit_of-bit.ensures ∙ ap (λ x. bit_of x (m % 8)) read))
