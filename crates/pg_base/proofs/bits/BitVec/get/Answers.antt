-- What the proof of `BitVec::get` answers by hand.
use Rattle.std.proofs.Common.{◌∙◌, ◌%◌, ◌/◌, Some, ap, sym}
use Rattle.std.specs.List.{slice_get}
use Rattle.pg_base.specs.Bits.{bit_of}
use Rattle.pg_base.proofs.BitLemmas.{byte_read, byte_within, first_bits_get, first_bits_none}
use Rattle.pg_base.proofs.bits.BitVec.get.Goals as goal

pub index-requires : goal.index-requires
index-requires c = byte_within c.self.inside.len c.args.i c.self.inside.bytes c.self.invariant c.if-i-self.true

pub returns-then-i-self : goal.returns-then-i-self
returns-then-i-self c =
    let i = c.args.i in
    let n = c.self.inside.len in
    let bytes = c.self.inside.bytes in
    let within = byte_within n i bytes c.self.invariant c.if-i-self.true in
    let read = byte_read bytes (i / 8) c.index.result.now within c.index.ensures in
    ap (λ x. Some x) (c.bit_of.ensures ∙ ap (λ x. bit_of x (i % 8)) read)
    ∙ sym (first_bits_get n bytes.items i c.if-i-self.true) ∙
    ap (λ v. slice_get v i) c.self.view_is

pub returns-else-i-self : goal.returns-else-i-self
returns-else-i-self c =
    sym (first_bits_none c.self.inside.len c.self.inside.bytes.items c.args.i c.if-i-self.false)
    ∙ ap (λ v. slice_get v c.args.i) c.self.view_is
