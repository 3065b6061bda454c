-- What the proof of `extend_by_bits` answers by hand.
use Rattle.std.proofs.Common.{◌∙◌, ◌++◌, ◌∷◌, [], ap, sym, append_assoc}
use Rattle.std.proofs.lemmas.List.{append-nil}
use Rattle.pg_base.proofs.PadLemmas.{packed_parts, packed_none}
use Rattle.pg_base.proofs.protocol.bits.extend_by_bits.Goals as goal

pub returns-in_default-clause-items : goal.returns-in_default-clause-items
returns-in_default-clause-items c =
    rw (packed_none c.args.len c.args.bytes.now c.requires.whole c.in_default.ensures.cases)
    (sym (append-nil c.args.out.now.items))

pub returns-clause-items : goal.returns-clause-items
returns-clause-items c =
    let n = c.args.len in
    let p = c.args.bytes.now in
    let old = c.args.out.now.items in
    let whole = c.in-Some.whole.now in
    let last = c.in-Some.last.now in
    let parts = packed_parts n p whole last c.requires.whole
    (λ k. (c.type_inv.bytes k).fits) c.in-Some.ensures.cases.0 in
    c.extend_reserved-2.ensures.items ∙ ap (λ x. x ++ c.without_pad.result ∷ []) c.extend_reserved.ensures.items ∙
    append_assoc old whole (c.without_pad.result ∷ [])
    ∙ ap (λ x. old ++ x) (ap (λ x. whole ++ x ∷ []) c.without_pad.ensures ∙ sym parts)
