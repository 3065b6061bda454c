-- What the proof of `with_bit` answers by hand.
use Rattle.std.proofs.Common.{cond, ◌==◌, ap, sym, ◌∙◌}
use Rattle.pg_base.specs.Bits.{bit_of}
use Rattle.pg_base.proofs.BitLemmas.{set_bit, clear_bit}
use Rattle.pg_base.proofs.bits.with_bit.Goals as goal

pub returns-then-bit : goal.returns-then-bit
returns-then-bit c = λ at h. set_bit c.args.byte c.args.place at c.requires h
    ∙ ap (λ t. cond (at == c.args.place) t (bit_of c.args.byte at)) (sym c.if-bit.true)

pub returns-else-bit : goal.returns-else-bit
returns-else-bit c = λ at h. clear_bit c.args.byte c.args.place at c.requires h
    ∙ ap (λ t. cond (at == c.args.place) t (bit_of c.args.byte at)) (sym c.if-bit.false)
