-- What the proof of `first_of_16` answers by hand.
use Rattle.streams.proofs.FirstBytes.{first_of_16, none_of_16}
use Rattle.streams.proofs.split.first_of_16.Goals as goal

pub returns-then-mask-eq0 : goal.returns-then-mask-eq0
returns-then-mask-eq0 c = none_of_16 c.args.bytes.now c.args.separator c.args.at c.requires c.if-mask-eq0.true

pub returns : goal.returns
returns c = first_of_16 c.args.bytes.now c.args.separator c.args.at c.requires c.if-mask-eq0.false
