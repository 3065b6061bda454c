-- What the proof of `text_prefix` answers by hand.
use Rattle.pg_cells_c.proofs.PushSteps.{long_text}
use Rattle.pg_cells_c.proofs.builders.hstore.text_prefix.Goals as goal

pub returns-then-text-gt-MAX_LEN : goal.returns-then-text-gt-MAX_LEN
returns-then-text-gt-MAX_LEN c = long_text c.args.text.now c.if-text-gt-MAX_LEN.true
