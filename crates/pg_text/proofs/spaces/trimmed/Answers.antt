-- What the proof of `trimmed` answers by hand.
use Rattle.std.proofs.Common.{refl}
use Rattle.std.proofs.lemmas.Str.Ascii.{trim_ascii_is}
use Rattle.pg_text.specs.Spaces.{trimmed_start}
use Rattle.pg_text.proofs.spaces.trimmed.Goals as goal

pub returns : goal.returns
returns c =
    trim_ascii_is c.args.text.now c.trim_ascii.result.now (trimmed_start c.args.text.now) refl c.trim_ascii.ensures.value
