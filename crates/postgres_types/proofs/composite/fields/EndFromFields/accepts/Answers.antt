-- What the proof of `accepts` answers by hand.
use Rattle.std.proofs.Common.{◌∙◌}
use Rattle.postgres_types.proofs.RecordSteps.{none_left}
use Rattle.postgres_types.proofs.composite.fields.EndFromFields.accepts.Goals as goal

pub returns : goal.returns
returns c = c.is_empty.ensures ∙ none_left c.args.fields.now
