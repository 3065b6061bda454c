-- What the proof of `text_is_read_back` answers by hand.
use Rattle.std.proofs.Common.{sym, ◌∙◌}
use Rattle.pg_text.proofs.texts.text_is_read_back.Goals as goal

pub returns : goal.returns
returns c = λ s text v shown. (λ said. said ∙ shown, λ same. same ∙ sym shown)
