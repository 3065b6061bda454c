-- What the proof of `MacAddress8::text` answers by hand.
use Rattle.std.proofs.Common.{ap, rules, ◌∙◌}
use Rattle.pg_base.specs.NetworkTexts.{macaddr_text}
use Rattle.pg_more_types.proofs.Macaddr8Texts.{text_of}
use Rattle.pg_more_types.proofs.macaddr8.MacAddress8.text.Goals as goal

pub returns : goal.returns
returns c =
    text_of c.self.inside.0 _ _ _ _ _ _ _ _ _ _ _ _ _ _ _ _ (search rules) c.pair-a.ensures c.pair-b.ensures
    c.pair-c.ensures c.pair-d.ensures c.pair-e.ensures c.pair-f.ensures c.pair-g.ensures c.pair-h.ensures
    ∙ ap macaddr_text c.self.view_is
