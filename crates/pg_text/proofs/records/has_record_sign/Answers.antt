-- What the proof of `has_record_sign` answers by hand.
use Rattle.std.proofs.Common.{rules, tests}
use Rattle.std.proofs.lemmas.Iterator.{YieldsList-from_slice}
use Rattle.std.proofs.lemmas.Iterator.Search.{any_from_yields_List}
use Rattle.pg_text.specs.Quotes.{is_record_sign}
use Rattle.pg_text.proofs.records.has_record_sign.Goals as goal

pub returns : goal.returns
returns c =
    any_from_yields_List is_record_sign _ _ _ c.any.ensures.ran (YieldsList-from_slice c.args.text.now cc)
    (λ x b q k. search (rules, tests))
