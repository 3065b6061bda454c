-- What the proof of `from_str` answers by hand.
use Rattle.std.proofs.Common.{sym, ◌∙◌, ◌≡◌, Some, None}
use Rattle.pg_more_types.proofs.Macaddr8Texts.{eight_said, says_eight}
use Rattle.pg_more_types.proofs.macaddr8.text.MacAddress8FromStr.from_str.Goals as goal

pub returns-in-Some : goal.returns-in-Some
returns-in-Some c = eight_said c.args.text.now c.in-Some.bytes (sym c.parse.ensures ∙ c.in-Some.is)

pub returns-in-None : goal.returns-in-None
returns-in-None c = (
  λ bytes says.
      let some : None ≡ Some bytes = sym c.in-None.is ∙ c.parse.ensures ∙ says_eight c.args.text.now bytes says in
      let bad : ⊥ = cc in absurd bad,
  c.no_value.ensures,
)
