-- What the proof of `same_name` answers by hand.
use Rattle.std.proofs.Common.{rules, ap, sym, ◌∙◌}
use Rattle.std.proofs.lemmas.Bool.{and_from, and_parts}
use denote.Enum.Bare.{same_true, true_same}
use Rattle.named_types.specs.contracts.base.Base.{the_type as base}
use Rattle.named_types.specs.contracts.name.Form.{the_type as form}
use Rattle.named_types.specs.declared.name.Name.{Name}
use Rattle.named_types.proofs.laws.same_name.Goals as goal

pub returns : goal.returns
returns c =
    let a : Name = c.args.a.now in
    let b : Name = c.args.b.now in (
      λ same.
          let parts = and_parts _ _ (sym c.eq.ensures ∙ same) in
          let bases = same_true base (search rules) a.base b.base parts.0 in
          let forms = same_true form (search rules) a.form b.form parts.1 in
          λ i. record { base = bases i; form = forms i },
      λ e.
          c.eq.ensures ∙ and_from _ _ (true_same base a.base b.base (ap (λ (n : Name). n.base) e))
          (true_same form a.form b.form (ap (λ (n : Name). n.form) e)),
    )
