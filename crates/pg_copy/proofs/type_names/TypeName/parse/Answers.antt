-- What the proof of `TypeName::parse` answers by hand.
use Rattle.std.proofs.Common.{◌≡◌, ◌++◌, ap, arith, codes, suc, sym, ◌∙◌}
use Rattle.std.proofs.lemmas.Bool.{lt-ltb}
use Rattle.pg_copy.proofs.type_names.TypeName.parse.Goals as goal

pub loop-before-preserved : goal.loop-before-preserved
loop-before-preserved c =
    let found = c.in-Some.ensures.cases in
    let cut = c.loop-before.invariant.1 in
    let name = c.loop-before.name.now in
    let before = c.in-Some.before.now in
    let ends : name ≡ before ++ codes "[]" = found.1.1 ∙ ap (λ s. s ++ codes "[]") (sym found.2) in (
      c.trim_end-name.utf8,
      (
        suc cut.0,
        (name, before, cut.1, ends, c.trim_end-name.ensures.trim),
        sym
            (lt-ltb 0 (suc cut.0) (omega arith)),
      ),
    )
