-- What the proof of `take_offset` answers by hand.
use Rattle.std.proofs.Common.{inl, inr, refl, subst}
use Rattle.std.proofs.lemmas.Option.{IfSome_then}
use Rattle.pg_text.specs.Scans.{TakesSigned}
use Rattle.pg_text.proofs.date_forms.take_offset.Goals as goal

pub returns-then-take_utc : goal.returns-then-take_utc
returns-then-take_utc c = (c.skip_space.new.scanner.rest.now, c.skip_space.ensures, inl (c.if-take_utc.ensures, refl))

pub returns : goal.returns
returns c =
    IfSome_then c.take_signed.result c.take_signed.ensures (λ seconds said. (
      c.skip_space.new.scanner.rest.now,
      c.skip_space.ensures,
      inr (subst (λ text. TakesSigned text seconds c.take_signed.new.scanner.rest.now) c.if-take_utc.ensures said),
    ))
