-- What the proof of `take_head` answers by hand.
use Rattle.std.proofs.Common.{subst, sym}
use Rattle.pg_copy.proofs.ReadingLaws.{head_taken}
use Rattle.pg_copy.specs.ReadingSteps.{Advances, AwaitsHeader}
use Rattle.pg_tuples.specs.Reading.{EndsInHeader, TakesHeader}
use Rattle.pg_copy.specs.declared.read.Place.TheVariants.{Extension}
use Rattle.pg_copy.proofs.read.Reading.take_head.Goals as goal

pub returns-clause-steps : goal.returns-clause-steps
returns-clause-steps c =
    let columns = c.args.self.now.columns.now in
    let lines = c.args.self.now.lines.items in
    let old = c.args.bytes.now.now in
    let count = c.args.self.now.row in
    let new = c.take_header.new.bytes.now in
    let head = subst (λ x. TakesHeader old x new) c.in-Some.is c.in_ok-len.ensures.ok in
    subst (λ p. Advances columns p count old lines (Extension c.in-Some.len) count new lines) (sym c.in-Header.is)
    (head_taken columns count old new lines c.in-Some.len head)

pub returns-in_default-2-clause-awaits : goal.returns-in_default-2-clause-awaits
returns-in_default-2-clause-awaits c =
    let old = c.args.bytes.now.now in
    let new = c.take_header.new.bytes.now in
    let head = subst (λ x. TakesHeader old x new) c.in_default-2.is c.in_ok-len.ensures.ok in
    subst (λ p. AwaitsHeader p new) (sym c.in-Header.is) (subst EndsInHeader (sym head.1) head.0)
