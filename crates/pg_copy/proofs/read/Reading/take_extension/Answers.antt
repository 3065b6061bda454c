-- What the proof of `take_extension` answers by hand.
use Rattle.std.proofs.Common.{◌-◌, [], arith, length, subst, sym, take-append-drop}
use Rattle.pg_copy.proofs.ReadingLaws.{extension_part, extension_taken}
use Rattle.pg_copy.specs.ReadingSteps.{Advances}
use Rattle.pg_copy.specs.declared.read.Place.TheVariants.{Extension, Tuples}
use Rattle.pg_copy.proofs.read.Reading.take_extension.Goals as goal

pub returns-in-Some-clause-steps : goal.returns-in-Some-clause-steps
returns-in-Some-clause-steps c =
    let columns = c.args.self.now.columns.now in
    let lines = c.args.self.now.lines.items in
    let old = c.args.bytes.now.now in
    let count = c.args.self.now.row in
    let new = c.in-Some.rest.now in
    subst (λ p. Advances columns p count old lines Tuples count new lines) (sym c.in-Extension.is)
    (extension_taken columns count old c.in-Some.field-0-0.now new lines c.in-Extension.len c.in-Some.ensures.cases.3
    (rw (c.in-Some.ensures.cases.1, c.in-Some.ensures.cases.2) (sym (take-append-drop c.in-Extension.len old))))

pub returns-in-None-clause-steps : goal.returns-in-None-clause-steps
returns-in-None-clause-steps c =
    let columns = c.args.self.now.columns.now in
    let lines = c.args.self.now.lines.items in
    let old = c.args.bytes.now.now in
    let count = c.args.self.now.row in
    let left = c.in-Extension.len - length old in
    subst (λ p. Advances columns p count old lines (Extension left) count [] lines) (sym c.in-Extension.is)
    (extension_part columns count old lines c.in-Extension.len left (omega (arith, c.in-None.ensures.cases)))
