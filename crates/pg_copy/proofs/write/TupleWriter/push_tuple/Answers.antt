-- What the proof of `TupleWriter::push_tuple` answers by hand.
use Rattle.std.proofs.Common.{rules, ◌≡◌, ◌+◌, ◌≤◌, ℕ, false, is_some, List, None, Some, ◌++◌, length, refl}
use Rattle.std.proofs.Common.{sym, subst, arith}
use Rattle.std.proofs.lemmas.List.{take_all}
use Rattle.pg_copy.specs.TextLines.{fields_of}
use Rattle.pg_copy.specs.WrittenCells.{text_of}
use Rattle.pg_copy.specs.WrittenRows.{CountFault}
use Rattle.pg_copy.specs.declared.columns.Column.{Column}
use Rattle.pg_copy.proofs.RowLaws.{SoFar, count_refused, has_more, plain_field, so_far_all, so_far_next}
use Rattle.pg_copy.proofs.RowLaws.{so_far_none}
use Rattle.pg_copy.proofs.TextLaws.{none_found}
use Rattle.pg_copy.proofs.write.TupleWriter.push_tuple.Goals as goal

pub loop-place-init : goal.loop-place-init
loop-place-init c =
    let start : List ℕ = c.args.pending.now.items ++ c.args.self.now.count in (
      refl,
      subst (SoFar c.args.self.now.columns.now c.args.line.now 0 (Some c.args.line.now) start)
          (sym c.in_ok-extend_from_slice.ensures.ok) (so_far_none c.args.self.now.columns.now c.args.line.now start),
    )

pub push_field-requires : goal.push_field-requires
push_field-requires c = λ plain.
    let columns : List Column = c.args.self.now.columns.now in
    let line : List ℕ = c.args.line.now in
    let start : List ℕ = c.args.pending.now.items ++ c.args.self.now.count in
    let mid : List ℕ = c.loop-place.pending.items in
    let place : ℕ = c.loop-place.place in
    let s : SoFar columns line place (Some c.in-Some.fields.now) start mid
    = subst (λ (rest : _). SoFar columns line place (text_of rest) start mid) {y = Some c.in-Some.fields} c.in-Some.is
    c.loop-place.invariant.1 in
    let none : is_some c.memchr2.result ≡ false = search rules in
    plain_field columns line c.in-Some.fields.now c.split_field.result.0.now (text_of c.split_field.result.1) place
    start mid s c.split_field.ensures (none_found line c.memchr2.result c.memchr2.ensures none)

pub loop-place-preserved : goal.loop-place-preserved
loop-place-preserved c =
    let columns : List Column = c.args.self.now.columns.now in
    let line : List ℕ = c.args.line.now in
    let start : List ℕ = c.args.pending.now.items ++ c.args.self.now.count in
    let mid : List ℕ = c.loop-place.pending.items in
    let place : ℕ = c.loop-place.place in
    let s : SoFar columns line place (Some c.in-Some.fields.now) start mid
    = subst (λ (rest : _). SoFar columns line place (text_of rest) start mid) {y = Some c.in-Some.fields} c.in-Some.is
    c.loop-place.invariant.1 in (
      c.loop-place.invariant.0,
      so_far_next columns line c.in-Some.fields.now c.split_field.result.0.now
          (text_of c.split_field.result.1) place c.column-item.result c.column-item.result start mid
          c.push_field.new.out.items s c.loop-place-test.true c.column-item.is c.split_field.ensures
          c.in_default-push_field.ensures.ok,
    )

pub returns-in-Some-rest-clause-refused : goal.returns-in-Some-rest-clause-refused
returns-in-Some-rest-clause-refused c =
    let columns : List Column = c.args.self.now.columns.now in
    let line : List ℕ = c.args.line.now in
    let start : List ℕ = c.args.pending.now.items ++ c.args.self.now.count in
    let mid : List ℕ = c.loop-place.pending.items in
    let place : ℕ = c.loop-place.place in
    let s : SoFar columns line place (Some c.in-Some-rest.field-0.now) start mid
    = subst (λ (rest : _). SoFar columns line place (text_of rest) start mid) {y = Some c.in-Some-rest.field-0}
    c.in-Some-rest.is c.loop-place.invariant.1 in
    let more : place + 1 ≤ length (fields_of line) =
    has_more columns line c.in-Some-rest.field-0.now place start mid s in
    count_refused columns line c.count_fault-in-Some-rest.result
    (subst (λ (l : List Column). CountFault (length l) (length (fields_of line)) c.count_fault-in-Some-rest.result)
    c.loop-place.invariant.0 c.count_fault-in-Some-rest.ensures) (λ e. omega arith)

pub returns-in-None-clause-ok : goal.returns-in-None-clause-ok
returns-in-None-clause-ok c =
    let columns : List Column = c.args.self.now.columns.now in
    let line : List ℕ = c.args.line.now in
    let start : List ℕ = c.args.pending.now.items ++ c.args.self.now.count in
    let mid : List ℕ = c.loop-place.pending.items in
    let place : ℕ = c.loop-place.place in
    let s : SoFar columns line place None start mid
    = subst (λ (rest : _). SoFar columns line place (text_of rest) start mid) {y = None} c.in-None.is
    c.loop-place.invariant.1 in
    so_far_all columns line place c.args.pending.now.items c.args.self.now.count mid s c.args.self.now.fits
    c.args.self.now.counted (take_all place columns (omega (arith, c.loop-place-test.false)))
