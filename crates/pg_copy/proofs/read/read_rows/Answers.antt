-- What the proof of `read_rows` answers by hand.
use Rattle.std.proofs.Common.{◌≢◌, ◌++◌, ◌∙◌, [], arith, inl, refl, subst, sym, take}
use Rattle.std.proofs.KnownBytes.{Appends-nil, Consumes-nil}
use Rattle.std.specs.Io.KnownBytes.{Appends, Consumes, IsAtEnd}
use Rattle.streams.proofs.Outcomes.{err_always, err_of, err_weaker, ok_of, ok_weaker, on_err}
use Rattle.pg_copy.proofs.ReadingRuns.{begun, cut_off, ended, refused_block, stopped, stopped_anyhow, stopped_part}
use Rattle.pg_copy.proofs.ReadingRuns.{taken, taken_either, taken_part}
use Rattle.pg_tuples.proofs.HeaderLaws.{answered}
use Rattle.pg_tuples.specs.Reading.{EndsInHeader}
use Rattle.pg_tuples.specs.Tuples.{signature}
use Rattle.pg_copy.specs.Outputs.{WritesWhole}
use Rattle.pg_copy.specs.ReadingSteps.{Awaits}
use Rattle.pg_copy.specs.Refusals.{StopsAfter}
use Rattle.pg_copy.specs.Rows.{OfInput}
use Rattle.pg_copy.specs.declared.copy_fault.CopyFault.TheVariants.{Read, Write}
use Rattle.pg_copy.proofs.read.read_rows.Goals as goal

pub reads-init : goal.reads-init
reads-init g c =
    let input = g.R.Read.remaining c.args.input.now in
    let none = c.new-held.ensures.items in
    let start : EndsInHeader [] = inl (signature, refl) in (
      refl,
      c.new-2.ensures.items,
      λ e. none,
      subst EndsInHeader (sym none) start,
      (
        [],
        [],
        (refl, refl, refl),
        subst (Consumes input input) (sym none) (Consumes-nil input),
        Appends-nil (g.W.Write.contents c.args.output.now),
      ),
    )

pub returns-in_default-clause-whole : goal.returns-in_default-clause-whole
returns-in_default-clause-whole g c = λ _. stopped c.args.columns.now _ _ c.reads.reading.place c.reads.reading.row
    c.reads.held.items _ _ c.reads.invariant.4

pub returns-in_default-clause-part : goal.returns-in_default-clause-part
returns-in_default-clause-part g c = stopped_part c.args.columns.now _ _ c.reads.reading.place c.reads.reading.row
    c.reads.held.items _ _ c.reads.invariant.4

pub returns-then-len-eq0-clause-ok : goal.returns-then-len-eq0-clause-ok
returns-then-len-eq0-clause-ok g c =
    let b = g.R.Read.remaining c.reads.input in
    let d = g.R.Read.remaining c.read_block.new.input in
    let nothing : Consumes b d [] = rw c.if-len-eq0.true at c.in-Ok.ensures.bytes.0 in
    let last : IsAtEnd d = c.in-Ok.ensures.bytes.1 c.if-len-eq0.true (omega arith) in
    ok_weaker c.finish.result
    (λ end. ended c.args.columns.now _ _ c.reads.reading.place c.reads.reading.row c.reads.held.items b d _
    c.reads.invariant.4 end (c.reads.invariant.2 end) nothing last) c.finish.ensures.ok

pub returns-then-len-eq0-clause-whole : goal.returns-then-len-eq0-clause-whole
returns-then-len-eq0-clause-whole g c =
    err_always c.finish.result (λ e not_write. stopped c.args.columns.now _ _ c.reads.reading.place
    c.reads.reading.row c.reads.held.items _ _ c.reads.invariant.4)

pub returns-then-len-eq0-clause-part : goal.returns-then-len-eq0-clause-part
returns-then-len-eq0-clause-part g c = on_err c.finish.result _ (stopped_part c.args.columns.now _ _
    c.reads.reading.place c.reads.reading.row c.reads.held.items _ _ c.reads.invariant.4)

pub returns-then-is_err-clause-part : goal.returns-then-is_err-clause-part
returns-then-is_err-clause-part g c =
    let place = c.reads.reading.place in
    let next = c.take_block-taken.new.self.place in
    let held = c.reads.held.items in
    let block = take c.in-Ok.len c.read_block.new.block in
    let new = c.take_block-taken.new.self.lines.items in
    let left = taken_either c.reads.reading.columns.now place next _ _ (held ++ block) c.reads.reading.lines.items
    c.take_block-taken.new.held.items new c.take_block-taken.result c.take_block-taken.ensures.ok
    c.take_block-taken.ensures.err in
    let failed = rw c.as_slice.ensures.value at c.write_whole.ensures.err in
    let w = err_of c.write_whole.result _ failed c.if-is_err.ensures.value in
    taken_part c.args.columns.now _ _ place next _ _ held block left.0 new _ _ _ _ c.reads.invariant.4
    c.in-Ok.ensures.bytes.0 (begun _ _ place next _ _ _ _ left.0 new c.reads.invariant.0
    c.reads.invariant.1 left.1) w.0 w.2

pub returns-in_err-taken-clause-whole : goal.returns-in_err-taken-clause-whole
returns-in_err-taken-clause-whole g c =
    let place = c.reads.reading.place in
    let next = c.take_block-taken.new.self.place in
    let held = c.reads.held.items in
    let block = take c.in-Ok.len c.read_block.new.block in
    let new = c.take_block-taken.new.self.lines.items in
    let left = c.in_err-taken.ensures.err in
    let w : Appends (g.W.Write.contents c.reads.output) (g.W.Write.contents c.write_whole.new.output) new
    = rw c.as_slice.ensures.value at (ok_of c.write_whole.result _ c.write_whole.ensures.ok
    c.if-is_err.ensures.value) in
    let after = taken c.args.columns.now _ _ place next _ _ held block left.0 new _ _ _ _ c.reads.invariant.4
    c.in-Ok.ensures.bytes.0 (begun _ _ place next _ _ _ _ left.0 new c.reads.invariant.0
    c.reads.invariant.1 left.1) w in
    err_always c.from_residual.result (λ e not_write. stopped c.args.columns.now _ _ next _ left.0 _ _ after)

pub returns-in_err-taken-clause-part : goal.returns-in_err-taken-clause-part
returns-in_err-taken-clause-part g c =
    let place = c.reads.reading.place in
    let next = c.take_block-taken.new.self.place in
    let held = c.reads.held.items in
    let block = take c.in-Ok.len c.read_block.new.block in
    let new = c.take_block-taken.new.self.lines.items in
    let left = c.in_err-taken.ensures.err in
    let w : Appends (g.W.Write.contents c.reads.output) (g.W.Write.contents c.write_whole.new.output) new
    = rw c.as_slice.ensures.value at (ok_of c.write_whole.result _ c.write_whole.ensures.ok
    c.if-is_err.ensures.value) in
    let after = taken c.args.columns.now _ _ place next _ _ held block left.0 new _ _ _ _ c.reads.invariant.4
    c.in-Ok.ensures.bytes.0 (begun _ _ place next _ _ _ _ left.0 new c.reads.invariant.0
    c.reads.invariant.1 left.1) w in
    on_err c.from_residual.result _ (stopped_part c.args.columns.now _ _ next _ left.0 _ _ after)

pub reads-preserved : goal.reads-preserved
reads-preserved g c =
    let place = c.reads.reading.place in
    let next = c.take_block-taken.new.self.place in
    let held = c.reads.held.items in
    let block = take c.in-Ok.len c.read_block.new.block in
    let left = c.take_block-taken.new.held.items in
    let new = c.take_block-taken.new.self.lines.items in
    let w : Appends (g.W.Write.contents c.reads.output) (g.W.Write.contents c.write_whole.new.output) new
    = rw c.as_slice.ensures.value at (ok_of c.write_whole.result _ c.write_whole.ensures.ok
    c.if-is_err.ensures.value) in (
      c.take_block-taken.ensures.columns ∙ c.reads.invariant.0,
      c.clear.ensures.items,
      c.in_ok-taken.ensures.end,
      subst (λ x. Awaits x next left) c.reads.invariant.0 c.in_ok-taken.ensures.awaits,
      taken c.args.columns.now _ _ place next _ _ held block left new _ _ _ _ c.reads.invariant.4
          c.in-Ok.ensures.bytes.0
          (begun _ _ place next _ _ _ _ left new c.reads.invariant.0 c.reads.invariant.1 c.in_ok-taken.ensures.ok) w,
    )

pub returns-clause-whole : goal.returns-clause-whole
returns-clause-whole g c = λ _. stopped c.args.columns.now _ _ c.reads.reading.place c.reads.reading.row
    c.reads.held.items _ _ c.reads.invariant.4

pub returns-clause-part : goal.returns-clause-part
returns-clause-part g c = stopped_part c.args.columns.now _ _ c.reads.reading.place c.reads.reading.row
    c.reads.held.items _ _ c.reads.invariant.4

pub returns-in_default-clause-stops : goal.returns-in_default-clause-stops
returns-in_default-clause-stops g c =
    λ _. stopped_anyhow c.args.columns.now _ _ Read (λ bytes lines. tt) _
    (stopped c.args.columns.now _ _ c.reads.reading.place c.reads.reading.row c.reads.held.items _ _
    c.reads.invariant.4)

pub returns-clause-stops : goal.returns-clause-stops
returns-clause-stops g c =
    λ _. stopped_anyhow c.args.columns.now _ _ Read (λ bytes lines. tt) _
    (stopped c.args.columns.now _ _ c.reads.reading.place c.reads.reading.row c.reads.held.items _ _
    c.reads.invariant.4)

pub returns-then-len-eq0-clause-stops : goal.returns-then-len-eq0-clause-stops
returns-then-len-eq0-clause-stops g c =
    let b = g.R.Read.remaining c.reads.input in
    let d = g.R.Read.remaining c.read_block.new.input in
    let nothing : Consumes b d [] = rw c.if-len-eq0.true at c.in-Ok.ensures.bytes.0 in
    let last : IsAtEnd d = c.in-Ok.ensures.bytes.1 c.if-len-eq0.true (omega arith) in
    let a = g.R.Read.remaining c.args.input.now in
    let u = g.W.Write.contents c.args.output.now in
    let v = g.W.Write.contents c.reads.output in
    err_weaker c.finish.result
    (λ f finished not_write. subst (λ x. OfInput a (λ bytes. WritesWhole (λ lines. StopsAfter
    c.args.columns.now bytes lines x) u v))
    (sym finished.0)
    (cut_off c.args.columns.now a u c.reads.reading.place c.reads.reading.row c.reads.held.items b d v
    c.reads.invariant.4
    c.reads.invariant.3 finished.1 nothing last)) c.finish.ensures.err

pub returns-in_err-taken-clause-stops : goal.returns-in_err-taken-clause-stops
returns-in_err-taken-clause-stops g c =
    let columns = c.args.columns.now in
    let place = c.reads.reading.place in
    let next = c.take_block-taken.new.self.place in
    let held = c.reads.held.items in
    let block = take c.in-Ok.len c.read_block.new.block in
    let new = c.take_block-taken.new.self.lines.items in
    let left = c.in_err-taken.ensures.err in
    let f = c.in_err-taken.field-0.0 in
    let a = g.R.Read.remaining c.args.input.now in
    let u = g.W.Write.contents c.args.output.now in
    let written = g.W.Write.contents c.write_whole.new.output in
    let w : Appends (g.W.Write.contents c.reads.output) (g.W.Write.contents c.write_whole.new.output) new
    = rw c.as_slice.ensures.value at (ok_of c.write_whole.result _ c.write_whole.ensures.ok
    c.if-is_err.ensures.value) in
    let after = taken columns a u place next _ _ held block left.0 new _ _ _ _ c.reads.invariant.4
    c.in-Ok.ensures.bytes.0 (begun _ _ place next _ _ _ _ left.0 new c.reads.invariant.0
    c.reads.invariant.1 left.1) w in
    answered (λ e. e ≢ Write → OfInput a (λ bytes. WritesWhole (λ lines. StopsAfter columns bytes lines e) u written))
    c.from_residual.result f c.from_residual.ensures.1
    (λ not_write. refused_block columns c.reads.reading.columns.now a u place next c.reads.reading.row
    c.take_block-taken.new.self.row held block c.reads.reading.lines.items new (g.R.Read.remaining c.reads.input)
    (g.R.Read.remaining c.read_block.new.input) (g.W.Write.contents c.reads.output) written f c.reads.invariant.4
    c.in-Ok.ensures.bytes.0 w c.reads.invariant.0 c.reads.invariant.1
    (stopped columns a u next _ left.0 _ _ after) c.in_err-taken.ensures.refused)
