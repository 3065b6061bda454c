-- What the proof of `HashMapStringOptionStringFromSql::from_sql` answers by hand.
use Rattle.std.proofs.Common.{◌++◌, ◌∷◌, [], string_bytes}
use Rattle.std.proofs.lemmas.Map.Text.{hash_map_updates_text}
use Rattle.std.proofs.lemmas.Option.{IfSome_then}
use Rattle.std.proofs.lemmas.Result.{err_from_is_err_and}
use Rattle.pg_types.specs.Faults.{refusal_of}
use Rattle.pg_base.specs.Hstore.{Entry, borrowed_entry}
use Rattle.pg_base.proofs.HstoreLaws.{entry_fault, read_next}
use Rattle.pg_read.proofs.LastEntries.{put_in}
use Rattle.pg_read.proofs.hstore.HashMapStringOptionStringFromSql.from_sql.Goals as goal

pub returns-in_err-key-clause-outcome : goal.returns-in_err-key-clause-outcome
returns-in_err-key-clause-outcome g c =
    let p = err_from_is_err_and c.from_residual-in_err-key.result c.from_residual-in_err-key.ensures.1 in
    let so_far = c.loop-entry.invariant in
    let damaged = rw c.in_err-key.was at c.in-Some.ensures in
    rw (p.1, p.2) (IfSome_then (refusal_of c.in_err-key.field-0.0) damaged.0
    (λ r e. entry_fault c.args.raw.now c.in_ok-entries.entries c.loop-entry.entries so_far.0 r
    c.in_ok-entries.ensures.outcome so_far.1 e))

pub loop-entry-preserved : goal.loop-entry-preserved
loop-entry-preserved g c =
    let so_far = c.loop-entry.invariant in
    let entry : Entry = borrowed_entry (c.in_ok-key.key, c.in_ok-key.value) in
    let taken = rw c.in_ok-key.was at c.in-Some.ensures in
    let puts = hash_map_updates_text (string_bytes c.in_ok-key-2.key) c.loop-entry.map c.insert.new.self _
    c.in_ok-insert.ensures.updates in (
      so_far.0 ++ entry ∷ [],
      read_next c.in_ok-entries.entries c.loop-entry.entries c.next.new.self so_far.0 entry taken.front so_far.1
          taken.fewer taken.is taken.spells,
      put_in c.loop-entry.map c.insert.new.self so_far.0 entry _ c.in_ok-value.value so_far.2 puts
          c.in_ok-key-2.ensures.ok c.in_ok-value.ensures.copy,
    )
