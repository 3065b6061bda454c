-- What the proof of `push_entries` answers by hand.
use Rattle.std.proofs.Common.{[], None, get_or}
use Rattle.std.proofs.lemmas.List.{get_or_default}
use Rattle.postgres_types.specs.Hstore.{borrowed_entry}
use Rattle.pg_text.proofs.Maps.{BorrowedEntry, entries_step}
use Rattle.pg_text.proofs.hstore.push_entries.Goals as goal

pub loop-place-preserved : goal.loop-place-preserved
loop-place-preserved c =
    let entries = c.args.entries.now in
    let i = c.loop-place.place in
    let none : BorrowedEntry = (record { ref_ptr = (0, 0); now = [] }, None) in
    let entry = get_or entries i none in
    entries_step borrowed_entry entries i entry c.args.out.now.items c.loop-place.out.items
    c.push_comma.new.out.items c.push_entry.new.out.items c.loop-place-test.true
    (get_or_default entries i none entry c.loop-place-test.true) c.loop-place.invariant c.in_ok-push_comma.ensures
    c.in_ok-push_entry.ensures
