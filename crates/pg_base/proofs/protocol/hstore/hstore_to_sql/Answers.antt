-- What the proof of `hstore_to_sql` answers by hand.
use Rattle.std.proofs.Common.{◌+◌, ◌≤◌, ◌++◌, List, ℕ, length, ap, ◌∙◌, arith, append_assoc, length-append}
use Rattle.pg_base.specs.Counts.{number_width}
use Rattle.pg_base.proofs.HstoreLengths.{has_room, entries_next}
use Rattle.pg_base.proofs.Concat.{no_refusal, items_and_spare}
use Rattle.pg_base.proofs.protocol.hstore.hstore_to_sql.Goals as goal

pub returns-in_err-text_frame_to_sql : goal.returns-in_err-text_frame_to_sql
returns-in_err-text_frame_to_sql c =
    let all = c.in_ok-hstore_len.ensures in
    let so_far = c.loop-key.invariant in
    let enough : length all.0 ≤ c.int4_to_sql.new.out.spare + number_width =
    omega (arith, all.2, c.in_ok-reserve.ensures.spare.1, c.in_ok-int4_to_sql.ensures.1) in
    let room = has_room c.args.entries.now c.loop-key.key-index _ so_far.bytes all.0 c.int4_to_sql.new.out.spare
    c.loop-key.out.spare c.loop-key-test.true so_far.bytes_are all.1 so_far.spare enough in
    absurd (no_refusal _ room.key _ _ _ room.key_is (omega (arith, room.fits)) c.in_err-text_frame_to_sql.ensures)

pub returns-in_err-text_frame_to_sql-2 : goal.returns-in_err-text_frame_to_sql-2
returns-in_err-text_frame_to_sql-2 c =
    let all = c.in_ok-hstore_len.ensures in
    let so_far = c.loop-key.invariant in
    let enough : length all.0 ≤ c.int4_to_sql.new.out.spare + number_width =
    omega (arith, all.2, c.in_ok-reserve.ensures.spare.1, c.in_ok-int4_to_sql.ensures.1) in
    let room = has_room c.args.entries.now c.loop-key.key-index _ so_far.bytes all.0 c.int4_to_sql.new.out.spare
    c.loop-key.out.spare c.loop-key-test.true so_far.bytes_are all.1 so_far.spare enough in
    let key = items_and_spare _ room.key _ _ room.key_is c.in_ok-text_frame_to_sql.ensures in
    absurd (no_refusal _ room.value _ _ _ room.value_is
    (omega (arith, room.fits, key.1)) c.in_err-text_frame_to_sql-2.ensures)

pub loop-key-preserved : goal.loop-key-preserved
loop-key-preserved c =
    let all = c.in_ok-hstore_len.ensures in
    let so_far = c.loop-key.invariant in
    let enough : length all.0 ≤ c.int4_to_sql.new.out.spare + number_width =
    omega (arith, all.2, c.in_ok-reserve.ensures.spare.1, c.in_ok-int4_to_sql.ensures.1) in
    let room = has_room c.args.entries.now c.loop-key.key-index _ so_far.bytes all.0 c.int4_to_sql.new.out.spare
    c.loop-key.out.spare c.loop-key-test.true so_far.bytes_are all.1 so_far.spare enough in
    let key = items_and_spare _ room.key _ _ room.key_is c.in_ok-text_frame_to_sql.ensures in
    let value = items_and_spare _ room.value _ _ room.value_is c.in_ok-text_frame_to_sql-2.ensures in
    let start : List ℕ = c.int4_to_sql.new.out.items in
    let frames : List ℕ = room.key ++ room.value in
    let both = length-append room.key room.value in
    record {
      bytes = so_far.bytes ++ frames;
      bytes_are =
          entries_next c.args.entries.now c.loop-key.key-index _ so_far.bytes room.key room.value
          c.loop-key-test.true so_far.bytes_are room.key_is room.value_is;
      items =
          value.0 ∙ ap (λ (s : List ℕ). s ++ room.value) key.0 ∙ append_assoc c.loop-key.out.items room.key room.value
          ∙ ap (λ (s : List ℕ). s ++ frames) so_far.items ∙ append_assoc start so_far.bytes frames;
      spare =
          omega (arith, so_far.spare, key.1, value.1, length-append so_far.bytes frames, both);
    }
