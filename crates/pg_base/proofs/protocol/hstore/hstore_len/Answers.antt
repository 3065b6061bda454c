-- What the proof of `hstore_len` answers by hand.
use Rattle.std.proofs.Common.{◌++◌, List, ℕ, arith, length-append}
use Rattle.std.proofs.lemmas.Result.{err_from_is_err_and}
use Rattle.pg_base.proofs.HstoreLengths.{entries_next, key_none, value_none, short_list}
use Rattle.pg_base.proofs.protocol.hstore.hstore_len.Goals as goal

pub returns-in_err-len : goal.returns-in_err-len
returns-in_err-len c =
    let p = err_from_is_err_and c.from_residual.result c.from_residual.ensures.1 in
    let so_far = c.loop-key.invariant in
    rw (p.1, p.2) (
      c.in_err-len.ensures.len.0,
      key_none c.args.entries.now c.loop-key.key-index _ so_far.bytes
          c.loop-key-test.true so_far.bytes_are c.in_err-len.ensures.len.1,
    )

pub returns-in_err-len-2 : goal.returns-in_err-len-2
returns-in_err-len-2 c =
    let p = err_from_is_err_and c.from_residual-in_err-len-2.result c.from_residual-in_err-len-2.ensures.1 in
    let so_far = c.loop-key.invariant in
    rw (p.1, p.2) (
      c.in_err-len-2.ensures.len.0,
      value_none c.args.entries.now c.loop-key.key-index _ so_far.bytes
          c.loop-key-test.true so_far.bytes_are c.in_err-len-2.ensures.len.1,
    )

pub loop-key-preserved : goal.loop-key-preserved
loop-key-preserved c =
    let so_far = c.loop-key.invariant in
    let key = c.in_ok-len.ensures.len in
    let value = c.in_ok-len-2.ensures.len in
    let frames : List ℕ = key.0 ++ value.0 in
    let many = length-append so_far.bytes frames in
    let both = length-append key.0 value.0 in
    record {
      bytes = so_far.bytes ++ frames;
      bytes_are =
          entries_next c.args.entries.now c.loop-key.key-index _ so_far.bytes key.0 value.0
          c.loop-key-test.true so_far.bytes_are key.1 value.1;
      whole = omega (arith, so_far.whole, key.2, value.2, many, both);
      short =
          omega (
            arith,
            so_far.short,
            key.2,
            c.in_ok-len.ensures.short,
            value.2,
            c.in_ok-len-2.ensures.short,
            many,
            both,
          );
    }

pub returns : goal.returns
returns c =
    let so_far = c.loop-key.invariant in (
      _,
      short_list c.args.entries.now c.loop-key.key-index so_far.bytes c.if-entries-gt-MAX_LEN.false
          c.loop-key-test.false so_far.bytes_are,
      omega (arith, so_far.whole),
    )
