-- What the proof of `comma_of` answers by hand.
use Rattle.std.proofs.Common.{◌≡◌, ◌≤◌, ◌+◌, arith, false, get_or, sym, ◌∙◌}
use Rattle.std.proofs.lemmas.List.{drop_all}
use Rattle.pg_copy.proofs.WordLaws.{depth_within, reached_all, reached_comma, reached_more, reached_none}
use Rattle.pg_copy.specs.Words.{depth_after, divides}
use Rattle.pg_copy.proofs.type_names.comma_of.Goals as goal

pub bytes-init : goal.bytes-init
bytes-init c = record { within = omega arith; reached = reached_none c.args.text.now }

pub bytes-preserved : goal.bytes-preserved
bytes-preserved c =
    let text = c.args.text.now in
    let i = c.bytes.place in
    let byte = get_or text i 0 in
    let depth = c.bytes.depth in
    let is_quoted = c.bytes.is_quoted in
    let inner : divides byte depth is_quoted ≡ false = sym c.divides.ensures ∙ c.if-divides.false in
    let most : depth_after byte depth is_quoted ≤ depth + 1 = depth_within byte depth is_quoted in
    let more = reached_more text i depth is_quoted c.bytes-test.true inner c.bytes.invariant.reached in
    record {
      within = omega (arith, c.depth_after-depth.ensures, most, c.bytes.invariant.within);
      reached = rw (c.depth_after-depth.ensures, c.is_quoted_after-is_quoted.ensures) more;
    }

pub returns-then-divides : goal.returns-then-divides
returns-then-divides c =
    reached_comma c.args.text.now c.bytes.place c.bytes.depth c.bytes.is_quoted c.bytes-test.true
    (sym c.divides.ensures ∙ c.if-divides.true) c.bytes.invariant.reached

pub returns : goal.returns
returns c =
    reached_all c.args.text.now c.bytes.place c.bytes.depth c.bytes.is_quoted
    (drop_all c.bytes.place c.args.text.now c.bytes-test.false) c.bytes.invariant.reached
