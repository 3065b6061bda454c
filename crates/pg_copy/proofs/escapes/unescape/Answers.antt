-- What the proof of `unescape` answers by hand.
use Rattle.std.proofs.Common.{◌≡◌, ◌++◌, ◌∷◌, [], ℕ, List, true, false, refl, get_or, ◌∙◌, sym, arith}
use Rattle.std.proofs.lemmas.List.{drop_all}
use Rattle.pg_copy.specs.TextLines.{is_refused_byte, letter_byte}
use Rattle.pg_copy.proofs.TextLaws.{SoFar, so_far_none, so_far_backslash, so_far_letter, so_far_plain, so_far_all}
use Rattle.pg_copy.proofs.escapes.unescape.Goals.{then-is_escaped+else-is_refused+in_ok-push, else-is_escaped+in-92}
use Rattle.pg_copy.proofs.escapes.unescape.Goals.{else-is_escaped+in_default+in_ok-push-in_default}
use Rattle.pg_copy.proofs.escapes.unescape.Goals as goal

pub bytes-init : goal.bytes-init
bytes-init c = so_far_none c.args.text.now c.args.out.now.items

pub bytes-preserved : goal.bytes-preserved
bytes-preserved c =
    let text : List ℕ = c.args.text.now in
    let old : List ℕ = c.args.out.now.items in
    let mid : List ℕ = c.bytes.out.items in
    let i : ℕ = c.bytes.byte-index in
    let byte : ℕ = get_or text i 0 in
    elim c.if-is_escaped.branch [
      | then-is_escaped+else-is_refused+in_ok-push w ↦
          let before : SoFar text old mid true i = rw w.if-is_escaped.true at c.bytes.invariant in
          let taken : is_refused_byte byte ≡ false = sym w.is_refused.ensures ∙ w.if-is_refused.false in
          let more : c.if-is_escaped.out.items ≡ mid ++ letter_byte byte ∷ [] =
          rw (w.out-is, ← w.escaped_by.ensures) w.in_ok-push.ensures.items in
          rw w.is_escaped-is (so_far_letter text old mid i byte c.bytes-test.true refl _ before taken more)
      | else-is_escaped+in-92 w ↦
          let before : SoFar text old mid false i = rw w.if-is_escaped.false at c.bytes.invariant in
          rw (w.is_escaped-is, w.out-is)
          (so_far_backslash text old mid i byte c.bytes-test.true refl before w.in-92.is)
      | else-is_escaped+in_default+in_ok-push-in_default w ↦
          let before : SoFar text old mid false i = rw w.if-is_escaped.false at c.bytes.invariant in
          let more : c.if-is_escaped.out.items ≡ mid ++ byte ∷ [] =
          rw w.out-is w.in_ok-push-in_default.ensures.items in
          let no_backslash : byte ≡ 92 → ⊥ = omega arith in
          let no_return : byte ≡ 13 → ⊥ = omega arith in
          let closed : c.if-is_escaped.is_escaped ≡ false = w.is_escaped-is ∙ w.if-is_escaped.false in
          rw closed (so_far_plain text old mid i byte c.bytes-test.true refl _ before no_backslash no_return more)
    ]

pub returns : goal.returns
returns c =
    so_far_all c.args.text.now c.args.out.now.items c.bytes.out.items c.bytes.is_escaped c.bytes.byte-index
    (drop_all c.bytes.byte-index c.args.text.now c.bytes-test.false) c.bytes.invariant
