-- What the proof of `push_field` answers by hand.
use Rattle.std.proofs.Common.{◌≡◌, ℕ, List, [], ◌∷◌, Some, OnOk, subst}
use Rattle.pg_copy.specs.Outputs.{Gains}
use Rattle.pg_copy.specs.TextLines.{LacksEscapes, Unescapes}
use Rattle.pg_copy.specs.WrittenRows.{FrameOf}
use Rattle.pg_copy.proofs.RowLaws.{gains_field}
use Rattle.pg_copy.proofs.TextLaws.{none_found, not_same, says_plain, says_unescaped}
use Rattle.pg_copy.proofs.write.push_field.Goals.{then-is_plain-via-then-is_plain}
use Rattle.pg_copy.proofs.write.push_field.Goals.{then-is_plain-via-else-is_plain+then-is_none}
use Rattle.pg_copy.proofs.write.push_field.Goals as goal

pub returns-then-is_plain-clause-ok : goal.returns-then-is_plain-clause-ok
returns-then-is_plain-clause-ok c =
    let field : List ℕ = c.args.field.now in
    let not_null : field ≡ 92 ∷ 78 ∷ [] → ⊥ =
    not_same field c.as_slice.result.now c.eq.result c.eq.ensures c.as_slice.ensures c.if-eq.false in
    let plain : LacksEscapes field =
    elim c.then-is_plain.branch [
      | then-is_plain-via-then-is_plain w ↦ c.requires w.if-is_plain.true
      | then-is_plain-via-else-is_plain+then-is_none w ↦
          none_found field w.memchr2.result w.memchr2.ensures w.if-is_none.ensures
    ] in
    gains_field c.args.column.now field (Some field) c.args.out.now.items c.push_utf8.new.out.items c.push_utf8.result
    (says_plain field not_null plain) c.push_utf8.ensures.ok

pub returns-clause-ok : goal.returns-clause-ok
returns-clause-ok c =
    let field : List ℕ = c.args.field.now in
    let text : List ℕ = c.unescape.new.out.items in
    let not_null : field ≡ 92 ∷ 78 ∷ [] → ⊥ =
    not_same field c.as_slice.result.now c.eq.result c.eq.ensures c.as_slice.ensures c.if-eq.false in
    let said : Unescapes field [] text c.in_ok-unescape.field-0 =
    subst (λ (l : List ℕ). Unescapes field l text c.in_ok-unescape.field-0) c.clear.ensures.items
    c.in_ok-unescape.ensures in
    let framed : OnOk c.push_utf8-2.result (Gains (FrameOf c.args.column.now (Some text)) c.args.out.now.items
    c.push_utf8-2.new.out.items)
    = subst (λ (t : List ℕ). OnOk c.push_utf8-2.result (Gains (FrameOf c.args.column.now (Some t)) c.args.out.now.items
    c.push_utf8-2.new.out.items)) c.as_slice-2.ensures.value c.push_utf8-2.ensures.ok in
    gains_field c.args.column.now field (Some text) c.args.out.now.items c.push_utf8-2.new.out.items
    c.push_utf8-2.result
    (says_unescaped field text c.in_ok-unescape.field-0 not_null said c.if-not-branch.false)
    framed
