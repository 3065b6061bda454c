-- What the proof of `head_and_elements_to_sql` answers by hand.
use Rattle.std.proofs.Common.{◌≡◌, ◌++◌, pos, length, ap, subst, ◌∙◌}
use Rattle.std.proofs.lemmas.Int.{to_z-of_z}
use Rattle.std.proofs.lemmas.Option.{IfSome_then}
use Rattle.std.proofs.lemmas.Result.{err_from_is_err_and}
use Rattle.std.specs.Int.{w32}
use Rattle.pg_base.specs.Arrays.{head_bytes}
use Rattle.pg_base.specs.Cells.{be}
use Rattle.pg_types.specs.Content.{content, oid_of}
use Rattle.pg_types.specs.Faults.{refusal_of}
use Rattle.pg_write.specs.ArrayWriting.{wire_array}
use Rattle.pg_write.proofs.ElementFrames.{after_head, array_appended, head_counted}
use Rattle.pg_write.proofs.arrays.head_and_elements_to_sql.Goals as goal

pub returns-in_err-has_null-clause-array : goal.returns-in_err-has_null-clause-array
returns-in_err-has_null-clause-array g c =
    let old = c.args.out.now.items in
    let lower_bound = c.args.lower_bound in
    let oid = oid_of (content c.args.element.now) in
    let bare : c.array_to_sql.new.out.items ≡ old ++ head_bytes (pos 0) lower_bound oid (be w32 (pos 0)) =
    subst (λ z. c.array_to_sql.new.out.items ≡ old ++ head_bytes (pos 0) z c.oid.result (be w32 (pos 0)))
    (to_z-of_z w32 lower_bound c.ranges.lower_bound) c.in_ok-array_to_sql.ensures.0
    ∙ ap (λ m. old ++ head_bytes (pos 0) lower_bound m (be w32 (pos 0))) c.oid.ensures in
    let headed = head_counted lower_bound oid (length c.args.values.now) old c.array_to_sql.new.out.items
    c.set_number.new.out.items c.len-start.result bare c.len-start.ensures.value c.set_number.ensures.items in
    let fault = c.in_err-has_null.field-0.0 in
    let refused = c.in_err-has_null.ensures.frames in
    let p = err_from_is_err_and c.from_residual-in_err-has_null.result
    c.from_residual-in_err-has_null.ensures.1 in
    rw (p.1, p.2) (
      after_head old c.set_number.new.out.items c.elements_to_sql.new.out.items _ headed refused.0,
      IfSome_then (refusal_of fault) refused.1 (λ r e. ap (wire_array lower_bound oid) e),
    )

pub returns-clause-array : goal.returns-clause-array
returns-clause-array g c =
    let old = c.args.out.now.items in
    let lower_bound = c.args.lower_bound in
    let oid = oid_of (content c.args.element.now) in
    let bare : c.array_to_sql.new.out.items ≡ old ++ head_bytes (pos 0) lower_bound oid (be w32 (pos 0)) =
    subst (λ z. c.array_to_sql.new.out.items ≡ old ++ head_bytes (pos 0) z c.oid.result (be w32 (pos 0)))
    (to_z-of_z w32 lower_bound c.ranges.lower_bound) c.in_ok-array_to_sql.ensures.0
    ∙ ap (λ m. old ++ head_bytes (pos 0) lower_bound m (be w32 (pos 0))) c.oid.ensures in
    let headed = head_counted lower_bound oid (length c.args.values.now) old c.array_to_sql.new.out.items
    c.set_number.new.out.items c.len-start.result bare c.len-start.ensures.value c.set_number.ensures.items in
    array_appended (g.T.ToSql.wire (content c.args.element.now)) lower_bound oid c.args.values.now old
    c.set_number.new.out.items c.elements_to_sql.new.out.items c.set_number-2.new.out.items c.in_ok-has_null.has_null
    c.from.result c.len-start.result c.requires.few headed c.in_ok-has_null.ensures.frames c.from.ensures
    c.len-start.ensures.value c.set_number-2.ensures.items
