-- What the proof of `append_fields` answers by hand.
use Rattle.std.proofs.Common.{Err}
use Rattle.std.proofs.lemmas.Result.{err_from_is_err_and}
use Rattle.pg_base.specs.Counts.{count_bytes}
use Rattle.postgres_types.proofs.RecordSteps.{first_refused_part, last_appended, then_part}
use Rattle.postgres_types.specs.Records.{Bytes, or_transmit}
use Rattle.pg_record.proofs.inventory_item.append_fields.Goals as goal

-- the number of the fields
abbrev field_count : Bytes
field_count = or_transmit (count_bytes 3)

pub returns-in_err-field_count_to_sql-clause-bytes : goal.returns-in_err-field_count_to_sql-clause-bytes
returns-in_err-field_count_to_sql-clause-bytes c =
    let p = err_from_is_err_and c.from_residual.result c.from_residual.ensures.1 in
    rw (p.1, p.2) (first_refused_part field_count _ c.args.out.now.items c.field_count_to_sql.new.out.items
    c.in_err-field_count_to_sql.field-0.0 c.in_err-field_count_to_sql.ensures.bytes)

pub returns-in_err-field_to_sql-clause-bytes : goal.returns-in_err-field_to_sql-clause-bytes
returns-in_err-field_to_sql-clause-bytes c =
    let r = c.from_residual-in_err-field_to_sql in
    let p = err_from_is_err_and r.result r.ensures.1 in
    let fault = c.in_err-field_to_sql.field-0.0 in
    rw (p.1, p.2) (then_part field_count _ c.args.out.now.items c.field_count_to_sql.new.out.items
    c.field_to_sql.new.out.items (Err fault) c.in_ok-field_count_to_sql.ensures.bytes
    (first_refused_part _ _ c.field_count_to_sql.new.out.items c.field_to_sql.new.out.items fault
    (rw c.type_.ensures at c.in_err-field_to_sql.ensures.bytes)))

pub returns-in_err-field_to_sql-2-clause-bytes : goal.returns-in_err-field_to_sql-2-clause-bytes
returns-in_err-field_to_sql-2-clause-bytes c =
    let r = c.from_residual-in_err-field_to_sql-2 in
    let p = err_from_is_err_and r.result r.ensures.1 in
    let fault = c.in_err-field_to_sql-2.field-0.0 in
    rw (p.1, p.2) (then_part field_count _ c.args.out.now.items c.field_count_to_sql.new.out.items
    c.field_to_sql-2.new.out.items (Err fault) c.in_ok-field_count_to_sql.ensures.bytes
    (then_part _ _ c.field_count_to_sql.new.out.items c.field_to_sql.new.out.items
    c.field_to_sql-2.new.out.items (Err fault) (rw c.type_.ensures at c.in_ok-field_to_sql.ensures.bytes)
    (first_refused_part _ _ c.field_to_sql.new.out.items c.field_to_sql-2.new.out.items fault
    (rw c.type_-2.ensures at c.in_err-field_to_sql-2.ensures.bytes))))

pub returns-clause-bytes : goal.returns-clause-bytes
returns-clause-bytes c =
    let new = c.field_to_sql-3.new.out.items in
    let result = c.field_to_sql-3.result in
    then_part field_count _ c.args.out.now.items c.field_count_to_sql.new.out.items new result
    c.in_ok-field_count_to_sql.ensures.bytes
    (then_part _ _ c.field_count_to_sql.new.out.items c.field_to_sql.new.out.items new result
    (rw c.type_.ensures at c.in_ok-field_to_sql.ensures.bytes)
    (then_part _ _ c.field_to_sql.new.out.items c.field_to_sql-2.new.out.items new result
    (rw c.type_-2.ensures at c.in_ok-field_to_sql-2.ensures.bytes)
    (last_appended _ c.field_to_sql-2.new.out.items new result (rw c.type_-3.ensures at c.field_to_sql-3.ensures.bytes))))
