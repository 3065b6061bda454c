-- What the proof of `to_sql` of `Composite` answers by hand.
use Rattle.std.proofs.Common.{◌≡◌, ◌<◌, IfNone, IsOk, ap₂, length, subst}
use Rattle.std.proofs.lemmas.Result.{err_from_is_err_and}
use Rattle.pg_types.specs.Content.{content, fields_content, kind_of}
use Rattle.pg_types.specs.Faults.{refusal_of}
use Rattle.postgres_types.proofs.RecordSteps.{cell_short}
use Rattle.postgres_types.specs.Records.{bytes_len, count_of, fields_of_kind, record_bytes}
use Rattle.postgres_types.proofs.composite.record.CompositeToSql.to_sql.Goals as goal

pub returns-in_err-record_to_sql-clause-room : goal.returns-in_err-record_to_sql-clause-room
returns-in_err-record_to_sql-clause-room g c = λ by_room.
    let inside = g.T.Record.inside c.args.self.now.0 in
    let fields = fields_of_kind (kind_of (content c.args.ty.now)) in
    let refusal = refusal_of c.in_err-record_to_sql.field-0.0 in
    let same : record_bytes (length c.fields_of.result.now) (g.T.Fields.ToFields.bytes (fields_content c.fields_of.result.now) inside)
    ≡ record_bytes (count_of fields) (g.T.Fields.ToFields.bytes fields inside) =
    ap₂ (λ n fs. record_bytes n (g.T.Fields.ToFields.bytes fs inside)) c.fields_of.ensures.count c.fields_of.ensures.fields in
    let short = subst (λ w. IsOk w → IfNone refusal (c.args.out.now.spare < bytes_len w)) same
    (c.in_err-record_to_sql.ensures.room by_room.0) in
    let p = err_from_is_err_and c.from_residual.result c.from_residual.ensures.1 in
    rw (p.1, p.2) (cell_short (record_bytes (count_of fields) (g.T.Fields.ToFields.bytes fields inside))
    c.args.out.now.spare refusal short (by_room.1 (content c.args.ty.now) c.requires))
