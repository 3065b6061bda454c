-- The domain "SessionId" over BYTEA (domain_recv, and byteasend of the underlying type).
use Rattle.std.specs.Prelude.{Bool, codes}
use Rattle.pg_types.specs.declared.types.built_in.BuiltIn.TheVariants.{Bytea}
use Rattle.postgres_types.specs.Appending.{Wire}
use Rattle.postgres_types.specs.Bytea.{ReadsBytes, wire_bytes}
use Rattle.postgres_types.specs.Cells.{Cell}
use Rattle.postgres_types.specs.Content.{Content, is_row}
use Rattle.postgres_types.specs.Domains.{accepts_domain}
use Rattle.postgres_types.specs.Faults.{Outcome}
use Rattle.pg_record.specs.declared.session_id.SessionId.{SessionId}

-- the type is named SessionId, whatever its schema, and is a domain over BYTEA
abbrev pub is_session_id : Content → Bool
is_session_id = accepts_domain (codes "SessionId") (is_row Bytea)

-- what a cell reads as: the same as a cell of the underlying type
abbrev pub ReadsSessionId : Cell → Outcome SessionId → Type 0
ReadsSessionId = ReadsBytes (λ v. v.0.items)

-- what a value is written as: a cell of the underlying type
abbrev pub wire_session_id : SessionId → Wire
wire_session_id v = wire_bytes v.0.items
