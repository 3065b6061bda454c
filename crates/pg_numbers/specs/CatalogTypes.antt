-- Types of PostgreSQL's catalog for which the library has no row.
use Rattle.std.specs.Prelude.{ℕ, ◌==◌, List, Bool, codes}
use Rattle.pg_types.specs.Content.{Content, KindContent, UserDefinedType, oid_of}

-- the type has this OID: one below 16,384 is the server's own, whatever else is known of the type
abbrev pub has_oid : ℕ → Content → Bool
has_oid oid ty = oid_of ty == oid

-- the type of this name, OID and kind in the schema pg_catalog
abbrev pub catalog_type : List ℕ → ℕ → KindContent → Content
catalog_type name oid kind = UserDefinedType name oid kind (codes "pg_catalog")
