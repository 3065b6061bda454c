-- Domains, whose cells are those of the underlying type (domain_recv, and the send function of that type).
use Rattle.std.specs.Prelude.{ℕ, ◌&&◌, List, Bool, true, false}
use Rattle.pg_types.specs.Content.{Content, KindContent, DomainKind, kind_of}
use Rattle.pg_base.specs.Texts.{is_named}

-- the kind is that of a domain
abbrev pub is_domain_kind : KindContent → Bool
is_domain_kind (DomainKind _) = true
is_domain_kind _ = false

-- the underlying type of a domain of this kind; for any other type, the type itself
abbrev pub underlying_of : Content → KindContent → Content
underlying_of ty (DomainKind inner) = inner
underlying_of ty _ = ty

-- the underlying type of a domain
abbrev pub underlying : Content → Content
underlying ty = underlying_of ty (kind_of ty)

-- the type has that name, whatever its schema, and is a domain
abbrev pub is_domain : List ℕ → Content → Bool
is_domain name ty = is_named name ty && is_domain_kind (kind_of ty)

-- the type is such a domain, and its underlying type is accepted
abbrev pub accepts_domain : List ℕ → (Content → Bool) → Content → Bool
accepts_domain name accepted ty = is_domain name ty && accepted (underlying ty)
