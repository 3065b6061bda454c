-- How a row of the catalog gives the kind of its type: `pg_type.typtype`, and `a` for an array.
use Rattle.std.specs.Prelude.{ℕ, ℤ, pos, negsuc, ◌==◌, if◌then◌else◌, Option, Some, None}
use Rattle.pg_client.specs.declared.catalog.kinds.TypeKind.{TypeKind}
use Rattle.pg_client.specs.declared.catalog.kinds.TypeKind.TheVariants.{Base, Enum, Pseudo, Array, Range, Multirange}
use Rattle.pg_client.specs.declared.catalog.kinds.TypeKind.TheVariants.{Domain, Composite}

-- the kind of an ASCII letter
abbrev pub kind_of_ascii : ℕ → Option TypeKind
kind_of_ascii n =
    if n == 97 then Some Array else if n == 98 then Some Base else if n == 99 then Some Composite else
    if n == 100 then Some Domain else if n == 101 then Some Enum else if n == 109 then Some Multirange else
    if n == 112 then Some Pseudo else if n == 114 then Some Range else None

-- the kind of a letter of the server's type "char"
abbrev pub kind_of_letter : ℤ → Option TypeKind
kind_of_letter (pos n) = kind_of_ascii n
kind_of_letter (negsuc _) = None
