-- The loop of `columns_of`.
use Rattle.std.proofs.Common.{◌+◌, ◌++◌, List, drop}
use Rattle.pg_copy.specs.Arguments.{AreTypes, texts_of}
use Rattle.pg_copy.specs.declared.arguments.RefusedType.{RefusedType}
use Rattle.pg_copy.specs.declared.columns.Column.{Column}
use Rattle.pg_copy.proofs.arguments.columns_of.Given as goal

-- what the types that are left are goes after what those before them are
abbrev pub invariant-loop-place : goal.invariant-loop-place
invariant-loop-place l =
    (columns : List Column) (refused : List RefusedType)
    → AreTypes (l.place + 1) (drop l.place (texts_of l.types)) columns refused
    → AreTypes 1 (texts_of l.types) (l.columns.items ++ columns) (l.refused.items ++ refused)
