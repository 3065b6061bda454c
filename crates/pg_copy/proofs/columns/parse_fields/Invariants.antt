-- The loop of `parse_fields`.
use Rattle.std.proofs.Common.{◌++◌, List, length}
use Rattle.std.specs.List.{AllZip}
use Rattle.pg_copy.specs.ColumnTypes.{IsFieldOf, IsFieldsFault}
use Rattle.pg_copy.specs.Words.{pieces, pieces_of_rest}
use Rattle.pg_copy.specs.declared.columns.Field.{Field}
use Rattle.pg_copy.specs.declared.columns.TypeFault.{TypeFault}
use Rattle.pg_copy.proofs.columns.parse_fields.Given as goal

-- each turn takes a field off
abbrev pub decreases-loop-rest : goal.decreases-loop-rest
decreases-loop-rest l = length (pieces_of_rest l.rest)

-- fields of the rest go after those so far, and a fault of the rest is the first one
abbrev pub invariant-loop-rest : goal.invariant-loop-rest
invariant-loop-rest l = record {
  taken : (more : List Field) → AllZip IsFieldOf (pieces_of_rest l.rest) more
      → AllZip IsFieldOf (pieces l.text) (l.fields.items ++ more);
  refused : (fault : TypeFault) → IsFieldsFault (pieces_of_rest l.rest) fault → IsFieldsFault (pieces l.text) fault;
}
