-- The loop of `parse_records`: the records are those of the texts before this one.
use Rattle.std.proofs.Common.{take}
use Rattle.std.specs.List.{AllZip}
use Rattle.pg_copy.specs.WrittenComposites.{SaysRecord}
use Rattle.pg_copy.proofs.parse.parse_records.Given as goal

abbrev pub invariant-loop-text : goal.invariant-loop-text
invariant-loop-text l = AllZip (SaysRecord l.fields) (take l.text-index l.text-items) l.records.items
