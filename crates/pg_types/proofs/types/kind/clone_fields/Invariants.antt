-- The invariants and measures of `clone_fields`.
use Rattle.std.proofs.Common.{◌≡◌, take}
use Rattle.pg_types.specs.Content.{fields_content}
use Rattle.pg_types.proofs.types.kind.clone_fields.Given as goal

abbrev pub invariant-loop-field : goal.invariant-loop-field
invariant-loop-field l = fields_content l.copies.items ≡ fields_content (take l.field-index l.fields)
