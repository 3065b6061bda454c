-- The loop of `notice_field`: the fields before those that are left have another code.
use Rattle.std.proofs.Common.{◌≡◌, false, length}
use Rattle.pg_messages.specs.Notices.{field_in}
use Rattle.pg_messages.proofs.notice.notice_field.Given as goal

abbrev pub invariant-loop-left : goal.invariant-loop-left
invariant-loop-left l = field_in l.code false l.left ≡ field_in l.code false l.fields

abbrev pub decreases-loop-left : goal.decreases-loop-left
decreases-loop-left l = length l.left
