-- The invariants and measures of the functions of the cycle `numbers`.
use Rattle.std.proofs.Common.{◌≡◌, drop}
use Rattle.serde_json.specs.View.{items_view, members_view}
use Rattle.serde_json.specs.Written.{items_have_float, members_have_float}
use Rattle.pg_base.proofs.json.+numbers.Given as goal

-- the items so far hold no other number, so that the rest tells of all; likewise the members
abbrev pub invariant-items_have_other_number-loop-item : goal.invariant-items_have_other_number-loop-item
invariant-items_have_other_number-loop-item l =
    items_have_float (items_view l.item-items) ≡ items_have_float (items_view (drop l.item-index l.item-items))

abbrev pub invariant-members_have_other_number-loop-member : goal.invariant-members_have_other_number-loop-member
invariant-members_have_other_number-loop-member l =
    members_have_float (members_view l.members.entries) ≡ members_have_float (members_view l.member-iterator)
