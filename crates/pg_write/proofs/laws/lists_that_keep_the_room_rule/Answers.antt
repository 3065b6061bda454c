-- What the proof of `lists_that_keep_the_room_rule` answers by hand.
use Rattle.std.specs.Box.{boxed_slice_items}
use Rattle.std.proofs.Common.{◌≤◌, [], ◌∷◌, Bool, IsOk, List, ap, arith, false, length, true}
use Rattle.pg_base.specs.ArrayTypes.{accepted_list}
use Rattle.pg_base.specs.Cells.{max_length}
use Rattle.pg_base.specs.Numbers.{wire_bool}
use Rattle.pg_types.specs.Content.{Content}
use Rattle.pg_write.proofs.ListRoom.{each_of, list_by_room, short_cell}
use Rattle.pg_write.specs.ArrayWriting.{element_frame_cell, wire_list}
use Rattle.pg_write.specs.ListRoom.{ListByRoom}
use Rattle.pg_write.proofs.laws.lists_that_keep_the_room_rule.Goals as goal

has_frame : (v : Bool) → IsOk (element_frame_cell (wire_bool v))
has_frame false = short_cell (0 ∷ []) (omega arith)
has_frame true = short_cell (1 ∷ []) (omega arith)

-- such a list keeps the room rule
by_room : (accepted : Content → Bool) (list : List Bool) → length list ≤ max_length
    → ListByRoom (λ v. Unit {0}) (accepted_list accepted) (wire_list (λ ty v. wire_bool v)) list
by_room accepted list few =
    list_by_room (λ v. Unit {0}) accepted (λ ty v. wire_bool v) list few (each_of (λ v. Unit {0}) (λ v. tt) list)
    (each_of _ (λ v ty ok. has_frame v) list)

pub value_keeps_room_rule-requires : goal.value_keeps_room_rule-requires
value_keeps_room_rule-requires c = by_room _ c.args.list.now.items c.requires.list

pub value_keeps_room_rule-requires-2 : goal.value_keeps_room_rule-requires-2
value_keeps_room_rule-requires-2 c = by_room _ c.as_slice.result.now (omega (arith, c.requires.list, ap length c.as_slice.ensures.value))

pub value_keeps_room_rule-requires-3 : goal.value_keeps_room_rule-requires-3
value_keeps_room_rule-requires-3 c = by_room _ (boxed_slice_items c.args.boxed.now) c.requires.boxed
