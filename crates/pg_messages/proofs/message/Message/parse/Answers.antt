-- What the proof of `parse` answers by hand: of each tag the kind of its message.
use Rattle.std.proofs.Common.{◌≡◌, ℕ, List, Option, Some, refl}
use Rattle.pg_messages.specs.Backend.{FieldKind, Reads, Says, format}
use Rattle.pg_messages.specs.declared.message.Message.{Message}
use Rattle.pg_messages.proofs.Bodies.{bare_says, outcome}
use Rattle.pg_messages.proofs.message.Message.parse.Goals.{in-49, in-50, in-51, in-65, in-67, in-68, in-69, in-71, in-72, in-73, in-75, in-78, in-82, in-83, in-84, in-86, in-87, in-90, in-99, in-100, in-110, in-115, in-116, in-118}
use Rattle.pg_messages.proofs.message.Message.parse.Goals as goal

by : (c : goal.After-ok_or) (n : ℕ) (kinds : List FieldKind) (read : Option Message) → format n c.args.body.now ≡ Some kinds
    → c.args.tag ≡ n → c.match-tag.message ≡ read → Says n c.args.body.now read
    → Reads c.args.tag c.args.body.now c.ok_or.result
by c n kinds read is same read_is says =
    outcome c.args.tag n c.args.body.now kinds read c.match-tag.message c.ok_or.result is same read_is
    c.ok_or.ensures.value says

pub returns : goal.returns
returns c = elim c.match-tag.branch [
  | in-49 w ↦ by c 49 _ _ refl w.in-49.is w.message-is (bare_says 49 _ _ _ refl refl refl w.bare-message.ensures)
  | in-50 w ↦ by c 50 _ _ refl w.in-50.is w.message-is (bare_says 50 _ _ _ refl refl refl w.bare-message-in-50.ensures)
  | in-51 w ↦ by c 51 _ _ refl w.in-51.is w.message-is (bare_says 51 _ _ _ refl refl refl w.bare-message-in-51.ensures)
  | in-65 w ↦ by c 65 _ _ refl w.in-65.is w.message-is w.notification-message.ensures
  | in-67 w ↦ by c 67 _ _ refl w.in-67.is w.message-is w.command_complete-message.ensures
  | in-68 w ↦ by c 68 _ _ refl w.in-68.is w.message-is (refl, refl)
  | in-69 w ↦ by c 69 _ _ refl w.in-69.is w.message-is (refl, refl)
  | in-71 w ↦ by c 71 _ _ refl w.in-71.is w.message-is w.copy_in_response-message.ensures
  | in-72 w ↦ by c 72 _ _ refl w.in-72.is w.message-is w.copy_out_response-message.ensures
  | in-73 w ↦ by c 73 _ _ refl w.in-73.is w.message-is (bare_says 73 _ _ _ refl refl refl w.bare-message-in-73.ensures)
  | in-75 w ↦ by c 75 _ _ refl w.in-75.is w.message-is w.backend_key_data-message.ensures
  | in-78 w ↦ by c 78 _ _ refl w.in-78.is w.message-is (refl, refl)
  | in-82 w ↦ by c 82 _ _ refl w.in-82.is w.message-is w.authentication-message.ensures
  | in-83 w ↦ by c 83 _ _ refl w.in-83.is w.message-is w.parameter_status-message.ensures
  | in-84 w ↦ by c 84 _ _ refl w.in-84.is w.message-is w.row_description-message.ensures
  | in-86 w ↦ by c 86 _ _ refl w.in-86.is w.message-is (refl, refl)
  | in-87 w ↦ by c 87 _ _ refl w.in-87.is w.message-is w.copy_both_response-message.ensures
  | in-90 w ↦ by c 90 _ _ refl w.in-90.is w.message-is w.ready_for_query-message.ensures
  | in-99 w ↦ by c 99 _ _ refl w.in-99.is w.message-is (bare_says 99 _ _ _ refl refl refl w.bare-message-in-99.ensures)
  | in-100 w ↦ by c 100 _ _ refl w.in-100.is w.message-is (refl, refl)
  | in-110 w ↦ by c 110 _ _ refl w.in-110.is w.message-is (bare_says 110 _ _ _ refl refl refl w.bare-message-in-110.ensures)
  | in-115 w ↦ by c 115 _ _ refl w.in-115.is w.message-is (bare_says 115 _ _ _ refl refl refl w.bare-message-in-115.ensures)
  | in-116 w ↦ by c 116 _ _ refl w.in-116.is w.message-is w.parameter_description-message.ensures
  | in-118 w ↦ by c 118 _ _ refl w.in-118.is w.message-is w.negotiate_protocol_version-message.ensures
]
