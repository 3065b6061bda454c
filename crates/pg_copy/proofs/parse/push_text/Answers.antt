-- What the proof of `push_text` answers by hand.
use Rattle.std.proofs.Common.{◌≡◌, ℕ, Bor, List, refl}
use Rattle.std.specs.Prelude.{codes}
use Rattle.std.specs.Str.{is_utf8}
use Rattle.pg_copy.proofs.Wires.{bytes_or_fault, value_frame}
use Rattle.postgres_types.specs.Cells.{versioned_cell}
use Rattle.postgres_types.specs.Content.{content}
use Rattle.postgres_types.specs.Faults.{transmit}
use Rattle.postgres_types.specs.Texts.{accepted_text, has_version, wire_text}
use Rattle.pg_copy.proofs.parse.push_text.Goals as goal

pub returns-then-is_array-clause-ok : goal.returns-then-is_array-clause-ok
returns-then-is_array-clause-ok c = rw c.if-is_array.true c.push_array_as.ensures.ok

pub returns-clause-ok : goal.returns-clause-ok
returns-clause-ok c =
    let ty = content c.args.ty.now in
    let bytes = c.args.text.now in
    rw c.if-is_array.false (value_frame {A = Bor (List ℕ)} (λ text s. s.now ≡ text) accepted_text (codes "&str")
    (λ ty s. wire_text (has_version ty) s.now) ty bytes c.args.text refl
    (bytes_or_fault (is_utf8 bytes) (versioned_cell (has_version ty) bytes) transmit) c.args.out.now.items
    c.frame_value.new.out.items c.frame_value.result c.frame_value.ensures.frame)
