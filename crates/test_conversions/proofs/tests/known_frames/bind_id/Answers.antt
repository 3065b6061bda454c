-- What the proof of `bind_id` answers by hand.
use denote.Param.Object.{read_made}
use Rattle.std.specs.Prelude.{◌≡◌, ◌++◌, ◌∷◌, [], ℕ, List, Some, Ok, pos, refl, ℤ}
use Rattle.std.proofs.Common.{FitsSigned, ap, subst, sym, ◌∙◌}
use Rattle.std.specs.Int.{w32}
use Rattle.std.proofs.Math.Facts.{to_z-of_z}
use Rattle.std.proofs.lemmas.List.{append-nil}
use Rattle.pg_base.proofs.FormatLaws.{fits}
use Rattle.postgres_types.specs.Appending.{Wire}
use Rattle.postgres_types.specs.ArrayWriting.{element_cells, element_frame_cell}
use Rattle.postgres_types.specs.Cells.{Cell, be, concat, frame, frames}
use Rattle.postgres_types.specs.Content.{BuiltInType}
use Rattle.postgres_types.specs.Conversion.{Int4}
use Rattle.postgres_types.specs.Numbers.{wire_signed}
use Rattle.postgres_types.specs.ParamWriting.{FramesFollow}
use Rattle.postgres_types.specs.Writing.{checked}
use Rattle.test_conversions.proofs.tests.known_frames.bind_id.Goals as goal
use Rattle.test_conversions.proofs.tests.known_frames.bind_id.OwnLists

-- the frame of the one parameter's cell follows the old bytes
one_frame : {A : Type 0} (wire : A → Wire) (v : A) (cell : Cell) (b old new : List ℕ) → wire v ≡ Ok cell
    → frame cell ≡ Some b → FramesFollow wire (v ∷ []) old new → new ≡ old ++ b
one_frame wire v cell b old new e f h =
    let framed : element_frame_cell (wire v) ≡ Ok cell = rw (e, f) refl in
    let cells : element_cells wire (v ∷ []) ≡ Ok (cell ∷ []) = rw framed refl in
    let same : cell ∷ [] ≡ h.cells = cc in
    let all : frames (cell ∷ []) ≡ Some h.bytes = subst (λ cs. frames cs ≡ Some h.bytes) (sym same) h.frames_are in
    let one : frames (cell ∷ []) ≡ Some (b ++ []) = ap (λ o. concat o (Some [])) f in
    let bytes : h.bytes ≡ b ++ [] = cc in
    h.is ∙ ap (λ bs. old ++ bs) (bytes ∙ append-nil b)

-- an INT4 is its four bytes
int4_cell : (z : ℤ) → FitsSigned w32 z → wire_signed w32 z ≡ Ok (Some (be w32 z))
int4_cell z h = rw (fits w32 z h) refl

pub returns-in-Ok : goal.returns-in-Ok
returns-in-Ok c =
    let fitting : FitsSigned w32 c.args.id = record { sfits = c.ranges.id.sfits } in
    let boxed = read_made OwnLists.own-1 (OwnLists.own-1.entry OwnLists.at-1-1) OwnLists.at-1-1 refl Wire
    (λ j v. checked j.1.ToSql.accepted j.1.ToSql.name j.1.ToSql.wire (BuiltInType Int4) v)
    c.into_dyn_box.result.vtable c.into_dyn_box.result.value c.in_ok-new.field-0.value c.into_dyn_box.ensures.1 in
    one_frame _ _ (Some (be w32 c.args.id)) (be w32 (pos 4) ++ be w32 c.args.id) _ _
    (boxed ∙ (ap (wire_signed w32) (c.in_ok-new.ensures.ok ∙ to_z-of_z fitting)
    ∙ int4_cell c.args.id fitting)) refl c.in-Ok.ensures.frames
