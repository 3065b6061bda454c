-- The steps of writing the values of a row.
use Rattle.std.proofs.Common.{◌≡◌, ◌+◌, ◌++◌, ℕ, List, [], ◌∷◌, Option, Some, Ok, ap, arith, length, length-append, slice_get}
use Rattle.std.proofs.Common.{append_assoc, sym, ◌∙◌}
use Rattle.pg_base.proofs.Concat.{next_frames}
use Rattle.pg_base.specs.Appending.{Wire}
use Rattle.pg_base.specs.Cells.{Cell}
use Rattle.pg_types.specs.declared.types.PgType.{PgType}
use Rattle.postgres_types.specs.ParamWriting.{FrameFollows}
use Rattle.pg_client.specs.RowWriting.{Writes}
use Rattle.pg_client.specs.declared.row_writer.RowWriter.{RowWriter}
use Rattle.pg_client.specs.declared.row_writer.Target.{Target}

-- one more value is written
pub writes_more : (wire : Option PgType → Wire) (target : Target) (types : List PgType) (before : List ℕ)
    (cells : List Cell) (old new : RowWriter) (ty : PgType) → slice_get old.types.now old.count ≡ Some ty
    → Writes target types before cells old → FrameFollows (wire (Some ty)) old.out.now.items new.out.now.items
    → new.target ≡ old.target → new.types.now ≡ old.types.now → new.start ≡ old.start → new.count ≡ old.count + 1
    → (c : Cell) × (wire (slice_get types (length cells)) ≡ Ok c) × Writes target types before (cells ++ c ∷ []) new
writes_more wire target types before cells old new ty there h f target_is types_are start count = (
  f.cell,
  ap wire (ap (λ ts. slice_get ts (length cells)) (sym h.types_are)
      ∙ ap (slice_get old.types.now) (sym h.has.count_is) ∙ there) ∙ f.cell_is,
  record {
    target_is = target_is ∙ h.target_is;
    types_are = types_are ∙ h.types_are;
    has = record {
      head = h.has.head;
      head_is = h.has.head_is;
      bytes = h.has.bytes ++ f.bytes;
      frames_are = next_frames cells f.cell h.has.bytes f.bytes h.has.frames_are f.frame_is;
      items_are = f.is ∙ ap (λ s. s ++ f.bytes) h.has.items_are ∙ append_assoc _ h.has.bytes f.bytes;
      start_is = start ∙ h.has.start_is;
      count_is = omega (arith, count, h.has.count_is, length-append cells (f.cell ∷ []));
    };
  },
)
