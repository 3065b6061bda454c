-- Laws of a Bind message: one more parameter, and its end.
use Rattle.std.proofs.Common.{◌≡◌, ◌+◌, ◌++◌, ◌∷◌, [], ℕ, List, Ok, Err, Result, length, take, drop, ap, sym, ◌∙◌}
use Rattle.std.proofs.Common.{arith}
use Rattle.std.proofs.Common.{append_assoc, length-append}
use Rattle.std.proofs.Math.Seq.{take-append_seam}
use Rattle.std.proofs.lemmas.List.{drop_at}
use Rattle.std.specs.Int.{to_be_bytes, w16}
use Rattle.std.specs.Prelude.{OnOk, option_map, ⊤}
use Rattle.pg_base.proofs.Concat.{next_frames}
use Rattle.pg_base.specs.Appending.{Wire}
use Rattle.pg_base.specs.Cells.{Cell}
use Rattle.postgres_types.specs.ParamWriting.{FrameFollows}
use Rattle.pg_client.specs.BindBytes.{all_binary, with_count}
use Rattle.pg_client.specs.Binding.{Binds, HoldsBind}
use Rattle.pg_client.specs.declared.bind.Bind.{Bind}
use Rattle.pg_client.specs.declared.placed_fault.PlacedFault.{PlacedFault}

-- one more parameter is bound
pub binds_more : (w : Wire) (before : List ℕ) (cells : List Cell) (old new : Bind) → Binds before cells old
    → FrameFollows w old.out.now.items new.out.now.items → new.at ≡ old.at → new.count ≡ old.count + 1
    → (c : Cell) × (w ≡ Ok c) × Binds before (cells ++ c ∷ []) new
binds_more w before cells old new h f at count = (
  f.cell,
  f.cell_is,
  record {
    bytes = h.bytes ++ f.bytes;
    frames_are = next_frames cells f.cell h.bytes f.bytes h.frames_are f.frame_is;
    items_are = f.is ∙ ap (λ s. s ++ f.bytes) h.items_are ∙ append_assoc _ h.bytes f.bytes;
    at_is = at ∙ h.at_is;
    count_is = omega (arith, count, h.count_is, length-append cells (f.cell ∷ []));
  },
)

-- with the number in its place, the message is whole
bind_ends : (before : List ℕ) (cells : List Cell) (bind : Bind) (new : List ℕ) → Binds before cells bind
    → new ≡ with_count bind.at bind.count (bind.out.now.items ++ all_binary) → HoldsBind before cells new
bind_ends before cells bind new h is =
    let longer = bind.out.now.items ++ all_binary in
    let front = before ++ all_binary in
    let zero2 = to_be_bytes w16 0 in
    let back = h.bytes ++ all_binary in
    let long : length front ≡ bind.at = omega (arith, h.at_is, length-append before all_binary) in
    let longer_is : longer ≡ front ++ (zero2 ++ back) =
    ap (λ s. s ++ all_binary) h.items_are ∙ simp append_assoc in
    let first : take bind.at longer ≡ front =
    ap (take bind.at) longer_is ∙ ap (λ n. take n (front ++ (zero2 ++ back))) (sym long) ∙ take-append_seam front _ in
    let second : drop (bind.at + 2) longer ≡ back =
    ap (drop (bind.at + 2)) (longer_is ∙ sym (append_assoc front zero2 back))
    ∙ drop_at (front ++ zero2) back (bind.at + 2) (omega (arith, long, length-append front zero2)) in
    let number = to_be_bytes w16 (length cells) in (
      (all_binary ++ number) ++ back,
      ap (option_map (λ b. (all_binary ++ number) ++ (b ++ all_binary))) h.frames_are,
      is ∙ rw (first, second, h.count_is) (simp append_assoc),
    )

-- where it was ended, whatever it holds
pub bind_ended : (bind : Bind) (new : List ℕ) (result : Result ⊤ PlacedFault)
    → OnOk result (new ≡ with_count bind.at bind.count (bind.out.now.items ++ all_binary))
    → OnOk result ((before : List ℕ) (cells : List Cell) → Binds before cells bind → HoldsBind before cells new)
bind_ended bind new (Ok done) is = λ before cells h. bind_ends before cells bind new h is
bind_ended bind new (Err f) is = tt
