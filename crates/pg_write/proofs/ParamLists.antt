-- The frames of parameters, one after another.
use Rattle.std.proofs.Common.{◌≡◌, ◌<◌, ◌≤◌, ◌+◌, ◌++◌, ℕ, List, [], ◌∷◌, length, take, drop, get_or, zip, Ok}
use Rattle.std.proofs.Common.{Err, IfNone, IsOk, Option, refl, ap, sym, ◌∙◌, subst, arith, append_assoc, length-append}
use Rattle.bytes.specs.Filled.{Filled}
use Rattle.std.specs.Bool.{⊤}
use Rattle.std.specs.List.{AllByRecursion}
use Rattle.std.proofs.Math.Seq.{take-append_seam}
use Rattle.std.proofs.lemmas.List.{take-append-drop, take_all}
use Rattle.std.proofs.lemmas.Option.{slice_get_read}
use Rattle.std.proofs.lemmas.Slice.Zip.{get_or-zip, length-zip}
use Rattle.pg_base.specs.Appending.{KeepsCapacity, Wire}
use Rattle.pg_base.specs.Cells.{frame, frames}
use Rattle.pg_types.specs.Faults.{Outcome, Refusal}
use Rattle.pg_types.specs.declared.fault.Fault.{Fault}
use Rattle.pg_base.proofs.Concat.{next_frames}
use Rattle.pg_write.proofs.ElementCells.{next_cell}
use Rattle.pg_write.specs.ArrayWriting.{element_cells, element_frame_cell, with_frame}
use Rattle.pg_write.proofs.ParamRoom.{each_at, frames_before, frames_take, if_none_then, same_frames_len}
use Rattle.pg_write.specs.ParamWriting.{AppendsFrameOrPart, Binds, FrameFollows, FramesFollow, frame_len, frames_len}

module _ {A : Type 0} (f : A → Wire) (vs : List A) (i : ℕ) (v : A) (h : i < length vs) (is : v ≡ get_or vs i v) where
  -- the frame of one more value was appended
  pub one_more : (old mid new : List ℕ) (so_far : FramesFollow f (take i vs) old mid) (next : FrameFollows (f v) mid new)
      → (all : FramesFollow f (take (i + 1) vs) old new) × (all.cells ≡ so_far.cells ++ next.cell ∷ [])
  one_more old mid new so_far next =
      let has : element_frame_cell (f v) ≡ Ok next.cell = ap element_frame_cell next.cell_is
      ∙ ap (with_frame next.cell) next.frame_is in (
        record {
          cells = so_far.cells ++ next.cell ∷ [];
          bytes = so_far.bytes ++ next.bytes;
          cells_are = next_cell f vs i v h is so_far.cells next.cell so_far.cells_are has;
          frames_are = next_frames so_far.cells next.cell so_far.bytes next.bytes so_far.frames_are next.frame_is;
          is = next.is ∙ ap (λ s. s ++ next.bytes) so_far.is ∙ append_assoc old so_far.bytes next.bytes;
        },
        refl,
      )

  -- there was no room for its frame, so that there was none for all
  pub had_no_room : (start now : Filled) → KeepsCapacity start now → FramesFollow f (take i vs) start.items now.items
      → (o : Option Refusal) → IfNone o (now.spare < frame_len (f v)) → IfNone o (start.spare < frames_len f vs)
  had_no_room start now kept so_far o short =
      let bytes = frames_take f (take i vs) so_far.cells so_far.bytes so_far.cells_are so_far.frames_are in
      let enough = frames_before f vs i v h is in
      let items : length now.items ≡ length start.items + length so_far.bytes =
      ap length so_far.is ∙ length-append start.items so_far.bytes in
      if_none_then o (λ k. omega (arith, k, kept, bytes, enough, items)) short

is_ok : {A : Type 0} (r : Outcome A) (a : A) → r ≡ Ok a → IsOk r
is_ok (Ok x) a e = refl
is_ok (Err x) a e = let no : ⊥ = cc in absurd no

module _ {A B : Type 0} (f : A × B → Wire) (xs : List A) (ys : List B) (same : length xs ≡ length ys) where
  length_of : length (zip xs ys) ≡ length xs
  length_of = omega (arith, same, length-zip xs ys)

  module _ (i : ℕ) (x : A) (y : B) (h : i < length xs) (is : x ≡ get_or xs i x) (other : y ≡ get_or ys i y) where
    abbrev here : A × B
    here = (x, y)

    within : i < length (zip xs ys)
    within = omega (arith, h, length_of)

    stands : here ≡ get_or (zip xs ys) i here
    stands =
        let k : i < length ys = omega (arith, h, same) in
        sym (get_or-zip xs ys i here h k ∙ ap (λ z. (z, get_or ys i y)) (sym is) ∙ ap (λ z. (x, z)) (sym other))

    -- one more parameter was appended
    pub next_param : {u : ⊤} (old mid new : List ℕ) → Binds f (take i (zip xs ys)) old mid (Ok u)
        → AppendsFrameOrPart (f here) mid new (Ok u) → Binds f (take (i + 1) (zip xs ys)) old new (Ok u)
    next_param old mid new so_far next =
        (one_more f (zip xs ys) i here within stands old mid new so_far next).0

    -- there was no room for the frame of the parameter here, so that there was none for all
    pub no_room : {u : ⊤} (g : A × B → Wire) (P : A × B → Type 0) → ((v : A × B) → P v → f v ≡ g v)
        → AllByRecursion P (zip xs ys) → (start now : Filled) → KeepsCapacity start now
        → Binds f (take i (zip xs ys)) start.items now.items (Ok u) → (o : Option Refusal)
        → (P here → IfNone o (now.spare < frame_len (g here))) → IfNone o (start.spare < frames_len g (zip xs ys))
    no_room g P same all start now kept so_far o short =
        let this = each_at P (zip xs ys) i here within stands all in
        let total = same_frames_len f g P same (zip xs ys) all in
        let own : frame_len (f here) ≡ frame_len (g here) = ap frame_len (same here this) in
        let here_none : IfNone o (now.spare < frame_len (f here)) = if_none_then o (λ k. omega (arith, k, own)) (short this) in
        if_none_then o (λ k. omega (arith, k, total))
        (had_no_room f (zip xs ys) i here within stands start now kept so_far o here_none)

    -- the parameter here is refused, and what was appended is taken back
    pub refused_param : {u : ⊤} (fault : Fault) (old mid low new : List ℕ)
        → Binds f (take i (zip xs ys)) old mid (Ok u) → AppendsFrameOrPart (f here) mid low (Err fault) → new
        ≡ take (length old) low
        → Binds f (zip xs ys) old new (Err (i, fault))
    refused_param fault old mid low new so_far (front, why) truncation =
        let rest = drop (length mid) low in
        let is : low ≡ old ++ (so_far.bytes ++ rest) = sym (take-append-drop (length mid) low)
        ∙ ap (λ s. s ++ rest) (front ∙ so_far.is) ∙ append_assoc old so_far.bytes rest in
        let back : new ≡ old =
        truncation ∙ ap (take (length old)) is ∙ take-append_seam old (so_far.bytes ++ rest) in (
          back,
          is_ok (element_cells f (take i (zip xs ys))) so_far.cells so_far.cells_are,
          (here, slice_get_read (zip xs ys) (length (zip xs ys)) i here refl within stands, why),
        )

  -- all were appended
  pub all_params : {u : ⊤} (i : ℕ) (old new : List ℕ) → length xs ≤ i → Binds f (take i (zip xs ys)) old new (Ok u)
      → Binds f (zip xs ys) old new (Ok u)
  all_params {u} i old new h done = subst (λ vs. Binds f vs old new (Ok u))
      (take_all i (zip xs ys) (omega (arith, h, length_of))) done
