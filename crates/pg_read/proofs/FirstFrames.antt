-- The first framed cell of a slice, taken and read.
use Rattle.std.proofs.Common.{◌≡◌, ℕ, List, [], ◌∷◌, ◌++◌, Result, refl, arith, inl}
use Rattle.pg_base.specs.Cells.{Cell, Spells}
use Rattle.pg_types.specs.Faults.{Answers, NeverMemory, Outcome}
use Rattle.pg_types.specs.declared.fault.Fault.{Fault}
use Rattle.pg_read.specs.FrameReading.{ReadsFrame}

pub frame_read : {A : Type 0} (reads : Cell → Outcome A → Type 0) (memory_free : Cell → Type 0) (old new : List ℕ)
    (front : List ℕ) (c : Cell) (result : Result A Fault)
    → old ≡ front ++ new → Spells front c → Answers (reads c) result → (memory_free c → NeverMemory result)
    → ReadsFrame reads memory_free old result new
frame_read reads memory_free old new front c result is spells outcome free = record {
  cells = c ∷ [];
  rest = new;
  in_row = (
    record { front = front; rest = new; is = is; spells = spells; rest_spells = refl },
    omega arith,
    inl refl,
  );
  holds = (outcome, free, refl);
}
