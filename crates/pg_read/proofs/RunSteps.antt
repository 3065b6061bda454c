-- Reading a run of cells one after another.
use Rattle.std.proofs.Common.{◌≡◌, ℕ, ◌<◌, List, [], ◌∷◌, ◌++◌, length, Option, Some, None, Ok, Err, refl}
use Rattle.std.proofs.Common.{arith, inl, inr, length-append}
use Rattle.std.specs.Prelude.{IfSome}
use Rattle.pg_base.proofs.CellRows.{row_bytes}
use Rattle.pg_base.specs.Cells.{AreBytes, Cell, Spells, SpellsNone, SpellsAll}
use Rattle.pg_types.specs.Faults.{Refusal, Outcome, refusal_of, size}
use Rattle.pg_types.specs.declared.fault.Fault.{Fault}
use Rattle.pg_base.proofs.CellRows.{spelled_more}
use Rattle.pg_read.proofs.ArrayCellSteps.{remaining_cells, value_next}
use Rattle.pg_read.specs.FrameReading.{after_truncated}
use Rattle.pg_read.specs.RunReading.{HaveBeenRead, ReadsRun, RunStops}

module _ {A : Type 0} (reads : Cell → Outcome A → Type 0) (start : List ℕ) (cs : List Cell) (vs : List A) (now : List ℕ)
    (so_far : HaveBeenRead reads start cs vs now) (front : List ℕ) (c : Cell) (rest : List ℕ) (is : now ≡ front ++ rest)
    (spells : Spells front c) where
  -- the first cell of what is left is one more
  pub spelled_next : SpellsAll start (cs ++ c ∷ []) rest
  spelled_next =
      spelled_more start now rest cs (c ∷ []) so_far.spelled
      (record { front = front; rest = rest; is = is; spells = spells; rest_spells = refl })

  -- and its value is one more
  pub read_next : (v : A) → reads c (Ok v) → HaveBeenRead reads start (cs ++ c ∷ []) (vs ++ v ∷ []) rest
  read_next v h = record { spelled = spelled_next; values = value_next reads cs c vs v so_far.values h }

-- a run ends where n cells were read
pub run_ends : {A X : Type 0} (items : X → List A) (reads : Cell → Outcome A → Type 0) (start : List ℕ) (n : ℕ) (x : X)
    (cs : List Cell) (now : List ℕ)
    → length cs ≡ n → HaveBeenRead reads start cs (items x) now → ReadsRun items reads start n (Ok x) now
run_ends items reads start n x cs now many h =
    record {
      cells = cs;
      rest = now;
      in_row = (h.spelled, omega (arith, many), inl many);
      holds = (many, h.values, refl);
    }

module _ {A X : Type 0} (items : X → List A) (reads : Cell → Outcome A → Type 0) (start : List ℕ) (cs : List Cell)
    (vs : List A) (now : List ℕ)
    (so_far : HaveBeenRead reads start cs vs now) (n : ℕ) (f : Fault) where
  -- a run stops after one more cell where memory runs out
  pub run_unkept : (c : Cell) (new : List ℕ) → SpellsAll start (cs ++ c ∷ []) new → length cs < n → AreBytes start
      → refusal_of f ≡ None → ReadsRun items reads start n (Err f) new
  run_unkept c new spelled few bytes is =
      let more = remaining_cells start new (cs ++ c ∷ []) n spelled (omega (arith, few, length-append cs (c ∷ [])))
      (row_bytes start new (cs ++ c ∷ []) spelled bytes) in
      record {
        cells = (cs ++ c ∷ []) ++ more.0;
        rest = more.1;
        in_row = more.2;
        holds = rw is (record {
          before = cs;
          cell = c;
          values = vs;
          reads_before = so_far.values;
          stands = (more.0, refl, spelled);
        });
      }

module _ {A X : Type 0} (items : X → List A) (reads : Cell → Outcome A → Type 0) (start : List ℕ) (cs : List Cell)
    (vs : List A) (now : List ℕ)
    (so_far : HaveBeenRead reads start cs vs now) (n : ℕ) (f : Fault) (new : List ℕ) (few : length cs < n) where
  -- it stops where no further cell is whole
  pub run_truncated : SpellsNone now → refusal_of f ≡ Some size → new ≡ after_truncated now
      → ReadsRun items reads start n (Err f) new
  run_truncated none is stands = record {
    cells = cs;
    rest = now;
    in_row = (so_far.spelled, omega (arith, few), inr none);
    holds = rw is (inr (record {
      values = vs;
      reads_all = so_far.values;
      fewer = few;
      refusal_is = refl;
      stands = stands;
    }));
  }

  -- and where the next cell is not read, whether it is refused or memory runs out
  stops_after : (fault : Option Refusal) (c : Cell) (ends : List ℕ) (ds : List Cell)
      → SpellsAll start (cs ++ c ∷ []) new → IfSome fault (λ r. reads c (Err r))
      → RunStops reads start n ((cs ++ c ∷ []) ++ ds) ends fault new
  stops_after None c ends ds spelled h = record {
    before = cs;
    cell = c;
    values = vs;
    reads_before = so_far.values;
    stands = (ds, refl, spelled);
  }
  stops_after (Some r) c ends ds spelled h = inl (record {
    before = cs;
    cell = c;
    values = vs;
    reads_before = so_far.values;
    refuses = h;
    stands = (ds, refl, spelled);
  })

  pub run_stops : AreBytes start → (front : List ℕ) (c : Cell) → now ≡ front ++ new → Spells front c
      → IfSome (refusal_of f) (λ r. reads c (Err r)) → ReadsRun items reads start n (Err f) new
  run_stops bytes front c is spells h =
      let spelled = spelled_next reads start cs vs now so_far front c new is spells in
      let more = remaining_cells start new (cs ++ c ∷ []) n spelled (omega (arith, few, length-append cs (c ∷ [])))
      (row_bytes start new (cs ++ c ∷ []) spelled bytes) in
      record {
        cells = (cs ++ c ∷ []) ++ more.0;
        rest = more.1;
        in_row = more.2;
        holds = stops_after (refusal_of f) c more.1 more.0 spelled h;
      }
