-- The first value of a run of cells.
use Rattle.std.proofs.Common.{◌≡◌, ℕ, ◌+◌, ◌<◌, ◌≤◌, List, [], ◌∷◌, ◌++◌, length, Some, None, Ok, Err, refl, sym, subst}
use Rattle.std.proofs.Common.{ap, arith, inl, inr, length-append, negsuc, pos, w32, ◌∙◌, ◌⊎◌}
use Rattle.pg_base.proofs.FormatLaws.{be-length}
use Rattle.pg_base.proofs.FrameLaws.{bytes-frame}
use Rattle.pg_base.specs.Cells.{AreBytes, Cell, CellsInRow, Spells, SpellsNone}
use Rattle.pg_types.specs.Faults.{Outcome, refusal_of}
use Rattle.pg_types.specs.declared.fault.Fault.{Fault}
use Rattle.pg_read.proofs.RunSteps.{run_stops, run_truncated, run_unkept}
use Rattle.pg_read.specs.FrameReading.{ReadsFirst, ReadsFrame}
use Rattle.pg_read.specs.RunReading.{HaveBeenRead, ReadsRun}

-- a frame is not shorter than its length prefix
frame_length : (s : List ℕ) (c : Cell) → Spells s c → 4 ≤ length s
frame_length s None e = let four = be-length w32 s (negsuc e.0) e.1 in omega (arith, four)
frame_length s (Some b) e =
    let p = bytes-frame s b e in
    let four = be-length w32 p.0 (pos (length b)) p.2 in
    omega (arith, four, ap length p.1 ∙ length-append p.0 b)

module _ {A : Type 0} (reads : Cell → Outcome A → Type 0) (memory_free : Cell → Type 0) (start new : List ℕ) where
  -- before the first cell nothing was read
  nothing_read : HaveBeenRead reads start [] [] start
  nothing_read = record { spelled = refl; values = tt }

  read_at : (v : A) (cs : List Cell) (rest : List ℕ) → CellsInRow start 1 cs rest
      → ReadsFirst reads memory_free start cs rest (Ok v) new
      → (c : Cell) × HaveBeenRead reads start (c ∷ []) (v ∷ []) new × (4 + length new ≤ length start)
  read_at v [] rest row h = absurd h.0
  read_at v (c ∷ []) rest row h =
      let s = row.0 in
      let left = s.rest_spells ∙ sym h.2 in (
        c,
        record {
          spelled = record { front = s.front; rest = s.rest; is = s.is; spells = s.spells; rest_spells = left };
          values = (h.0, tt);
        },
        omega (arith, frame_length s.front c s.spells, ap length s.is ∙ length-append s.front s.rest, ap length left),
      )
  read_at v (c ∷ d ∷ ds) rest row h = absurd (omega (arith, row.1))

  -- the first value was read
  pub first_read : (v : A) → ReadsFrame reads memory_free start (Ok v) new
      → (c : Cell) × HaveBeenRead reads start (c ∷ []) (v ∷ []) new × (4 + length new ≤ length start)
  first_read v frame = read_at v frame.cells frame.rest frame.in_row frame.holds

  module _ {X : Type 0} (items : X → List A) (n : ℕ) (some : 0 < n) (bytes : AreBytes start) (f : Fault) where
    none_left : (rest : List ℕ) → start ≡ rest → ◌≡◌ {A = ℕ} 0 1 ⊎ SpellsNone rest → SpellsNone start
    none_left rest e (inl bad) = absurd (omega (arith, bad))
    none_left rest e (inr none) = subst SpellsNone (sym e) none

    stops_at : (cs : List Cell) (rest : List ℕ) → CellsInRow start 1 cs rest
        → ReadsFirst reads memory_free start cs rest (Err f) new → ReadsRun items reads start n (Err f) new
    stops_at [] rest row h =
        run_truncated items reads start [] [] start nothing_read n f new some (none_left rest row.0 row.2) h.0 h.1
    stops_at (c ∷ []) rest row h =
        let s = row.0 in
        run_stops items reads start [] [] start nothing_read n f new some bytes s.front c
        (s.is ∙ ap (λ t. s.front ++ t) (s.rest_spells ∙ sym h.2)) s.spells h.0
    stops_at (c ∷ d ∷ ds) rest row h = absurd (omega (arith, row.1))

    -- the run stops at the first cell
    pub first_stops : ReadsFrame reads memory_free start (Err f) new → ReadsRun items reads start n (Err f) new
    first_stops frame = stops_at frame.cells frame.rest frame.in_row frame.holds

    -- and where its value was read, but not kept
    pub first_unkept : (v : A) → ReadsFrame reads memory_free start (Ok v) new → refusal_of f ≡ None
        → ReadsRun items reads start n (Err f) new
    first_unkept v frame is =
        let first = first_read v frame in
        run_unkept items reads start [] [] start nothing_read n f first.0 new first.1.spelled some bytes is
