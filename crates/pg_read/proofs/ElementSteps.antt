-- What the reader of an array's elements read, taken together.
use Rattle.std.proofs.Common.{◌≡◌, ℕ, ◌<◌, List, [], ◌∷◌, length, Option, Some, None, Result, Ok, Err}
use Rattle.std.proofs.Common.{IfSome, IsSome, inl, inr, refl, sym, subst, ◌∙◌, ap, arith, le_of_eq, le_of_lt}
use Rattle.std.proofs.Common.{true≢false}
use Rattle.std.specs.Borrow.{Bor}
use Rattle.array_slots.specs.Sources.{AnswersArray, GivesAll}
use Rattle.pg_base.specs.Arrays.{SpellsHead, TakesElement}
use Rattle.pg_base.specs.Cells.{AreBytes, Cell, cell_of}
use Rattle.pg_base.specs.Counts.{ToRead, cell_checks, next_checks}
use Rattle.pg_base.specs.Formats.{first_fault_of}
use Rattle.pg_types.specs.Content.{Content, content}
use Rattle.pg_types.specs.Faults.{Answers, NeverMemory, Outcome, Refusal, excess, refusal_of}
use Rattle.pg_types.specs.declared.fault.Fault.{Fault}
use Rattle.pg_types.specs.declared.fault.Fault.TheVariants.{TooFew}
use Rattle.pg_read.specs.ArrayReading.{ElementsAll, ReadsAll, ReadsArray, ReadsFixed}
use Rattle.pg_read.specs.ElementReading.{Fails, Finishes, GivesElement, IsAlike, RestFails, Stops}
use Rattle.pg_read.specs.declared.arrays.fixed_size.ElementReader.{ElementReader}
use Rattle.pg_read.proofs.ArrayCellSteps.{HaveBeenTaken}
use Rattle.pg_read.proofs.FixedSizeSteps.{array_ends, array_free, array_long, array_refused, array_short}
use Rattle.pg_read.proofs.FixedSizeSteps.{array_truncated}

module _ {A : Type 0} (reads : Content → Cell → Outcome A → Type 0) (free : Cell → Type 0) where
  -- a damaged next cell is why no element is read
  pub fails_by_damage : (r : ElementReader A) (o : Option Refusal)
      → IfSome o (λ q. first_fault_of (next_checks cell_checks r.cells) ≡ Some q) → IsSome o → Fails reads free r o
  fails_by_damage r None e some = absurd (true≢false (sym some))
  fails_by_damage r (Some q) e some = inl e

  -- and so is one that is not read
  pub fails_by_value : (r : ElementReader A) (next : ToRead) (raw : Option (Bor (List ℕ))) (o : Option Refusal)
      → TakesElement r.cells (Some (Ok raw)) next → IfSome o (λ q. reads (content r.element.now) (cell_of raw) (Err q))
      → (free (cell_of raw) → IsSome o) → Fails reads free r o
  fails_by_value r next raw None taken e some = (next, (raw, taken, λ h. true≢false (sym (some h))))
  fails_by_value r next raw (Some q) taken e some = inr (next, (raw, taken, e))

  -- what was read so far: these cells, each as its element
  record HasRead (r : ElementReader A) (xs : List A) (t : ElementReader A) : Type 0 where
    pub cells : List Cell
    pub taken : HaveBeenTaken r.cells cells t.cells
    pub values : ReadsAll (reads (content r.element.now)) cells (Ok xs)
    pub alike : IsAlike r t

  has_read : (r : ElementReader A) (xs : List A) (t : ElementReader A) → GivesAll (GivesElement reads) r xs t
      → HasRead r xs t
  has_read r [] t e = record {
    cells = [];
    taken = record {
      so_many = omega (arith, ap (λ (v : ElementReader A). v.cells.left) e);
      spelled = ap (λ (v : ElementReader A). v.cells.bytes) e;
    };
    values = tt;
    alike = record {
      element = ap (λ (v : ElementReader A). v.element) (sym e);
      expected = ap (λ (v : ElementReader A). v.expected) (sym e);
      fault = ap (λ (v : ElementReader A). v.fault) (sym e);
    };
  }
  has_read r (x ∷ xs) t (u, ((raw, taken, is), alike), more) =
      let rest = has_read u xs t more in
      record {
        cells = cell_of raw ∷ rest.cells;
        taken = record {
          so_many = omega (arith, rest.taken.so_many, taken.fewer);
          spelled = record {
            front = taken.front;
            rest = u.cells.bytes;
            is = taken.is;
            spells = taken.spells;
            rest_spells = rest.taken.spelled;
          };
        };
        values = (is, subst (λ e. ReadsAll (reads (content e.now)) rest.cells (Ok xs)) alike.element rest.values);
        alike = record {
          element = rest.alike.element ∙ alike.element;
          expected = rest.alike.expected ∙ alike.expected;
          fault = rest.alike.fault ∙ alike.fault;
        };
      }

  -- the reader stands after the head of an array, and says so
  module _ (expected : ℕ) (b : List ℕ) (r : ElementReader A) (head : SpellsHead b r.cells) (bytes : AreBytes b)
      (wants : r.expected ≡ expected) (counts : r.fault ≡ TooFew expected r.cells.left) where
    abbrev R : Cell → Outcome A → Type 0
    R = reads (content r.element.now)

    abbrev Reads : Outcome (List A) → Type 0
    Reads = ReadsArray (λ vs. vs) (ReadsFixed expected R) (Some b)

    -- what the array reads as where an element is not read, or more follows them
    module _ (xs : List A) (u : ElementReader A) (so_far : HasRead r xs u) where
      element_fault : length xs < expected → (o : Option Refusal) → Fails reads free u o → IfSome o (λ q. Reads (Err q))
      element_fault fewer None h = tt
      element_fault fewer (Some q) (inl e) =
          array_truncated R expected b r.cells u.cells so_far.cells xs head so_far.taken
          so_far.values (le_of_lt fewer) q e
      element_fault fewer (Some q) (inr (next, (raw, taken, refuses))) =
          array_refused R expected b r.cells u.cells so_far.cells xs head so_far.taken
          so_far.values (le_of_lt fewer) next taken.front (cell_of raw) bytes taken.fewer taken.is taken.spells fewer q
          (subst (λ e. reads (content e.now) (cell_of raw) (Err q)) so_far.alike.element refuses)

      stop_fault : length xs < expected → (t : ElementReader A) → Stops reads free u t
          → IfSome (refusal_of t.fault) (λ q. Reads (Err q))
      stop_fault fewer t (inl (ends, stays)) =
          subst (λ e. IfSome (refusal_of e) (λ q. Reads (Err q))) (sym (stays ∙ so_far.alike.fault ∙ counts))
          (array_short R expected b r.cells u.cells so_far.cells xs head so_far.taken
          so_far.values (le_of_lt fewer) ends fewer)
      stop_fault fewer t (inr fails) = element_fault fewer (refusal_of t.fault) fails

      rest_fault : length xs ≡ expected → (o : Option Refusal) → RestFails u o → IfSome o (λ q. Reads (Err q))
      rest_fault full None bad = absurd bad
      rest_fault full (Some q) (inl e) =
          array_truncated R expected b r.cells u.cells so_far.cells xs head so_far.taken
          so_far.values (le_of_eq full) q e
      rest_fault full (Some q) (inr (next, (raw, taken, is))) =
          subst (λ p. Reads (Err p)) (sym (is ∙ ap excess (so_far.alike.expected ∙ wants)))
          (array_long R expected b r.cells u.cells so_far.cells xs head so_far.taken
          so_far.values (le_of_eq full) next taken.front (cell_of raw) bytes taken.fewer taken.is taken.spells full)

      fails_free : length xs < expected → ElementsAll expected free b → (o : Option Refusal) → Fails reads free u o
          → IsSome o
      fails_free fewer all_free None (next, (raw, taken, takes_memory)) =
          absurd (takes_memory (array_free R expected b r.cells u.cells so_far.cells xs
          head so_far.taken so_far.values (le_of_lt fewer) next taken.front (cell_of raw) bytes taken.fewer taken.is
          taken.spells fewer free all_free))
      fails_free fewer all_free (Some q) fails = refl

      stops_free : length xs < expected → ElementsAll expected free b → (t : ElementReader A) → Stops reads free u t
          → IsSome (refusal_of t.fault)
      stops_free fewer all_free t (inl (ends, stays)) =
          subst (λ e. IsSome (refusal_of e)) (sym (stays ∙ so_far.alike.fault ∙ counts)) refl
      stops_free fewer all_free t (inr fails) = fails_free fewer all_free (refusal_of t.fault) fails

    rest_free : (u : ElementReader A) (o : Option Refusal) → RestFails u o → IsSome o
    rest_free u None bad = absurd bad
    rest_free u (Some q) is = refl

    -- what is answered is what the array reads as
    pub reads_fixed : (out : Result (List A) Fault)
        → AnswersArray (GivesElement reads) (Stops reads free) (λ t f. f ≡ t.fault) Finishes r expected out
        → Answers Reads out
    reads_fixed (Ok xs) (full, (t, more, ends)) =
        let so_far = has_read r xs t more in
        array_ends R expected b r.cells t.cells so_far.cells xs head so_far.taken so_far.values (le_of_eq full) ends
        full
    reads_fixed (Err f) (inl (t, (xs, u, more, fewer, stops), at)) =
        subst (λ e. IfSome (refusal_of e) (λ q. Reads (Err q))) (sym at)
        (stop_fault xs u (has_read r xs u more) fewer t stops)
    reads_fixed (Err f) (inr (xs, t, full, more, rest)) =
        rest_fault xs t (has_read r xs t more) full (refusal_of f) rest

    -- and it is never Memory where the elements are read without
    pub never_memory : (out : Result (List A) Fault)
        → AnswersArray (GivesElement reads) (Stops reads free) (λ t f. f ≡ t.fault) Finishes r expected out
        → ElementsAll expected free b → NeverMemory out
    never_memory (Ok xs) answer all_free = tt
    never_memory (Err f) (inl (t, (xs, u, more, fewer, stops), at)) all_free =
        subst (λ e. IsSome (refusal_of e)) (sym at)
        (stops_free xs u (has_read r xs u more) fewer all_free t stops)
    never_memory (Err f) (inr (xs, t, full, more, rest)) all_free = rest_free t (refusal_of f) rest
