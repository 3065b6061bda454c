-- Laws of plain types: reading and writing agree.
use Rattle.std.specs.Prelude.{◌≡◌, ℕ, Bool, true, false, if◌then◌else◌, List, Option, Some, None, Ok, Err, refl}
use Rattle.std.proofs.Common.{sym, ◌∙◌, ap, subst}
use Rattle.pg_base.specs.Appending.{Wire}
use Rattle.pg_base.specs.Cells.{Cell}
use Rattle.pg_types.specs.Faults.{Refusal, Outcome}
use Rattle.pg_base.specs.Formats.{IsGrammar, ReadsPlain}
use Rattle.pg_read.specs.Laws.Reading.{no_fault}
use Rattle.postgres_types.specs.ReadingBack.{BackKept, IsLawful, WrittenAsBytes}

-- a value is written as bytes that have no fault and spell what is kept of the value, and nothing else; or it is
-- refused
abbrev pub WrittenAsKept : {A : Type 0} → (List ℕ → A → Type 0) → (List ℕ → Option Refusal) → (A → A → Type 0) → A
    → Wire → Type 0
WrittenAsKept form first_fault kept v (Ok None) = ⊥
WrittenAsKept {A} form first_fault kept v (Ok (Some b)) =
    (first_fault b ≡ None) × ((w : A) → kept v w → form b w) × ((w : A) → form b w → kept v w)
WrittenAsKept form first_fault kept v (Err r) = Unit {0}

-- for a plain format, and what is kept of a value
module _ {A : Type 0} (form : List ℕ → A → Type 0) (first_fault : List ℕ → Option Refusal) (kept : A → A → Type 0) where
  kept_same_back : (same : A → A → Type 0) → ((u v w : A) → same u v → kept u w → kept v w)
      → (u v : A) (o : Outcome A) → same u v → BackKept kept u o → BackKept kept v o
  kept_same_back same respects u v (Ok w) h k = respects u v w h k
  kept_same_back same respects u v (Err r) h k = k

  kept_from_bytes : (v : A) (x : Wire) → kept v v → WrittenAsKept form first_fault kept v x
      → WrittenAsBytes (ReadsPlain form first_fault) v x
  kept_from_bytes v (Ok None) h k = k
  kept_from_bytes v (Ok (Some b)) h k = k.1 v h
  kept_from_bytes v (Err r) h k = tt

  kept_back_reads : (v : A) (c : Cell) (o : Outcome A) → WrittenAsKept form first_fault kept v (Ok c)
      → BackKept kept v o → ReadsPlain form first_fault c o
  kept_back_reads v None o h k = absurd h
  kept_back_reads v (Some b) (Ok w) h k = h.1 w k
  kept_back_reads v (Some b) (Err r) h k = absurd k

  kept_reads_back : (v : A) (c : Cell) (o : Outcome A) → WrittenAsKept form first_fault kept v (Ok c)
      → ReadsPlain form first_fault c o → BackKept kept v o
  kept_reads_back v None o h k = absurd h
  kept_reads_back v (Some b) (Ok w) h k = h.2 w k
  kept_reads_back v (Some b) (Err r) h k = no_fault (first_fault b) r h.0 k

  -- a plain type is lawful if each value is written as bytes that spell what is kept of it, and if everything that
  -- bytes spell is kept
  pub kept_lawful : (same : A → A → Type 0) (wire : A → Wire)
      → ((v w : A) → same v w → wire v ≡ wire w)
      → ((u v w : A) → same u v → kept u w → kept v w)
      → ((b : List ℕ) (v : A) → form b v → kept v v)
      → ((v : A) → WrittenAsKept form first_fault kept v (wire v))
      → IsLawful same (ReadsPlain form first_fault) wire (BackKept kept)
  kept_lawful same wire same_wire respects whole written = record {
    same_wire = same_wire;
    same_back = kept_same_back same respects;
    from_bytes = λ b v h. kept_from_bytes v (wire v) (whole b v h) (written v);
    from_null = λ v h. absurd h;
    back_reads = λ v c o e. kept_back_reads v c o (subst (WrittenAsKept form first_fault kept v) e (written v));
    reads_back = λ v c o e. kept_reads_back v c o (subst (WrittenAsKept form first_fault kept v) e (written v));
  }

-- a format stays a grammar with other checks if bytes that spell a value pass them
pub under_checks : {A : Type 0} {same : A → A → Type 0} {form : List ℕ → A → Type 0} {first_fault : List ℕ → Option Refusal}
    → IsGrammar same form first_fault → (checks : List ℕ → Option Refusal)
    → ((b : List ℕ) (v : A) → form b v → checks b ≡ None) → IsGrammar same form checks
under_checks grammar checks passes = record { passes = passes; single = grammar.single }

-- for a grammar of contents, and what contents are written as
module _ {A C : Type 0} (content_of : A → C) (form : List ℕ → C → Type 0) (first_fault : List ℕ → Option Refusal)
    (grammar : IsGrammar (λ x y. x ≡ y) form first_fault) where
  all_kept : (v : A) (x : Wire) → WrittenAsBytes (ReadsPlain form first_fault) (content_of v) x
      → WrittenAsKept (λ b w. form b (content_of w)) first_fault (λ u w. content_of u ≡ content_of w) v x
  all_kept v (Ok None) h = h
  all_kept v (Ok (Some b)) h = (
    grammar.passes b (content_of v) h,
    λ w e. subst (form b) e h,
    λ w k. grammar.single b (content_of v)
        (content_of w) h k,
  )
  all_kept v (Err r) h = tt

  -- a type whose format is a grammar is lawful if each content is written as bytes that read as it: the value is read
  -- back as itself
  pub plain_lawful : (wire : C → Wire) → ((x : C) → WrittenAsBytes (ReadsPlain form first_fault) x (wire x))
      → IsLawful (λ v w. content_of v ≡ content_of w) (ReadsPlain (λ b v. form b (content_of v)) first_fault)
      (λ v. wire (content_of v)) (BackKept (λ v w. content_of v ≡ content_of w))
  plain_lawful wire written = kept_lawful (λ b v. form b (content_of v)) first_fault
      (λ v w. content_of v ≡ content_of w)
      (λ v w. content_of v ≡ content_of w) (λ v. wire (content_of v))
      (λ v w e. ap wire e) (λ u v w e k. sym e ∙ k) (λ b v h. refl)
      (λ v. all_kept v (wire (content_of v)) (written (content_of v)))

-- a value that is written if it passes a test
pub written_if : {A : Type 0} (reads : Cell → Outcome A → Type 0) (v : A) (t : Bool) (b : List ℕ) (r : Refusal)
    → (t ≡ true → reads (Some b) (Ok v))
    → WrittenAsBytes reads v (if t then Ok (Some b) else Err r)
written_if reads v true b r h = h refl
written_if reads v false b r h = tt
