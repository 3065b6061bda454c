-- Steps of rewriting an array.
use Rattle.std.specs.Prelude.{◌≡◌, ◌≤◌, ◌<◌, ◌+◌, ℕ, zero, suc, pos, List, [], ◌∷◌, ◌++◌, length, drop, Bool, true, false}
use Rattle.std.specs.Prelude.{not, Option, Some, None, Result, Ok, Err, IfOk, IfSome, IsSome, refl}
use Rattle.std.specs.Int.{from_bool}
use Rattle.std.specs.Option.{option_map_or}
use Rattle.std.proofs.Common.{arith, ap, sym, subst, ◌∙◌, append_assoc, append-nil, inl, inr}
use Rattle.std.proofs.Math.Seq.{drop-append_seam}
use Rattle.std.proofs.Math.ListN.{drop_of_length-le}
use Rattle.std.proofs.lemmas.Bool.Decides.{nat_tests}
use Rattle.std.proofs.lemmas.Int.{ints}
use Rattle.std.proofs.lemmas.List.{drop-drop, length-append}
use Rattle.pg_base.proofs.ArrayLaws.{head_passes, head_single}
use Rattle.pg_base.specs.Arrays.{SpellsDimensions, SpellsHead, array_bytes, has_null, head_checks}
use Rattle.pg_base.specs.Cells.{Cell, fits_prefix, frames, max_length}
use Rattle.pg_base.specs.Counts.{ToRead, after_cell, cell_checks, no_trailing}
use Rattle.pg_base.specs.Formats.{first_fault_of}
use Rattle.pg_cells_c.proofs.ElementSteps.{in_front}
use Rattle.pg_cells_c.proofs.WritingSteps.{not_written, written}
use Rattle.pg_cells_c.specs.ArrayRewriting.{AreElements, FailsWith, WritesArray, WritesElements, flag_if, head_of}
use Rattle.pg_cells_c.specs.Elements.{WritesFrames, cell_in, cons_cell, prepend, rewritten_cell}
use Rattle.pg_cells_c.specs.Elements.{rewritten_cells, unless}
use Rattle.pg_cells_c.specs.Writings.{WritesInto}
use Rattle.pg_cells_c.specs.declared.rewrite.arrays.ArrayType.{ArrayType}
use Rattle.pg_cells_c.specs.declared.rewrite.elements.Frames.{Frames}
use Rattle.pg_cells_c.specs.declared.rewrite.kinds.Kind.{Kind}
use Rattle.pg_types.specs.Faults.{Outcome, Refusal, code_of, number_of, refusal_of}
use Rattle.pg_types.specs.declared.fault.Fault.{Fault}

-- ---- the head
-- bytes that fill a buffer are all of it
fills : (s old new : List ℕ) (n : ℕ) → WritesInto s old new n → length s ≡ length old → new ≡ s
fills s old new n h same =
    in_front s old new n h (omega (arith, same))
    ∙ ap (λ x. s ++ x) (drop_of_length-le old (omega (arith, same))) ∙ append-nil s

-- what was written is known by its parts
pub parts_are : (a b c x y z old new : List ℕ) (n : ℕ) → WritesInto (a ++ b ++ c) old new n → a ≡ x → b ≡ y → c ≡ z
    → WritesInto (x ++ y ++ z) old new n
parts_are a b c x y z old new n h p q r =
    subst (λ s. WritesInto s old new n)
    (ap (λ s. s ++ b ++ c) p ∙ ap (λ s. x ++ s ++ c) q ∙ ap (λ s. x ++ y ++ s) r) h

-- a flag as a number
pub flag_is : (t : Bool) → pos (from_bool t) ≡ flag_if t
flag_is true = refl
flag_is false = refl

-- the parts of a head follow one another
pub head_joined : (a b c d e front dimension front_new dimension_new : List ℕ) (m n : ℕ)
    → length (a ++ b ++ c) ≡ length front → length (d ++ e ++ []) ≡ length dimension
    → WritesInto (a ++ b ++ c) front front_new m → WritesInto (d ++ e ++ []) dimension dimension_new n
    → front_new ++ dimension_new ≡ a ++ b ++ c ++ d ++ e
head_joined a b c d e front dimension front_new dimension_new m n first second h k =
    ap (λ x. x ++ dimension_new) (fills (a ++ b ++ c) front front_new m h first)
    ∙ ap (λ x. (a ++ b ++ c) ++ x) (fills (d ++ e ++ []) dimension dimension_new n k second ∙ append-nil (d ++ e))
    ∙ sym (append_assoc (a ++ b ++ c) d e)

-- ---- the elements after a head
few_by : (d : ℕ) (s : List ℕ) (h : ToRead) → SpellsDimensions d s h → h.left ≤ max_length
few_by zero s h p = omega (arith, p.0)
few_by (suc zero) s h p = omega (arith, ints, p.counts.0)
few_by (suc (suc d)) s h p = absurd p

-- a head does not state more elements than a count can say
few : (b : List ℕ) (h : ToRead) → SpellsHead b h → h.left ≤ max_length
few b h p = few_by p.dimension_count p.remaining h p.spells

rest_by : (d : ℕ) (s : List ℕ) (h : ToRead) → SpellsDimensions d s h → length h.bytes ≤ length s
rest_by zero s h p = let same = ap length p.1 in omega (arith, same)
rest_by (suc zero) s h p =
    let all = ap length p.is in
    let parts = length-append p.length_bytes (p.lower_bound_bytes ++ h.bytes) in
    let later = length-append p.lower_bound_bytes h.bytes in
    omega (arith, all, parts, later)
rest_by (suc (suc d)) s h p = absurd p

-- nor are the bytes after it more than all
pub rest_short : (b : List ℕ) (h : ToRead) → SpellsHead b h → length h.bytes ≤ length b
rest_short b h p =
    let all = ap length p.is in
    let parts = length-append p.count_prefix (p.flags_and_oid ++ p.remaining) in
    let later = length-append p.flags_and_oid p.remaining in
    let rest = rest_by p.dimension_count p.remaining h p.spells in
    omega (arith, all, parts, later, rest)

-- so many cells are rewritten as there are elements
prepended : (d : Cell) (o : Outcome (List Cell)) (ds : List Cell) (n : ℕ)
    → ((es : List Cell) → o ≡ Ok es → length es ≡ n) → prepend (d ∷ []) o ≡ Ok ds → length ds ≡ suc n
prepended d (Ok es) ds n same e = let is : ds ≡ d ∷ es = cc in ap length is ∙ ap suc (same es refl)
prepended d (Err r) ds n same e = let no : ⊥ = cc in absurd no

consed : (c : Outcome Cell) (o : Outcome (List Cell)) (ds : List Cell) (n : ℕ)
    → ((es : List Cell) → o ≡ Ok es → length es ≡ n) → cons_cell c o ≡ Ok ds → length ds ≡ suc n
consed (Ok d) o ds n same e = prepended d o ds n same e
consed (Err r) o ds n same e = let no : ⊥ = cc in absurd no

unless_ok : {A : Type 0} (fault : Option Refusal) (o : Outcome A) (v : A) → unless fault o ≡ Ok v → o ≡ Ok v
unless_ok None o v e = e
unless_ok (Some r) o v e = let no : ⊥ = cc in absurd no

cells_length : (k : Kind) (nullable : Bool) (n : ℕ) (s : List ℕ) (ds : List Cell) → rewritten_cells k nullable n s ≡ Ok ds
    → length ds ≡ n
cells_length k nullable zero s ds e =
    let is : Ok [] ≡ Ok ds = unless_ok (first_fault_of (no_trailing s ∷ [])) (Ok []) ds e in
    let none : ds ≡ [] = cc in ap length none
cells_length k nullable (suc n) s ds e =
    consed (rewritten_cell k nullable (cell_in s)) (rewritten_cells k nullable n (after_cell s)) ds n
    (λ es f. cells_length k nullable n (after_cell s) es f)
    (unless_ok (first_fault_of (cell_checks s)) (cons_cell (rewritten_cell k nullable (cell_in s))
    (rewritten_cells k nullable n (after_cell s))) ds e)

-- what the elements are rewritten to is what those of the array are
pub elements_by : (k : Kind) (nullable : Bool) (b old new : List ℕ) (h : ToRead) (o : Outcome (List Cell))
    (result : Result Frames ℕ) → SpellsHead b h → rewritten_cells k nullable h.left h.bytes ≡ o
    → WritesFrames o old new result → WritesElements k nullable b old new result
unfolding WritesElements WritesFrames
elements_by k nullable b old new h (Ok ds) (Ok f) spells e w =
    (ds, record { head = h; spells = spells; are = e }, w)
elements_by k nullable b old new h (Ok ds) (Err n) spells e w = absurd w
elements_by k nullable b old new h (Err r) (Ok f) spells e w = absurd w
elements_by k nullable b old new h (Err r) (Err n) spells e w = (r, inr (h, spells, e), w)

pub count_by : (k : Kind) (nullable : Bool) (b old new : List ℕ) (h : ToRead) (o : Outcome (List Cell))
    (result : Result Frames ℕ) → SpellsHead b h → rewritten_cells k nullable h.left h.bytes ≡ o
    → WritesFrames o old new result → IfOk result (λ f. f.count ≤ max_length)
unfolding WritesFrames
count_by k nullable b old new h (Ok ds) (Ok f) spells e w =
    let many = cells_length k nullable h.left h.bytes ds e in
    let bound = few b h spells in
    omega (arith, w.count, many, bound)
count_by k nullable b old new h (Ok ds) (Err n) spells e w = tt
count_by k nullable b old new h (Err r) (Ok f) spells e w = absurd w
count_by k nullable b old new h (Err r) (Err n) spells e w = tt

head_fails : (k : Kind) (nullable : Bool) (b old new : List ℕ) (n : ℕ) (fault : Option Refusal)
    → IfSome fault (λ r. first_fault_of (head_checks b) ≡ Some r) → IsSome fault → n ≡ option_map_or number_of fault 1
    → WritesElements k nullable b old new (Err n)
unfolding WritesElements
head_fails k nullable b old new n (Some r) fails is number = (r, inl fails, number)
head_fails k nullable b old new n None fails is number = absurd (cc)

-- a head that fails a check is refused
pub head_refused : (k : Kind) (nullable : Bool) (b old new : List ℕ) (n : ℕ) (f : Fault)
    → IfSome (refusal_of f) (λ r. first_fault_of (head_checks b) ≡ Some r) → IsSome (refusal_of f) → n ≡ code_of f
    → WritesElements k nullable b old new (Err n)
head_refused k nullable b old new n f = head_fails k nullable b old new n (refusal_of f)

-- ---- the array
-- elements are rewritten to one list of cells
same_elements : (k : Kind) (nullable : Bool) (b : List ℕ) (ds es : List Cell) → AreElements k nullable b ds
    → AreElements k nullable b es → ds ≡ es
same_elements k nullable b ds es p q =
    let head = head_single b p.head q.head p.spells q.spells in
    let same : Ok ds ≡ Ok es = sym p.are
    ∙ ap (λ (h : ToRead). rewritten_cells k nullable h.left h.bytes) head ∙ q.are in
    cc

-- and do not fail
never_both : (k : Kind) (nullable : Bool) (b : List ℕ) (ds : List Cell) (r : Refusal) → AreElements k nullable b ds
    → FailsWith k nullable b r → ⊥
never_both k nullable b ds r p fails =
    elim fails [
      | inl e ↦ let both : None ≡ Some r = sym (head_passes b p.head p.spells) ∙ e in cc
      | inr q ↦
          let head = head_single b p.head q.0 p.spells q.1 in
          let both : Ok ds ≡ Err r = sym p.are
          ∙ ap (λ (h : ToRead). rewritten_cells k nullable h.left h.bytes) head ∙ q.2 in
          cc
    ]

-- the head and the frames are the array
array_is : (a : ArrayType) (f : Frames) (ds : List Cell) (s : List ℕ) → frames ds ≡ Some s → f.count ≡ length ds
    → f.has_null ≡ has_null ds → f.count ≤ max_length
    → array_bytes (flag_if (not a.is_vector)) a.element ds ≡ Some (head_of a f ++ s)
array_is a f ds s e count null bound =
    let fits : fits_prefix (length ds) ≡ true = grind (arith, nat_tests) in
    rw (fits, e, count, null) refl

-- there is no room for it
pub array_not_written : (k : Kind) (a : ArrayType) (b old nothing_old nothing_new : List ℕ) (f : Frames)
    → WritesElements k (not a.is_vector) b nothing_old nothing_new (Ok f) → f.count ≤ max_length
    → length old < 20 + f.len → WritesArray k a b old old (Ok (20 + f.len))
unfolding WritesArray WritesElements
array_not_written k a b old nothing_old nothing_new f w bound long =
    let ds = w.0 in
    let s = w.2.bytes in
    let len : length (head_of a f ++ s) ≡ 20 + length s = length-append (head_of a f) s in (
      head_of a f ++ s,
      (ds, w.1, array_is a f ds s w.2.are w.2.count w.2.null bound),
      not_written (head_of a f ++ s) old old (20 + f.len) refl (omega (arith, len, long, w.2.len))
          (omega (arith, len, w.2.len)),
    )

-- or it is written part by part
pub array_written : (k : Kind) (a : ArrayType) (b old nothing_old nothing_new head rest head_new rest_new : List ℕ)
    (f g : Frames) → WritesElements k (not a.is_vector) b nothing_old nothing_new (Ok f) → f.count ≤ max_length
    → 20 + f.len ≤ length old → old ≡ head ++ rest → length head ≡ 20 → head_new ≡ head_of a f
    → WritesElements k (not a.is_vector) b rest rest_new (Ok g)
    → WritesArray k a b old (head_new ++ rest_new) (Ok (20 + f.len))
unfolding WritesArray WritesElements
array_written k a b old nothing_old nothing_new head rest head_new rest_new f g w bound room parts whole head_is v =
    let ds = w.0 in
    let s = w.2.bytes in
    let len : length (head_of a f ++ s) ≡ 20 + length s = length-append (head_of a f) s in
    let same : ds ≡ v.0 = same_elements k (not a.is_vector) b ds v.0 w.1 v.1 in
    let both : Some s ≡ Some v.2.bytes = sym w.2.are ∙ ap frames same ∙ v.2.are in
    let again : v.2.bytes ≡ s = cc in
    let all = ap length parts ∙ length-append head rest in
    let rest_is : rest_new ≡ s ++ drop (length s) rest =
    v.2.fits (omega (arith, ap length again, all, whole, room, w.2.len))
    ∙ ap (λ x. x ++ drop (length x) rest) again in
    let left : drop (length (head_of a f ++ s)) old ≡ drop (length s) rest =
    ap (λ n. drop n old) (len ∙ ap (λ n. n + length s) (sym whole)) ∙ ap (drop (length head + length s)) parts
    ∙ sym (drop-drop (length s) (length head) (head ++ rest)) ∙ ap (drop (length s)) (drop-append_seam head rest) in
    let is : head_new ++ rest_new ≡ (head_of a f ++ s) ++ drop (length (head_of a f ++ s)) old =
    ap (λ x. x ++ rest_new) head_is ∙ ap (λ x. head_of a f ++ x) rest_is
    ∙ sym (append_assoc (head_of a f) s (drop (length s) rest)) ∙ ap (λ x. (head_of a f ++ s) ++ x) (sym left) in (
      head_of a f ++ s,
      (ds, w.1, array_is a f ds s w.2.are w.2.count w.2.null bound),
      written (head_of a f ++ s) old (head_new ++ rest_new) (20 + f.len) is (omega (arith, len, room, w.2.len))
          (omega (arith, len, w.2.len)),
    )

-- elements that are sound are so again
pub never_refused : (k : Kind) (a : ArrayType) (b nothing_old nothing_new old new : List ℕ) (f : Frames) (n : ℕ)
    → WritesElements k (not a.is_vector) b nothing_old nothing_new (Ok f)
    → WritesElements k (not a.is_vector) b old new (Err n) → ⊥
unfolding WritesElements
never_refused k a b nothing_old nothing_new old new f n w v =
    never_both k (not a.is_vector) b w.0 v.0 w.1 v.1

-- what is refused is not written
pub array_refused : (k : Kind) (a : ArrayType) (b nothing_old nothing_new old : List ℕ) (n m : ℕ)
    → WritesElements k (not a.is_vector) b nothing_old nothing_new (Err n) → m ≡ n → WritesArray k a b old old (Err m)
unfolding WritesArray WritesElements
array_refused k a b nothing_old nothing_new old n m w same = (w.0, w.1, same ∙ w.2, refl)
