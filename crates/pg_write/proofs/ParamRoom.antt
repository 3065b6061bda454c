-- How much room the frames of parameters take.
use Rattle.std.proofs.Common.{◌≡◌, ◌<◌, ◌≤◌, ◌+◌, ◌++◌, ℕ, zero, suc, List, [], ◌∷◌, length, take, get_or, Option, Some, None}
use Rattle.std.proofs.Common.{Bool, true, false, cond, IfNone, IsSome, Ok, Err, refl, ap, sym, ◌∙◌, subst, pos, negsuc, arith}
use Rattle.std.proofs.Common.{length-append}
use Rattle.std.specs.Int.{w32}
use Rattle.std.specs.List.{AllByRecursion}
use Rattle.bytes.specs.Filled.{Filled}
use Rattle.pg_base.specs.Appending.{KeepsCapacity, Wire}
use Rattle.pg_base.specs.Cells.{Cell, be, concat, fits_prefix, frame, frames}
use Rattle.pg_base.specs.Counts.{count_bytes, number_width}
use Rattle.pg_types.specs.Faults.{Outcome, Refusal}
use Rattle.pg_write.specs.ArrayWriting.{cons_cell, element_cells, element_frame_cell, with_frame}
use Rattle.pg_write.specs.ParamWriting.{FrameFollows, frame_len, frames_len}

-- what follows where it is none
pub if_none_then : {A B : Type 0} (o : Option Refusal) → (A → B) → IfNone o A → IfNone o B
if_none_then None f h = f h
if_none_then (Some r) f h = h

-- where there is room, memory did not run out for want of it
pub with_room : (o : Option Refusal) (len room : ℕ) → IfNone o (room < len) → len ≤ room → IsSome o
with_room None len room h k = let no : ⊥ = omega (arith, h, k) in absurd no
with_room (Some r) len room h k = refl

module _ {A : Type 0} where
  -- what holds of each holds of one
  pub each_at : (P : A → Type 0) (vs : List A) (i : ℕ) (v : A) → i < length vs → v ≡ get_or vs i v → AllByRecursion P vs → P v
  each_at P [] i v h e all = let no : ⊥ = omega (arith, h) in absurd no
  each_at P (x ∷ xs) zero v h e all = subst P (sym e) all.0
  each_at P (x ∷ xs) (suc i) v h e all = each_at P xs i v (omega (arith, h)) e all.1

  -- written forms that are the same take the same room
  pub same_frames_len : (f g : A → Wire) (P : A → Type 0) → ((v : A) → P v → f v ≡ g v) → (vs : List A)
      → AllByRecursion P vs → frames_len f vs ≡ frames_len g vs
  same_frames_len f g P same [] all = refl
  same_frames_len f g P same (v ∷ vs) all = rw (same v all.0, same_frames_len f g P same vs all.1) refl

  -- the frames before one and its own take no more than all
  pub frames_before : (f : A → Wire) (vs : List A) (i : ℕ) (v : A) → i < length vs → v ≡ get_or vs i v
      → frames_len f (take i vs) + frame_len (f v) ≤ frames_len f vs
  frames_before f [] i v h e = let no : ⊥ = omega (arith, h) in absurd no
  frames_before f (x ∷ xs) zero v h e = omega (arith, ap (λ y. frame_len (f y)) e)
  frames_before f (x ∷ xs) (suc i) v h e = omega (arith, frames_before f xs i v (omega (arith, h)) e)

prefixed : (t : Bool) (y b : List ℕ) → cond t (Some y) None ≡ Some b → y ≡ b
prefixed true y b e = cc
prefixed false y b e = let no : ⊥ = cc in absurd no

-- a count takes four bytes
pub count_takes : (n : ℕ) (s : List ℕ) → count_bytes n ≡ Some s → length s ≡ number_width
count_takes n s e = ap length (sym (prefixed (fits_prefix n) (be w32 (pos n)) s e))

-- a frame has four bytes and those of its cell
frame_takes : (c : Cell) (b : List ℕ) → frame c ≡ Some b → length b ≡ frame_len (Ok c)
frame_takes None b e = let same : be w32 (negsuc 0) ≡ b = cc in ap length (sym same)
frame_takes (Some x) b e =
    let same = prefixed (fits_prefix (length x)) (be w32 (pos (length x)) ++ x) b e in
    omega (arith, ap length same, length-append (be w32 (pos (length x))) x)

-- so do the frames of a cell and of others, of which the others have n bytes
pair_takes : (c : Cell) (b : List ℕ) → frame c ≡ Some b → (ds : List Cell) (m : Option (List ℕ)) (n : ℕ) (bs : List ℕ)
    → concat (frame c) m ≡ Some bs → ((y : List ℕ) → m ≡ Some y → length y ≡ n) → length bs ≡ frame_len (Ok c) + n
pair_takes c b e ds None n bs h others =
    let none : concat (Some b) None ≡ Some bs = ap (λ x. concat x None) (sym e) ∙ h in
    let no : ⊥ = cc in absurd no
pair_takes c b e ds (Some y) n bs h others =
    let both : concat (Some b) (Some y) ≡ Some bs = ap (λ x. concat x (Some y)) (sym e) ∙ h in
    let same : b ++ y ≡ bs = cc in
    omega (arith, ap length same, length-append b y, frame_takes c b e, others y refl)

cons_takes : (c : Cell) (m : Option (List ℕ)) → frame c ≡ m → (r : Outcome (List Cell)) (n : ℕ) (cs : List Cell)
    (bs : List ℕ) → cons_cell (with_frame c m) r ≡ Ok cs → frames cs ≡ Some bs
    → ((ds : List Cell) (y : List ℕ) → r ≡ Ok ds → frames ds ≡ Some y → length y ≡ n)
    → length bs ≡ frame_len (Ok c) + n
cons_takes c None e r n cs bs h is others = let no : ⊥ = cc in absurd no
cons_takes c (Some b) e (Err x) n cs bs h is others = let no : ⊥ = cc in absurd no
cons_takes c (Some b) e (Ok ds) n cs bs h is others =
    let same : c ∷ ds ≡ cs = cc in
    pair_takes c b e ds (frames ds) n bs (ap frames same ∙ is) (λ y k. others ds y refl k)

first_takes : (w : Wire) (r : Outcome (List Cell)) (n : ℕ) (cs : List Cell) (bs : List ℕ)
    → cons_cell (element_frame_cell w) r ≡ Ok cs → frames cs ≡ Some bs
    → ((ds : List Cell) (y : List ℕ) → r ≡ Ok ds → frames ds ≡ Some y → length y ≡ n)
    → length bs ≡ frame_len w + n
first_takes (Err x) r n cs bs h is others = let no : ⊥ = cc in absurd no
first_takes (Ok c) r n cs bs h is others = cons_takes c (frame c) refl r n cs bs h is others

-- the frames of cells take as much room as is said of them
pub frames_take : {A : Type 0} (f : A → Wire) (vs : List A) (cs : List Cell) (bs : List ℕ)
    → element_cells f vs ≡ Ok cs → frames cs ≡ Some bs → length bs ≡ frames_len f vs
frames_take f [] cs bs e h =
    let none : [] ≡ cs = cc in
    let same : Some [] ≡ Some bs = ap frames none ∙ h in
    let is : [] ≡ bs = cc in
    ap length (sym is)
frames_take f (v ∷ vs) cs bs e h = first_takes (f v) (element_cells f vs) (frames_len f vs) cs bs e h (frames_take f vs)

-- a frame that was appended took no more room than it has bytes
pub follows_takes : (w : Wire) (old new : Filled) → FrameFollows w old.items new.items → KeepsCapacity old new
    → old.spare ≤ new.spare + frame_len w
follows_takes w old new it kept =
    let own : frame_len w ≡ frame_len (Ok it.cell) = ap frame_len it.cell_is in
    let items : length new.items ≡ length old.items + length it.bytes = ap length it.is ∙ length-append old.items it.bytes in
    omega (arith, kept, own, items, frame_takes it.cell it.bytes it.frame_is)
