-- Bytes that are there, one after another.
use Rattle.std.proofs.Common.{◌≡◌, ◌≤◌, ◌+◌, ◌++◌, ℕ, List, [], ◌∷◌, length, map, Option, Some, None, Bool, true, false}
use Rattle.std.proofs.Common.{cond, pos, Ok, Err, refl, sym, ap, ◌∙◌, subst, arith, append_assoc}
use Rattle.std.proofs.Common.{append-nil, length-append}
use Rattle.std.specs.Bool.{⊤}
use Rattle.std.proofs.lemmas.Bool.Decides.{nat_tests}
use Rattle.std.proofs.lemmas.List.{length-map}
use Rattle.std.specs.Int.{w32}
use Rattle.bytes.specs.Filled.{Filled}
use Rattle.pg_types.specs.declared.fault.Fault.{Fault}
use Rattle.pg_base.specs.Appending.{Appends, Extends, HasRoomFor}
use Rattle.pg_base.specs.Cells.{Cell, be, frame, frames, concat, fits_prefix, max_length}
use Rattle.pg_base.specs.Counts.{count_bytes, number_width}
use Rattle.std.specs.Prelude.{◌<◌}

abbrev pub Bytes : Type 0
Bytes = Option (List ℕ)

pub concat-assoc : (a b c : Bytes) → concat (concat a b) c ≡ concat a (concat b c)
concat-assoc None b c = refl
concat-assoc (Some a) None c = refl
concat-assoc (Some a) (Some b) None = refl
concat-assoc (Some a) (Some b) (Some c) = ap Some (append_assoc a b c)

pub concat-nil : (a : Bytes) → concat a (Some []) ≡ a
concat-nil None = refl
concat-nil (Some a) = ap Some (append-nil a)

pub nil-concat : (a : Bytes) → concat (Some []) a ≡ a
nil-concat None = refl
nil-concat (Some a) = refl

pub frames-append : (cs ds : List Cell) → frames (cs ++ ds) ≡ concat (frames cs) (frames ds)
frames-append [] ds = sym (nil-concat (frames ds))
frames-append (c ∷ cs) ds = ap (concat (frame c)) (frames-append cs ds)
    ∙ sym (concat-assoc (frame c) (frames cs) (frames ds))

pub sum_len : (t x y : List ℕ) → t ≡ x ++ y → length t ≡ length x + length y
sum_len t x y e = subst (λ (s : List ℕ). length s ≡ length x + length y) (sym e) (length-append x y)

-- an appender does not refuse bytes that have room
pub no_refusal : (w : Bytes) (b : List ℕ) (old new : Filled) (fault : Fault) → w ≡ Some b → length b ≤ old.spare
    → Appends w old new (Err fault) → ⊥
no_refusal None b old new fault e h a = let no : ⊥ = cc in no
no_refusal (Some x) b old new fault e h a = let same : x ≡ b = cc in omega (arith, a.2, ap length same)

-- and takes no more room than they do
pub items_and_spare : {u : ⊤} (w : Bytes) (b : List ℕ) (old new : Filled) → w ≡ Some b → Appends w old new (Ok u)
    → (new.items ≡ old.items ++ b) × (old.spare ≤ new.spare + length b)
items_and_spare w b old new e a = subst (λ (w : Bytes). Extends w old new) e a

pub none_of : (o : Bytes) → ((t : List ℕ) → o ≡ Some t → ⊥) → o ≡ None
none_of None h = refl
none_of (Some t) h = absurd (h t refl)

pub cond_passes : (t : Bool) (b : List ℕ) → t ≡ true → cond t (Some b) None ≡ Some b
cond_passes true b e = refl
cond_passes false b e = let no : ⊥ = cc in absurd no

-- a short text has a frame
pub short_frame : (x : List ℕ) → length x ≤ max_length → (b : List ℕ) × (frame (Some x) ≡ Some b)
    × (length b ≡ number_width + length x)
short_frame x h =
    let fits : fits_prefix (length x) ≡ true = grind (arith, nat_tests) in
    let b : List ℕ = be w32 (pos (length x)) ++ x in
    (b, cond_passes (fits_prefix (length x)) b fits, omega (arith, length-append (be w32 (pos (length x))) x))

-- so many have a count
pub short_count : {X Y : Type 0} (f : X → Y) (xs : List X) → length xs ≤ max_length → count_bytes (length (map f xs))
    ≡ Some (be w32 (pos (length xs)))
short_count f xs h =
    let same : length (map f xs) ≡ length xs = length-map xs f in
    let fits : fits_prefix (length xs) ≡ true = grind (arith, nat_tests) in
    ap count_bytes same ∙ cond_passes (fits_prefix (length xs)) (be w32 (pos (length xs))) fits

-- bytes for which there was room
pub extends_by : (b : List ℕ) (old new : Filled) → new.items ≡ old.items ++ b → new.spare + length b ≡ old.spare
    → Extends (Some b) old new
extends_by b old new is left = (is, omega (arith, left))

-- the first bytes were appended, and then the second
pub extends_both : (a b : Bytes) (old mid new : Filled) → Extends a old mid → Extends b mid new
    → Extends (concat a b) old new
extends_both None b old mid new h k = absurd h
extends_both (Some a) None old mid new h k = absurd k
extends_both (Some a) (Some b) old mid new h k = (
  k.0 ∙ ap (λ s. s ++ b) h.0 ∙ append_assoc old.items a b,
  omega (arith, h.1, k.1, length-append a b),
)

-- room for both is room for the first
pub room_for_first : (a b : Bytes) (room : ℕ) → HasRoomFor (concat a b) room → HasRoomFor a room
room_for_first None b room h = absurd h
room_for_first (Some a) None room h = absurd h
room_for_first (Some a) (Some b) room h = omega (arith, h, length-append a b)

-- and when the first were appended there is room for the second
pub room_for_second : (a b : Bytes) (old mid : Filled) → HasRoomFor (concat a b) old.spare → Extends a old mid
    → HasRoomFor b mid.spare
room_for_second None b old mid h k = absurd h
room_for_second (Some a) None old mid h k = absurd h
room_for_second (Some a) (Some b) old mid h k = omega (arith, h, k.1, length-append a b)

-- bytes that are appended to a buffer in which room was reserved
pub appends_reserved : {u : ⊤} (w : Bytes) (old mid new : Filled) → mid.items ≡ old.items → old.spare ≤ mid.spare
    → Extends w mid new → Appends w old new (Ok u)
appends_reserved None old mid new is more h = absurd h
appends_reserved (Some b) old mid new is more h = (h.0 ∙ ap (λ s. s ++ b) is, omega (arith, more, h.1))

-- the frames of cells, and of one more
pub next_frames : (cells : List Cell) (cell : Cell) (bytes more : List ℕ) → frames cells ≡ Some bytes
    → frame cell ≡ Some more → frames (cells ++ cell ∷ []) ≡ Some (bytes ++ more)
next_frames cells cell bytes more so_far next =
    frames-append cells (cell ∷ []) ∙ ap (concat (frames cells)) (concat-nil (frame cell)) ∙ rw (so_far, next) refl

-- bytes that are too many have no frame
pub long_frame : (b : List ℕ) → max_length < length b → frame (Some b) ≡ None
long_frame b h =
    let t : fits_prefix (length b) ≡ false = grind (arith, nat_tests) in
    ap (λ t. cond t (Some (be w32 (pos (length b)) ++ b)) None) t
