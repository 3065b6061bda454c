-- Forms one after another: how long their bytes are, and what a buffer gains by them.
use Rattle.std.proofs.Common.{◌≡◌, ◌≤◌, ◌<◌, ◌+◌, ◌-◌, ◌^◌, ◌++◌, ℕ, List, [], ◌∷◌, length, map, min, drop, get_or, Ok, Err}
use Rattle.std.proofs.Common.{◌==◌, ◌*◌, pos, nat_le, true, false, cond, if◌then◌else◌, codes, refl, sym, ap, ◌∙◌}
use Rattle.std.proofs.Common.{Bool, subst, append_assoc, append-nil, arith, length-append}
use Rattle.std.proofs.lemmas.List.{drop_all, drop_more}
use Rattle.std.proofs.lemmas.Bool.Decides.{nat_tests}
use Rattle.std.specs.Int.{to_be_bytes, w16, w32}
use Rattle.bytes.specs.Filled.{Filled}
use Rattle.std.specs.List.{list_any}
use Rattle.pg_base.specs.Cells.{be, fits_prefix}
use Rattle.pg_types.specs.Faults.{Refusal, user}
use Rattle.pg_messages.specs.Fields.{Extends, Form, HasRoomFor, Measures, after, joined, name_form, oid_form}
use Rattle.pg_messages.specs.Fields.{oids_form, sized, string, sum}

after-after : (a b : List ℕ) (f : Form) → after a (after b f) ≡ after (a ++ b) f
after-after a b (Ok c) = ap Ok (sym (append_assoc a b c))
after-after a b (Err r) = refl

after-nil : (f : Form) → f ≡ after [] f
after-nil (Ok b) = refl
after-nil (Err r) = refl

-- the forms of the items are the bytes of the first, and then the forms of those from a place on
pub record Summed {X : Type 0} (form : X → Form) (xs : List X) (place : ℕ) : Type 0 where
  pub front : List ℕ
  pub sum_is : sum (map form xs) ≡ after front (sum (map form (drop place xs)))

-- and so many bytes they are, as a number of 8 bytes has it
pub record Counted {X : Type 0} (form : X → Form) (xs : List X) (place len : ℕ) : Type 0 where
  pub summed : Summed form xs place
  pub len_is : len ≡ min (length summed.front) (2 ^ 64 - 1)

-- they stand after what a buffer had at the start, and took no more room than themselves
pub record Extended {X : Type 0} (form : X → Form) (xs : List X) (place : ℕ) (start now : Filled) : Type 0 where
  pub summed : Summed form xs place
  pub items : now.items ≡ start.items ++ summed.front
  pub spare : start.spare ≤ now.spare + length summed.front

-- the first of two forms has room, if both have
room_for : (f g : Form) (front : List ℕ) (start now : ℕ) → start ≤ now + length front
    → HasRoomFor (after front (joined f g)) start → HasRoomFor f now
room_for (Ok b) (Ok c) front start now h fits = omega (arith, h, fits, length-append front (b ++ c), length-append b c)
room_for (Ok b) (Err r) front start now h fits = absurd fits
room_for (Err r) g front start now h fits = absurd fits

-- what was appended
bytes_of : (f : Form) (old new : Filled) → Extends f old new
    → (b : List ℕ) × (f ≡ Ok b) × (new.items ≡ old.items ++ b) × (old.spare ≤ new.spare + length b)
bytes_of (Ok b) old new e = (b, refl, e.0, e.1)
bytes_of (Err r) old new e = absurd e

module _ {X : Type 0} (form : X → Form) (xs : List X) where
  -- nothing is summed yet
  starts : sum (map form xs) ≡ after [] (sum (map form (drop 0 xs)))
  starts = after-nil (sum (map form xs))

  pub none_counted : Counted form xs 0 0
  none_counted = record { summed = record { front = []; sum_is = starts }; len_is = refl }

  pub none_extended : (start : Filled) → Extended form xs 0 start start
  none_extended start = record {
    summed = record { front = []; sum_is = starts };
    items = sym (append-nil start.items);
    spare = omega arith;
  }

  -- the form at the place, and those after it
  at_place : (place : ℕ) (d : X) → place < length xs → (s : Summed form xs place)
      → sum (map form xs) ≡ after s.front (joined (form (get_or xs place d)) (sum (map form (drop (place + 1) xs))))
  at_place place d h s = s.sum_is ∙ ap (λ rest. after s.front (sum (map form rest))) (drop_more xs place d h)

  -- one item more
  next : (place : ℕ) (d : X) (b : List ℕ) → place < length xs → form (get_or xs place d) ≡ Ok b
      → (s : Summed form xs place) → sum (map form xs) ≡ after (s.front ++ b) (sum (map form (drop (place + 1) xs)))
  next place d b h is s =
      let rest = sum (map form (drop (place + 1) xs)) in
      at_place place d h s ∙ ap (λ f. after s.front (joined f rest)) is ∙ after-after s.front b rest

  pub one_counted : (place len n : ℕ) (d : X) → place < length xs → Measures (form (get_or xs place d)) (Ok n)
      → Counted form xs place len → Counted form xs (place + 1) (min (len + n) (2 ^ 64 - 1))
  one_counted place len n d h item c = record {
    summed = record { front = c.summed.front ++ item.0; sum_is = next place d item.0 h item.1 c.summed };
    len_is = omega (arith, c.len_is, item.2, length-append c.summed.front item.0);
  }

  -- an item that is refused
  pub refused : (place : ℕ) (d : X) (r : Refusal) → place < length xs → form (get_or xs place d) ≡ Err r
      → Summed form xs place → sum (map form xs) ≡ Err r
  refused place d r h is s =
      at_place place d h s ∙ ap (λ f. after s.front (joined f (sum (map form (drop (place + 1) xs))))) is

  -- all items
  pub whole : (place : ℕ) → length xs ≤ place → (s : Summed form xs place) → sum (map form xs) ≡ Ok s.front
  whole place h s =
      s.sum_is ∙ ap (λ rest. after s.front (sum (map form rest))) (drop_all place xs h) ∙ ap Ok (append-nil s.front)

  -- there is room for the next item, if there was room for all
  pub room : (place : ℕ) (d : X) (start now : Filled) → place < length xs → HasRoomFor (sum (map form xs)) start.spare
      → Extended form xs place start now → HasRoomFor (form (get_or xs place d)) now.spare
  room place d start now h fits e =
      room_for (form (get_or xs place d)) (sum (map form (drop (place + 1) xs))) e.summed.front start.spare now.spare
      e.spare (subst (λ f. HasRoomFor f start.spare) (at_place place d h e.summed) fits)

  -- and then it stands there
  pub one_extended : (place : ℕ) (d : X) (start now new : Filled) → place < length xs → Extended form xs place start now
      → Extends (form (get_or xs place d)) now new → Extended form xs (place + 1) start new
  one_extended place d start now new h e gained =
      let b = bytes_of (form (get_or xs place d)) now new gained in
      record {
        summed = record { front = e.summed.front ++ b.0; sum_is = next place d b.0 h b.1 e.summed };
        items = b.2 ∙ ap (λ s. s ++ b.0) e.items ∙ append_assoc start.items e.summed.front b.0;
        spare = omega (arith, e.spare, b.3, length-append e.summed.front b.0);
      }

  -- all items stand there
  pub all_extended : (place : ℕ) (start now : Filled) → length xs ≤ place → Extended form xs place start now
      → Extends (sum (map form xs)) start now
  all_extended place start now h e =
      subst (λ f. Extends f start now) (sym (whole place h e.summed)) (e.items, e.spare)

-- a text without a zero byte has a form
pub plain_string : (text : List ℕ) → list_any (λ byte. byte == 0) text ≡ false → string text ≡ Ok (text ++ 0 ∷ [])
plain_string text plain =
    ap (λ b. cond b (Err (user (codes "zero byte in a text"))) (Ok (text ++ 0 ∷ []))) plain

-- the name of a parameter, where it is not empty
named_if : (empty : Bool) (name : List ℕ) (room : ℕ)
    → HasRoomFor (if empty then Err (user (codes "empty name of a parameter")) else string name) room
    → (if empty then Err (user (codes "empty name of a parameter")) else string name) ≡ string name
named_if true name room h = absurd h
named_if false name room h = refl

pub named : (name : List ℕ) (room : ℕ) → HasRoomFor (name_form name) room → name_form name ≡ string name
named name room h = named_if (length name == 0) name room h

-- two forms are as long as both
pub pair_counted : (f g : Form) (m n : ℕ) → Measures f (Ok m) → Measures g (Ok n)
    → Measures (joined f g) (Ok (min (m + n) (2 ^ 64 - 1)))
pair_counted f g m n a b =
    (a.0 ++ b.0, rw (a.1, b.1) refl, omega (arith, a.2, b.2, length-append a.0 b.0))

-- OIDs are four bytes each
oids_len : (oids : List ℕ) → (b : List ℕ) × (sum (map oid_form oids) ≡ Ok b) × (length b ≡ 4 * length oids)
oids_len [] = ([], refl, refl)
oids_len (oid ∷ oids) =
    let p = oids_len oids in
    (to_be_bytes w32 oid ++ p.0, rw p.1 refl, omega (arith, p.2, length-append (to_be_bytes w32 oid) p.0))

-- after their number
pub oids_counted : (oids : List ℕ) → length oids ≤ 65535 → Measures (oids_form oids) (Ok (2 + 4 * length oids))
oids_counted oids few =
    let p = oids_len oids in
    let fits : nat_le (length oids) 65535 ≡ true = grind (arith, nat_tests) in
    let number = to_be_bytes w16 (length oids) in (
      number ++ p.0,
      rw (fits, p.1) refl,
      omega (arith, p.2, few, length-append number p.0),
    )

-- room for two forms is room for the first
pub room_first : (f g : Form) (room : ℕ) → HasRoomFor (joined f g) room → HasRoomFor f room
room_first (Ok a) (Ok b) room h = omega (arith, h, length-append a b)
room_first (Ok a) (Err r) room h = absurd h
room_first (Err r) g room h = absurd h

-- and, once that was appended, for the second
pub room_second : (f g : Form) (old new : Filled) → HasRoomFor (joined f g) old.spare → Extends f old new
    → HasRoomFor g new.spare
room_second (Ok a) (Ok b) old new h e = omega (arith, h, e.1, length-append a b)
room_second (Ok a) (Err r) old new h e = absurd h
room_second (Err r) g old new h e = absurd h

-- both stand there
pub both_extended : (f g : Form) (old mid new : Filled) → Extends f old mid → Extends g mid new
    → Extends (joined f g) old new
both_extended (Ok a) (Ok b) old mid new e d =
    (d.0 ∙ ap (λ s. s ++ b) e.0 ∙ append_assoc old.items a b, omega (arith, e.1, d.1, length-append a b))
both_extended (Ok a) (Err r) old mid new e d = absurd d
both_extended (Err r) g old mid new e d = absurd e

-- bytes after their number
pub sized_counted : (b : List ℕ) → length b ≤ 2147483647 → Measures (sized b) (Ok (4 + length b))
sized_counted b short =
    let fits : fits_prefix (length b) ≡ true = grind (arith, nat_tests) in
    let number = be w32 (pos (length b)) in
    (number ++ b, rw fits refl, omega (arith, short, length-append number b))
