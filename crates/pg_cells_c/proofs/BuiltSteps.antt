-- Steps of what builders are for.
use Rattle.std.specs.Prelude.{◌≡◌, ◌==◌, ◌||◌, ℕ, ◌+◌, ◌<◌, ◌≤◌, List, [], ◌∷◌, ◌++◌, length, take, drop, Bool}
use Rattle.std.specs.Prelude.{true}
use Rattle.std.specs.Prelude.{false, not, if◌then◌else◌, nat_lt, Option, Some, None, option_map, refl}
use Rattle.std.specs.List.{list_any}
use Rattle.std.proofs.Common.{arith, ap, sym, subst, ◌∙◌, append_assoc, leb-true}
use Rattle.std.proofs.lemmas.Bool.Decides.{nat_tests}
use Rattle.std.proofs.lemmas.List.{append-nil, drop-drop, drop_at, length-append, length-take-le, take_at}
use Rattle.std.proofs.lemmas.List.{take-append-drop}
use Rattle.std.proofs.lemmas.List.Folds.{list_any-append}
use Rattle.pg_base.specs.Cells.{concat, max_length}
use Rattle.pg_cells_c.specs.Builders.{Pushes, PutsItem, has_room, with_item}
use Rattle.pg_cells_c.specs.Built.{Builds, OpensEmpty, PushesLast, PushesWrittenLast, and_item, items_bytes, was_pushed}
use Rattle.pg_cells_c.specs.Writings.{no_cell}
use Rattle.pg_cells_c.specs.declared.builders.Builder.{Builder}
use Rattle.std.proofs.lemmas.Bool.{and_right}

-- no items, in a buffer that has room for the head
pub opened_builds : {A : Type 0} (spell : A → Option (List ℕ)) (null : A → Bool) (width : ℕ)
    → OpensEmpty spell null width
opened_builds spell null width buffer room =
    record {
      room = take width buffer;
      bytes = [];
      rest = drop width buffer;
      is = sym (take-append-drop width buffer);
      wide = length-take-le width buffer room;
      spelled = refl;
      ends = omega arith;
      counts = refl;
      null = refl;
    }

-- bytes after those that follow first ones
concat_more : (o p : Option (List ℕ)) (s : List ℕ)
    → concat o (option_map (λ r. r ++ s) p) ≡ option_map (λ r. r ++ s) (concat o p)
concat_more None p s = refl
concat_more (Some a) None s = refl
concat_more (Some a) (Some r) s = ap Some (sym (append_assoc a r s))

-- the bytes of items and of one more
items_snoc : {A : Type 0} (spell : A → Option (List ℕ)) (items : List A) (x : A) (s : List ℕ) → spell x ≡ Some s
    → items_bytes spell (items ++ x ∷ []) ≡ option_map (λ r. r ++ s) (items_bytes spell items)
items_snoc spell [] x s is = rw is (ap Some (append-nil s))
items_snoc spell (y ∷ items) x s is =
    rw (items_snoc spell items x s is) (concat_more (spell y) (items_bytes spell items) s)

-- whether one of them is NULL
or_last : (a b : Bool) (old : ℕ) → old ≡ (if a then 1 else 0)
    → (if b then 1 else old) ≡ (if a || (b || false) then 1 else 0)
or_last true true old is = refl
or_last true false old is = is
or_last false true old is = refl
or_last false false old is = is

any_snoc : {A : Type 0} (null : A → Bool) (items : List A) (x : A) (old : ℕ)
    → old ≡ (if list_any null items then 1 else 0)
    → (if null x then 1 else old) ≡ (if list_any null (items ++ x ∷ []) then 1 else 0)
any_snoc null items x old is =
    or_last (list_any null items) (null x) old is
    ∙ ap (λ t. if t then 1 else 0) (sym (list_any-append null items (x ∷ [])))

-- bytes are put after those that stand in the buffer
put_after : (at : ℕ) (room bytes s rest old : List ℕ) → old ≡ room ++ (bytes ++ rest) → at ≡ length room + length bytes
    → take at old ++ (s ++ drop (at + length s) old) ≡ room ++ ((bytes ++ s) ++ drop (length s) rest)
put_after at room bytes s rest old is place =
    let front = room ++ bytes in
    let len : length front ≡ at = length-append room bytes ∙ sym place in
    let parts : old ≡ front ++ rest = is ∙ sym (append_assoc room bytes rest) in
    let first : take at old ≡ front = ap (take at) parts ∙ take_at front rest at len in
    let after : drop (at + length s) old ≡ drop (length s) rest =
    sym (drop-drop (length s) at old) ∙ ap (λ o. drop (length s) (drop at o)) parts
    ∙ ap (drop (length s)) (drop_at front rest at len) in
    ap (λ f. f ++ (s ++ drop (at + length s) old)) first ∙ ap (λ d. front ++ (s ++ d)) after
    ∙ append_assoc room bytes (s ++ drop (length s) rest)
    ∙ ap (λ r. room ++ r) (sym (append_assoc bytes s (drop (length s) rest)))

-- one item more stands in the buffer
item_builds : {A : Type 0} (spell : A → Option (List ℕ)) (null : A → Bool) (width : ℕ) (b : Builder) (old : List ℕ)
    (items : List A) (x : A) (s : List ℕ) → spell x ≡ Some s → Builds spell null width b old items
    → Builds spell null width (with_item (length s) (null x) b) (take b.len old ++ (s ++ drop (b.len + length s) old))
    (items ++ x ∷ [])
item_builds spell null width b old items x s is built =
    record {
      room = built.room;
      bytes = built.bytes ++ s;
      rest = drop (length s) built.rest;
      is = put_after b.len built.room built.bytes s built.rest old built.is
          (built.ends ∙ ap (λ k. k + length built.bytes) (sym built.wide));
      wide = built.wide;
      spelled = items_snoc spell items x s is ∙ ap (option_map (λ r. r ++ s)) built.spelled;
      ends = omega (arith, built.ends, length-append built.bytes s);
      counts = omega (arith, built.counts, length-append items (x ∷ []));
      null = any_snoc null items x b.has_null built.null;
    }

-- an item that has room was pushed, and no other
pushed_true : (n : ℕ) (b : Builder) (old : List ℕ) → n < no_cell → has_room b.len n (length old) ≡ true
    → was_pushed n b old ≡ true
pushed_true n b old few room = let other : (n == no_cell) ≡ false = grind (arith, nat_tests) in rw (other, room) refl

pushed_false : (n : ℕ) (b : Builder) (old : List ℕ) → has_room b.len n (length old) ≡ false → was_pushed n b old ≡ false
pushed_false n b old room = rw room (and_right (not (n == no_cell)) false refl)

some_by : {A : Type 0} (spell : A → Option (List ℕ)) (null : A → Bool) (width : ℕ) (b c : Builder) (old new : List ℕ)
    (items : List A) (x : A) (s : List ℕ) (n : ℕ) (room : Bool) → has_room b.len (length s) (length old) ≡ room
    → spell x ≡ Some s → length old < no_cell → Builds spell null width b old items
    → PutsItem (Some s) (null x) b c old new n → Builds spell null width c new (and_item (was_pushed n b old) items x)
some_by spell null width b c old new items x s n true room is short built puts =
    let inside : b.len + length s ≤ length old = leb-true (b.len + length s) (length old) room in
    let few : n < no_cell = omega (arith, puts.2, inside) in
    let was : was_pushed n b old ≡ true =
    pushed_true n b old few (ap (λ k. has_room b.len k (length old)) puts.2 ∙ room) in
    let new_is : new ≡ take b.len old ++ (s ++ drop (b.len + length s) old) = puts.0 ∙ rw room refl in
    let c_is : c ≡ with_item (length s) (null x) b = puts.1 ∙ rw room refl in
    rw was (subst (λ k. Builds spell null width k new (items ++ x ∷ [])) (sym c_is)
    (subst (λ k. Builds spell null width (with_item (length s) (null x) b) k (items ++ x ∷ [])) (sym new_is)
    (item_builds spell null width b old items x s is built)))
some_by spell null width b c old new items x s n false room is short built puts =
    let was : was_pushed n b old ≡ false =
    pushed_false n b old (ap (λ k. has_room b.len k (length old)) puts.2 ∙ room) in
    let new_is : new ≡ old = puts.0 ∙ rw room refl in
    let c_is : c ≡ b = puts.1 ∙ rw room refl in
    rw was (subst (λ k. Builds spell null width k new items) (sym c_is)
    (subst (λ k. Builds spell null width b k items) (sym new_is) built))

none_builds : {A : Type 0} (spell : A → Option (List ℕ)) (null : A → Bool) (width : ℕ) (b c : Builder)
    (old new : List ℕ) (items : List A) (x : A) (n : ℕ) → Builds spell null width b old items
    → PutsItem None (null x) b c old new n → Builds spell null width c new (and_item (was_pushed n b old) items x)
none_builds spell null width b c old new items x n built puts =
    let was : was_pushed n b old ≡ false = ap (λ k. was_pushed k b old) puts.2 in
    rw was (subst (λ k. Builds spell null width k new items) (sym puts.1)
    (subst (λ k. Builds spell null width b k items) (sym puts.0) built))

push_by : {A : Type 0} (spell : A → Option (List ℕ)) (null : A → Bool) (width : ℕ) (b c : Builder) (old new : List ℕ)
    (items : List A) (x : A) (n : ℕ) (counted : Bool) (o : Option (List ℕ)) → spell x ≡ o → length old < no_cell
    → Builds spell null width b old items → PutsItem (if counted then o else None) (null x) b c old new n
    → Builds spell null width c new (and_item (was_pushed n b old) items x)
push_by spell null width b c old new items x n false o is short built puts =
    none_builds spell null width b c old new items x n built puts
push_by spell null width b c old new items x n true None is short built puts =
    none_builds spell null width b c old new items x n built puts
push_by spell null width b c old new items x n true (Some s) is short built puts =
    some_by spell null width b c old new items x s n (has_room b.len (length s) (length old)) refl is short built puts

-- an item that is pushed is the last one
pub push_builds : {A : Type 0} (spell : A → Option (List ℕ)) (null : A → Bool) (width : ℕ)
    → PushesLast spell null width
unfolding Pushes
push_builds spell null width b c old new items x n short built pushes =
    push_by spell null width b c old new items x n (nat_lt b.count max_length) (spell x) refl short built pushes

-- and so is one whose cell was written before
pub written_builds : {A : Type 0} (spell : A → Option (List ℕ)) (null : A → Bool) (width : ℕ) (item : List ℕ → A)
    (prefix : ℕ) → ((cell : List ℕ) → null (item cell) ≡ false) → PushesWrittenLast spell null width item prefix
written_builds spell null width item prefix whole b c old new items len n short built writes = (
  writes.0,
  writes.1,
  push_builds spell null width b c old new items (item writes.0) n short built
      (subst (λ t. Pushes (spell (item writes.0)) t b c old new n) (sym (whole writes.0)) writes.2),
)
