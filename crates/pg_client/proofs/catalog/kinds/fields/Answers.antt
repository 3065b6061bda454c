-- What the proof of `fields` answers by hand.
use Rattle.std.proofs.Common.{rules, arith, ◌≡◌, ◌∙◌, sym, ℕ, ◌+◌, ◌<◌, length, List, [], ◌∷◌, ◌++◌, get_or, take}
use Rattle.std.proofs.Common.{length-append}
use Rattle.std.proofs.Math.Seq.{take-length}
use Rattle.std.proofs.lemmas.List.{take_more}
use Rattle.std.proofs.lemmas.Slice.Zip.{zip_turn, zip_end, length-zip, get_or-zip, all_zipped_more}
use Rattle.std.specs.Iterator.Adapters.{zip_first, zip_second}
use Rattle.std.specs.List.{AllZip, zip}
use Rattle.std.specs.Slice.Iter.{iter_rest}
use Rattle.pg_client.proofs.catalog.kinds.fields.Goals as goal

-- one more of two lists on the one side, and of a third on the other
pairs_more : {A B C : Type 0} (R : A × B → C → Type 0) (ks : List A) (vs : List B) (fs : List C) (i : ℕ) (k : A) (v : B)
    (f : C) → i < length ks → i < length vs → k ≡ get_or ks i k → v ≡ get_or vs i v
    → AllZip R (take i (zip ks vs)) fs → R (k, v) f → AllZip R (take (i + 1) (zip ks vs)) (fs ++ f ∷ [])
pairs_more R ks vs fs i k v f a b e g h r =
    let short : i < length (zip ks vs) = omega (arith, length-zip ks vs) in
    let at : get_or (zip ks vs) i (k, v) ≡ (k, v) = get_or-zip ks vs i (k, v) a b ∙ cc in
    rw (take_more (zip ks vs) i (k, v) short, at) (all_zipped_more R (take i (zip ks vs)) fs (k, v) f h r)

-- src/catalog/kinds.rt:126:5
pub loop-name-preserved : goal.loop-name-preserved
loop-name-preserved c =
    let ks = c.args.names.now in
    let vs = c.args.types.now in
    let s = c.into_iter-name-iterator.result in
    let first : iter_rest (zip_first s) ≡ ks = search rules in
    let second : iter_rest (zip_second s) ≡ vs = search rules in
    let turn = zip_turn ks vs c.loop-name.yielded s c.loop-name.name-iterator c.next.new.self c.next.result first second
    c.loop-name.yielded_by (c.in-Some.name, c.in-Some.oid) c.in-Some.is c.next.ensures.steps in
    let more = pairs_more _ ks vs c.loop-name.fields.items (length c.loop-name.yielded) c.in-Some.name.now
    c.in-Some.oid.now c.new.result turn.0 turn.1 (turn.2 _) (turn.3 _) c.loop-name.invariant
    (search (rules, c.in_ok-ty.ensures.part)) in
    let yielded = c.loop-name.yielded in
    let last = (c.in-Some.name, c.in-Some.oid) ∷ [] in
    let longer : length (yielded ++ last) ≡ length yielded + 1 = length-append yielded last in
    rw (longer, c.in_ok-push.ensures.items) more

-- src/catalog/kinds.rt:113:1
pub returns-clause-fields : goal.returns-clause-fields
returns-clause-fields c =
    let ks = c.args.names.now in
    let vs = c.args.types.now in
    let s = c.into_iter-name-iterator.result in
    let first : iter_rest (zip_first s) ≡ ks = search rules in
    let second : iter_rest (zip_second s) ≡ vs = search rules in
    let end = zip_end ks vs c.loop-name.yielded s c.loop-name.name-iterator c.next.new.self c.next.result first second
    c.loop-name.yielded_by c.in-None.is c.next.ensures.steps in
    let all : length c.loop-name.yielded ≡ length (zip ks vs) = end ∙ sym (length-zip ks vs) in
    (search rules, rw (all, take-length (zip ks vs)) at c.loop-name.invariant)
