-- What the proof of `sort_entries` answers by hand.
use Rattle.std.proofs.Common.{◌≡◌, ◌++◌, [], List, None, map, sym, ap, ◌∙◌, subst, rules, append-nil, Global}
use Rattle.std.proofs.Common.{Option, String, drop, length, take}
use lib.Seq.{take-append_seam}
use Rattle.std.proofs.lemmas.List.Sorted.{length_permutation}
use Rattle.std.specs.List.{IsDistinct}
use Rattle.std.specs.List.Sorted.{IsPermutation}
use Rattle.std.specs.Str.{bytes_eq}
use Rattle.std.proofs.lemmas.Cmp.{nat_list_eq_equiv}
use Rattle.std.proofs.lemmas.List.Sorted.{IsPermutation-map, answers_always}
use Rattle.std.proofs.lemmas.Map.Keys.{IsDistinct-IsPermutation}
use Rattle.pg_base.specs.Hstore.{Entry, borrowed_entry, owned_entry}
use Rattle.pg_write.proofs.KeyOrder.{BorrowedEntry, strictly_sorted, distinct_bytes}
use Rattle.pg_write.proofs.Insertion.{sorted_in_order}
use Rattle.pg_write.proofs.hstore.sort_entries.Goals as goal

pub returns-clause-sorted : goal.returns-clause-sorted
returns-clause-sorted g c =
    let items : List BorrowedEntry = c.loop-key.entries.items in
    let ordered : List BorrowedEntry = c.sort_unstable_by_key.new.self in
    let owned : List Entry = map owned_entry c.args.store.now.entries in
    let whole : map borrowed_entry items ≡ owned
    = sym (append-nil (map borrowed_entry items))
    ∙ sym (ap (λ (es : List (String Global × Option (String Global))). map borrowed_entry items ++ map owned_entry es)
    c.in-None.ensures.steps.0)
    ∙ c.loop-key.invariant in
    let shuffled : IsPermutation items ordered =
    subst (λ (l : List BorrowedEntry). IsPermutation l ordered) c.as_mut_slice.ensures.value
    c.sort_unstable_by_key.ensures.permutation in
    let moved : IsPermutation owned (map borrowed_entry ordered)
    = subst (λ (l : List Entry). IsPermutation l (map borrowed_entry ordered)) whole
    (IsPermutation-map borrowed_entry items ordered shuffled) in
    let differ : IsDistinct bytes_eq (map (λ e. e.0) owned) =
    distinct_bytes c.args.store.now.entries c.iter-key-items.ensures.unique in
    let still : IsDistinct bytes_eq (map (λ e. e.0) (map borrowed_entry ordered))
    = IsDistinct-IsPermutation bytes_eq (λ x y. nat_list_eq_equiv.symm x y) _ _
    (IsPermutation-map (λ (e : Entry). e.0) _ _ moved) differ in
    let sorted = strictly_sorted ordered (record { ref_ptr = (0, 0); now = [] }, None)
    (c.sort_unstable_by_key.ensures.sorted (λ e. e.0) (answers_always _ _ _ (λ a r q k. search rules))) still in
    let long = length_permutation items ordered shuffled in
    let rest : List BorrowedEntry = drop (length ordered) items in
    let written : take (length items) (ordered ++ rest) ≡ ordered =
    ap (λ n. take n (ordered ++ rest)) (sym long) ∙ take-append_seam ordered rest in
    ap (map borrowed_entry) written ∙ sorted_in_order owned (map borrowed_entry ordered) moved differ still sorted
