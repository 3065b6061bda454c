-- What the proof of `sorted_entries` answers by hand.
use Rattle.std.proofs.Common.{◌≡◌, ◌++◌, [], List, None, Option, String, Global, length, map, sym, ap, ◌∙◌, subst}
use Rattle.std.proofs.Common.{rules}
use Rattle.std.specs.List.Sorted.{IsPermutation}
use Rattle.std.specs.Ordering.{is_lt}
use Rattle.std.proofs.lemmas.List.{append-nil}
use Rattle.std.proofs.lemmas.List.Sorted.{IsPermutation-map, answers_always}
use Rattle.postgres_types.specs.Hstore.{Entry, borrowed_entry, owned_entry}
use Rattle.pg_text.specs.Maps.{key_order}
use Rattle.pg_text.proofs.Maps.{BorrowedEntry, sorted_map}
use Rattle.pg_text.proofs.hstore.sorted_entries.Goals as goal

pub returns-clause-sorted : goal.returns-clause-sorted
returns-clause-sorted c =
    sorted_map borrowed_entry (λ a b. is_lt (key_order a.0 b.0)) (record { ref_ptr = (0, 0); now = [] }, None)
    c.sort_unstable_by_key.new.self.items
    (c.sort_unstable_by_key.ensures.sorted (λ e. (length e.0.now, e.0))
    (answers_always _ _ _ (λ a r q k. search rules)))

pub returns-clause-permutation : goal.returns-clause-permutation
returns-clause-permutation c =
    let items : List BorrowedEntry = c.loop-key.entries.items in
    let ordered : List BorrowedEntry = c.sort_unstable_by_key.new.self.items in
    let owned : List Entry = map owned_entry c.args.store.now.entries in
    let whole : map borrowed_entry items ≡ owned
    = sym (append-nil (map borrowed_entry items))
    ∙ sym (ap (λ (es : List (String Global × Option (String Global))). map borrowed_entry items ++ map owned_entry es)
    c.in-None.ensures.steps.0)
    ∙ c.loop-key.invariant in
    subst (λ (l : List Entry). IsPermutation l (map borrowed_entry ordered)) whole
    (IsPermutation-map borrowed_entry items ordered c.sort_unstable_by_key.ensures.permutation)
