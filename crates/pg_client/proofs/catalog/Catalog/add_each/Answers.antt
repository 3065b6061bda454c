-- What the proof of `add_each` answers by hand.
use Rattle.std.proofs.Common.{arith, ap, refl, ◌∙◌, length, length-append, ◌+◌, ◌≡◌, ◌∷◌, ◌++◌, [], take, slice_index}
use Rattle.std.proofs.Math.Seq.{take-length}
use Rattle.std.proofs.lemmas.List.{take_more}
use Rattle.pg_client.specs.WholeCatalogs.{IsMadeAt, IsStuck}
use Rattle.pg_client.specs.declared.catalog.left.Left.{Left}
use Rattle.pg_client.proofs.CatalogGrowth.{grows_both}
use Rattle.pg_client.proofs.RefusedRows.{among_left, among_more, ascend_more, more_left, more_made, more_stuck}
use Rattle.pg_client.proofs.catalog.Catalog.add_each.Goals as goal
use Rattle.pg_client.proofs.catalog.Catalog.add_each.Goals.{in-Some+in_ok-push, in_default}

pub loop-place-preserved : goal.loop-place-preserved
loop-place-preserved c =
    let rows = c.args.rows.now in
    let places = c.args.places.now in
    let i = c.loop-place.place-index in
    let start = c.args.self.now.types in
    let before = c.loop-place.self.types in
    let after = c.add_at.new.self.types in
    let left = c.loop-place.left.items in
    let place = slice_index places i in
    let own = c.in_ok-fault.ensures in
    let was = c.loop-place.invariant in
    let more : take (i + 1) places ≡ take i places ++ place ∷ [] = take_more places i 0 c.loop-place-test.true in
    let now = c.match-branch-2.left.items in
    elim c.match-branch-2.branch [
      | in-Some+in_ok-push w ↦
          let row : Left = record { place = place; fault = w.in-Some.fault } in
          let items : now ≡ left ++ row ∷ [] = rw w.left-is w.in_ok-push.ensures.items in
          let long : length now ≡ length left + 1 = ap length items ∙ length-append left (row ∷ []) in
          let kept : after.entries ≡ before.entries = own.kept (rw w.in-Some.is refl) in
          let why : IsStuck after rows place w.in-Some.fault = rw w.in-Some.is at own.why in
          record {
            grows = grows_both rows start before after was.grows own.grows;
            all = rw (more, items) (more_left rows before after (take i places) left row own.grows was.all);
            among = rw (more, items) (among_left (take i places) left row was.among);
            order = λ ascend. rw items (ascend_more places i left row c.loop-place-test.true refl ascend was.among
                (was.order ascend));
            fewer = omega (arith, long, was.fewer);
            stuck = λ full. rw items (more_stuck rows before after left row kept (was.stuck (omega (arith, long, full))) why);
            refused = own.refused ∙ was.refused;
          }
      | in_default w ↦
          let items : now ≡ left = rw w.left-is refl in
          let made : IsMadeAt after rows place = rw w.in_default.is at own.made in
          record {
            grows = grows_both rows start before after was.grows own.grows;
            all = rw (more, items) (more_made rows before after (take i places) left place own.grows was.all made);
            among = rw (more, items) (among_more (take i places) left place was.among);
            order = λ ascend. rw items (was.order ascend);
            fewer = omega (arith, ap length items, was.fewer);
            stuck = λ full. absurd (omega (arith, ap length items, was.fewer, full));
            refused = own.refused ∙ was.refused;
          }
    ]

pub returns-clause-all : goal.returns-clause-all
returns-clause-all c =
    let places = c.args.places.now in
    let i = c.loop-place.place-index in
    let all : i ≡ length places = omega arith in
    let whole : take i places ≡ places = ap (λ n. take n places) all ∙ take-length places in
    rw whole at c.loop-place.invariant.all
