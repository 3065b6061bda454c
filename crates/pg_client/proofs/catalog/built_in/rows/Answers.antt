-- What the proof of `rows` answers by hand.
use Rattle.std.proofs.Common.{◌≡◌, ◌+◌, ◌++◌, ◌∷◌, [], take, get_or}
use Rattle.std.proofs.lemmas.List.{take_more}
use Rattle.std.proofs.lemmas.Slice.Zip.{all_zipped_more}
use Rattle.pg_client.specs.CatalogTypes.{IsRowOf, Listed}
use Rattle.pg_client.proofs.catalog.built_in.rows.Goals as goal

pub loop-ty-preserved : goal.loop-ty-preserved
loop-ty-preserved c =
    let types = c.args.types.now in
    let i = c.loop-ty.ty-index in
    let none : Listed = (0, record { ref_ptr = (0, 0); now = [] }, 0, 0) in
    let more : take (i + 1) types ≡ take i types ++ get_or types i none ∷ [] = take_more types i none c.loop-ty-test.true in
    rw (more, c.in_ok-push.ensures.items)
    (all_zipped_more IsRowOf (take i types) c.loop-ty.rows.items (get_or types i none) c.row_of.result
    c.loop-ty.invariant c.row_of.ensures)
