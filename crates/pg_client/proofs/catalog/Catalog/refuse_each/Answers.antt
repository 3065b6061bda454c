-- What the proof of `refuse_each` answers by hand.
use Rattle.std.proofs.Common.{arith, ap, length, ◌≡◌, ◌∙◌, ◌+◌, ◌++◌, ◌∷◌, [], take, get_or}
use Rattle.std.proofs.Math.Seq.{take-length}
use Rattle.std.proofs.lemmas.List.{take_more}
use Rattle.std.proofs.lemmas.Slice.Zip.{all_zipped_more}
use Rattle.std.specs.List.{AllZip}
use Rattle.pg_client.specs.WholeCatalogs.{IsRefusal}
use Rattle.pg_client.specs.declared.catalog.left.Left.{Left}
use Rattle.pg_client.specs.declared.catalog.refused.TypeFault.TheVariants.{Memory}
use Rattle.pg_client.proofs.catalog.Catalog.refuse_each.Goals as goal

pub refuse-requires : goal.refuse-requires
refuse-requires c = rw c.loop-row.invariant.types (c.reason-fault.ensures c.args.self.now.types c.args.rows.now
    c.requires.firsts (c.requires.stuck c.loop-row.row-index _ c.loop-row-test.true))

pub loop-row-preserved : goal.loop-row-preserved
loop-row-preserved c =
    let rows = c.args.rows.now in
    let left = c.args.left.now in
    let i = c.loop-row.row-index in
    let none : Left = record { place = 0; fault = Memory } in
    let row : Left = get_or left i none in
    let refused = c.loop-row.self.refused.items in
    let after = c.refuse.new.self.types in
    let last = c.in_ok-refuse.ensures in
    let was : AllZip (λ own. IsRefusal after rows own.place) (take i left) refused =
    rw last.types c.loop-row.invariant.refused in
    let more : take (i + 1) left ≡ take i left ++ row ∷ [] = take_more left i none c.loop-row-test.true in
    record {
      types = last.types ∙ c.loop-row.invariant.types;
      refused = rw (more, last.refused.1)
          (all_zipped_more (λ own. IsRefusal after rows own.place) (take i left) refused row last.refused.0 was
          last.refused.2);
    }

pub returns-clause-refused : goal.returns-clause-refused
returns-clause-refused c =
    let left = c.args.left.now in
    let i = c.loop-row.row-index in
    let all : i ≡ length left = omega arith in
    let whole : take i left ≡ left = ap (λ n. take n left) all ∙ take-length left in
    rw whole at c.loop-row.invariant.refused
