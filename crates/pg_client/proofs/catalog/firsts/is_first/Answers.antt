-- What the proof of `is_first` answers by hand.
use Rattle.std.proofs.Common.{rules, ◌≡◌, ◌≢◌, None, Some, false, true}
use Rattle.std.specs.BTreeMap.{get}
use Rattle.std.specs.Ordering.{nat_cmp}
use Rattle.pg_client.proofs.FirstRows.{first_at, later_at}
use Rattle.pg_client.proofs.catalog.firsts.is_first.Goals as goal

pub returns-in-Some-clause-first : goal.returns-in-Some-clause-first
returns-in-Some-clause-first c = λ yes.
    let found : get nat_cmp c.args.firsts.now c.args.row.now.oid ≡ Some c.in-Some.first.now = search rules in
    let same : c.in-Some.first.now ≡ c.args.place = search rules in
    first_at c.args.rows.now c.args.firsts.now c.in-Some.first.now c.args.place c.args.row.now c.requires.firsts found
    same

pub returns-in-Some-clause-later : goal.returns-in-Some-clause-later
returns-in-Some-clause-later c = λ no.
    let found : get nat_cmp c.args.firsts.now c.args.row.now.oid ≡ Some c.in-Some.first.now = search rules in
    let other : c.in-Some.first.now ≢ c.args.place = search rules in
    later_at c.args.rows.now c.args.firsts.now c.in-Some.first.now c.args.place c.args.row.now c.requires.firsts
    c.requires.row found other

pub returns-in-None-clause-later : goal.returns-in-None-clause-later
returns-in-None-clause-later c =
    let none : get nat_cmp c.args.firsts.now c.args.row.now.oid ≡ None = search rules in
    let has = c.requires.firsts.1 c.args.place c.args.row.now c.requires.row in
    let bad : false ≡ true = rw none at has in
    absurd cc
