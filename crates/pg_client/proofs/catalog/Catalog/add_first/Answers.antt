-- What the proof of `add_first` answers by hand.
use Rattle.pg_client.proofs.CatalogGrowth.{grows_added, grows_same}
use Rattle.pg_client.proofs.RefusedReasons.{why_not_made}
use Rattle.pg_client.proofs.catalog.Catalog.add_first.Goals as goal

pub returns-in_default-clause-grows : goal.returns-in_default-clause-grows
returns-in_default-clause-grows c = λ rows place at first.
    grows_added rows place c.args.row.now c.args.self.now.types c.add.new.self.types at first c.in_default.ensures.ok

pub returns-in-Duplicate-clause-grows : goal.returns-in-Duplicate-clause-grows
returns-in-Duplicate-clause-grows c = λ rows place at first.
    grows_same rows c.args.self.now.types c.add.new.self.types c.in-Err.ensures.kept

pub returns-in_default-fault-clause-grows : goal.returns-in_default-fault-clause-grows
returns-in_default-fault-clause-grows c = λ rows place at first.
    grows_same rows c.args.self.now.types c.add.new.self.types c.in-Err.ensures.kept

pub returns-in_default-fault-clause-why : goal.returns-in_default-fault-clause-why
returns-in_default-fault-clause-why c =
    why_not_made c.args.self.now.types c.add.new.self.types c.args.row.now c.in-Err.fault c.in-Err.ensures.kept
    c.in-Err.ensures.own c.in-Err.ensures.why c.in_default-fault.not-Memory c.in_default-fault.not-Duplicate
