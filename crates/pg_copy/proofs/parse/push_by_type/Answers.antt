-- What the proof of `push_by_type` answers by hand: the types whose conversion is written in another form.
use Rattle.pg_copy.proofs.parse.push_by_type.Goals as goal

pub returns-in-Bit-clause-ok : goal.returns-in-Bit-clause-ok
returns-in-Bit-clause-ok c = rw c.in-Bit.is c.push_as.ensures.ok

pub returns-in-Bytea-clause-ok : goal.returns-in-Bytea-clause-ok
returns-in-Bytea-clause-ok c = rw c.in-Bytea.is c.push_as-in-Bytea.ensures.ok

pub returns-in-Date-clause-ok : goal.returns-in-Date-clause-ok
returns-in-Date-clause-ok c = rw c.in-Date.is c.push_as-in-Date.ensures.ok

pub returns-in-Hstore-clause-ok : goal.returns-in-Hstore-clause-ok
returns-in-Hstore-clause-ok c = rw c.in-Hstore.is c.push_as-in-Hstore.ensures.ok

pub returns-in-Int2Vector-clause-ok : goal.returns-in-Int2Vector-clause-ok
returns-in-Int2Vector-clause-ok c = rw c.in-Int2Vector.is c.push_as-in-Int2Vector.ensures.ok

pub returns-in-OidVector-clause-ok : goal.returns-in-OidVector-clause-ok
returns-in-OidVector-clause-ok c = rw c.in-OidVector.is c.push_as-in-OidVector.ensures.ok

pub returns-in-Timestamp-clause-ok : goal.returns-in-Timestamp-clause-ok
returns-in-Timestamp-clause-ok c = rw c.in-Timestamp.is c.push_as-in-Timestamp.ensures.ok

pub returns-in-Timestamptz-clause-ok : goal.returns-in-Timestamptz-clause-ok
returns-in-Timestamptz-clause-ok c = rw c.in-Timestamptz.is c.push_as-in-Timestamptz.ensures.ok

pub returns-in-Varbit-clause-ok : goal.returns-in-Varbit-clause-ok
returns-in-Varbit-clause-ok c = rw c.in-Varbit.is c.push_as-in-Varbit.ensures.ok
