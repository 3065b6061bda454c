-- What the proof of `push_to` answers by hand.
use Rattle.std.proofs.Common.{◌++◌, ◌∷◌, [], inl}
use Rattle.pg_client.proofs.to_row.AndRefColumnRefs.push_to.Goals as goal

pub returns-clause-writes : goal.returns-clause-writes
returns-clause-writes g c = λ target types before cells h.
    let more = c.in_ok-push.ensures.writes target types before cells h in
    inl (more.0, more.1, c.push_to.ensures.writes target types before (cells ++ more.0 ∷ []) more.2)
