-- The invariants and measures of `params_to_sql`.
use Rattle.std.proofs.Common.{Ok, take, zip}
use Rattle.pg_base.specs.Appending.{KeepsCapacity}
use Rattle.pg_types.specs.Content.{content}
use Rattle.pg_write.specs.ParamWriting.{Binds}
use Rattle.pg_write.specs.Writing.{checked}
use Rattle.pg_write.proofs.params.params_to_sql.Given as goal

-- the frames so far; and the buffer takes no less than it did
abbrev pub invariant-loop-place : goal.invariant-loop-place
invariant-loop-place g l =
    Binds (λ p. let m = (goal.ToSql-dyn g (p.0.vtable, p.0.value)).ToSql in
    checked m.accepted m.name m.wire (content p.1) p.0.value)
    (take l.place (zip l.params l.types)) l.initial.out.items l.out.items (Ok tt)
    × KeepsCapacity l.initial.out l.out
