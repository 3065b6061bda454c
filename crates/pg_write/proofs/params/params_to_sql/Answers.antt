-- What the proof of `params_to_sql` answers by hand.
use Rattle.std.proofs.Common.{◌≡◌, [], Bool, true, false, IsTrue, if◌then◌else◌, append-nil, arith, refl, sym}
use Rattle.pg_base.specs.Appending.{Wire}
use Rattle.pg_types.specs.Content.{content}
use Rattle.pg_types.specs.Faults.{refusal_of}
use Rattle.pg_write.proofs.ParamLists.{all_params, next_param, no_room, refused_param}
use Rattle.pg_write.proofs.ParamRoom.{with_room}
use Rattle.pg_write.specs.Writing.{checked}
use Rattle.pg_write.proofs.params.params_to_sql.Goals as goal

pub loop-place-init : goal.loop-place-init
loop-place-init g c = (
  record {
    cells = [];
    bytes = [];
    cells_are = refl;
    frames_are = refl;
    is = sym (append-nil c.args.out.now.items);
  },
  omega arith,
)

pub loop-place-preserved : goal.loop-place-preserved
loop-place-preserved g c =
    let element_frame_cell = rw c.in_default.is at c.param_to_sql.ensures.frame in (
      next_param (λ p. let m = (goal.ToSql-dyn g (p.0.vtable, p.0.value)).ToSql in
          checked m.accepted m.name m.wire (content p.1) p.0.value)
          c.args.params.now c.args.types.now c.requires c.loop-place.place _ _ c.loop-place-test.true
          c.index-params-place.is c.index-types-place.is c.args.out.now.items c.loop-place.out.items
          c.param_to_sql.new.out.items c.loop-place.invariant.0 element_frame_cell,
      omega (arith, c.loop-place.invariant.1, c.param_to_sql.ensures.capacity),
    )

pub returns-in-Err-clause-frames : goal.returns-in-Err-clause-frames
returns-in-Err-clause-frames g c =
    let refused = rw c.in-Err.is at c.param_to_sql.ensures.frame in
    let truncated = rw c.len-start.ensures.value at c.truncate.ensures.items in
    refused_param (λ p. let m = (goal.ToSql-dyn g (p.0.vtable, p.0.value)).ToSql in
    checked m.accepted m.name m.wire (content p.1) p.0.value)
    c.args.params.now c.args.types.now c.requires c.loop-place.place _ _ c.loop-place-test.true
    c.index-params-place.is c.index-types-place.is c.in-Err.fault c.args.out.now.items c.loop-place.out.items
    c.param_to_sql.new.out.items c.truncate.new.self.items c.loop-place.invariant.0 refused truncated

pub returns-clause-frames : goal.returns-clause-frames
returns-clause-frames g c = all_params (λ p. let m = (goal.ToSql-dyn g (p.0.vtable, p.0.value)).ToSql in
    checked m.accepted m.name m.wire (content p.1) p.0.value)
    c.args.params.now c.args.types.now c.requires c.loop-place.place c.args.out.now.items c.loop-place.out.items
    c.loop-place-test.false c.loop-place.invariant.0

-- what is written for a parameter whose type is accepted
same_wire : (accepted : Bool) (wire other : Wire) → IsTrue accepted → if accepted then wire else other ≡ wire
same_wire true wire other ok = refl
same_wire false wire other ok = let no : ⊥ = cc in absurd no

pub returns-in-Err-clause-room : goal.returns-in-Err-clause-room
returns-in-Err-clause-room g c = λ all enough.
    with_room (refusal_of c.in-Err.fault) _ _ (no_room (λ p. let m = (goal.ToSql-dyn g (p.0.vtable, p.0.value)).ToSql in
    checked m.accepted m.name m.wire (content p.1) p.0.value)
    c.args.params.now c.args.types.now c.requires c.loop-place.place _ _ c.loop-place-test.true
    c.index-params-place.is c.index-types-place.is
    (λ p. (goal.ToSql-dyn g (p.0.vtable, p.0.value)).ToSql.wire (content p.1) p.0.value) _
    (λ p is. same_wire _ _ _ is.1) all c.args.out.now c.loop-place.out c.loop-place.invariant.1 c.loop-place.invariant.0
    (refusal_of c.in-Err.fault) (λ is. (rw c.in-Err.is at c.param_to_sql.ensures.room) is.0 is.1)) enough
