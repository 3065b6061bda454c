-- What the proof of `push_types` answers by hand.
use Rattle.std.proofs.Common.{◌≡◌, ◌∷◌, ◌++◌, [], ap, append-nil, append_assoc, arith, length, sym, ◌∙◌}
use Rattle.std.proofs.lemmas.List.{map-append}
use Rattle.pg_copy.proofs.ArgumentLaws.{next_live, next_types, types_left, word_parts}
use Rattle.pg_copy.specs.Arguments.{texts_of}
use Rattle.pg_copy.proofs.arguments.push_types.Goals as goal

pub loop-rest-smaller : goal.loop-rest-smaller
loop-rest-smaller c =
    let l = c.loop-rest in
    let ty = c.split_at_comma.result.0.now in
    let after = c.split_at_comma.result.1 in
    let next = c.and_then-rest.result in
    let live = rw c.in-Some.is at l.invariant.live in
    let split = c.split_at_comma.ensures in
    let is : types_left l.rest ≡ ty ∷ types_left next =
    ap types_left c.in-Some.is ∙ word_parts c.in-Some.left.now ty after live split.parts split.whole
    ∙ ap (λ t. ty ∷ t) (next_types after next c.and_then-rest.ensures) in
    let size : length (types_left l.rest) ≡ length (ty ∷ types_left next) = ap length is in
    omega (arith, size)

pub loop-rest-preserved : goal.loop-rest-preserved
loop-rest-preserved c =
    let l = c.loop-rest in
    let ty = c.split_at_comma.result.0.now in
    let after = c.split_at_comma.result.1 in
    let next = c.and_then-rest.result in
    let live = rw c.in-Some.is at l.invariant.live in
    let split = c.split_at_comma.ensures in
    let is : types_left l.rest ≡ ty ∷ types_left next =
    ap types_left c.in-Some.is ∙ word_parts c.in-Some.left.now ty after live split.parts split.whole
    ∙ ap (λ t. ty ∷ t) (next_types after next c.and_then-rest.ensures) in
    let old = texts_of l.types.items in
    let grown : texts_of c.push.new.self.items ≡ old ++ ty ∷ [] =
    ap texts_of c.in_ok-push.ensures.items ∙ map-append (λ t. t.now) l.types.items (c.split_at_comma.result.0 ∷ []) in
    record {
      live = next_live after next c.and_then-rest.ensures;
      added = ap (λ k. k ++ types_left next) grown ∙ append_assoc old (ty ∷ []) (types_left next)
          ∙ sym (ap (λ k. old ++ k) is) ∙ l.invariant.added;
    }

pub returns : goal.returns
returns c =
    let l = c.loop-rest in
    let none : types_left l.rest ≡ [] = ap types_left c.in_default.is in
    sym (append-nil (texts_of l.types.items)) ∙ sym (ap (λ k. texts_of l.types.items ++ k) none) ∙ l.invariant.added
