-- What the proof of `extend_by_head` answers by hand.
use Rattle.std.proofs.Common.{◌≡◌, ◌+◌, ◌++◌, List, ℕ, Some, pos, length, subst, ap, arith, ◌∙◌}
use Rattle.std.proofs.lemmas.Int.{of_z-to_z, to_z-of_z}
use Rattle.std.specs.Int.{w32, to_be_bytes}
use Rattle.bytes.specs.Filled.{Filled}
use Rattle.pg_base.specs.Appending.{Extends}
use Rattle.pg_base.specs.Cells.{be}
use Rattle.pg_base.proofs.Concat.{extends_by, extends_both}
use Rattle.pg_base.proofs.protocol.arrays.extend_by_head.Goals as goal

-- these bytes, under another name
extends_by_same : (a b : List ℕ) (old new : Filled) → a ≡ b → new.items ≡ old.items ++ a
    → new.spare + length a ≡ old.spare
    → Extends (Some b) old new
extends_by_same a b old new same is left = subst (λ s. Extends (Some s) old new) same (extends_by a old new is left)

pub returns : goal.returns
returns c =
    let start = c.args.out.now in
    let dimensions = c.extend_reserved.new.self in
    let after_flags = c.extend_reserved-2.new.self in
    let after_oid = c.extend_reserved-3.new.self in
    let after_count = c.extend_reserved-4.new.self in
    let done = c.extend_reserved-5.new.self in
    let one : List ℕ = be w32 (pos 1) in
    let flags : List ℕ = be w32 (pos 0) in
    let oid : List ℕ = to_be_bytes w32 c.args.oid in
    let count : List ℕ = be w32 (pos c.args.count) in
    let lower_bound : List ℕ = be w32 c.args.lower_bound in
    let first = extends_by_same c.to_be_bytes.result one start dimensions c.to_be_bytes.ensures
    c.extend_reserved.ensures.items c.extend_reserved.ensures.spare in
    let second = extends_by_same c.to_be_bytes-2.result flags dimensions after_flags c.to_be_bytes-2.ensures
    c.extend_reserved-2.ensures.items c.extend_reserved-2.ensures.spare in
    let third = extends_by_same c.to_be_bytes-3.result oid after_flags after_oid c.to_be_bytes-3.ensures
    c.extend_reserved-3.ensures.items c.extend_reserved-3.ensures.spare in
    let fourth = extends_by_same c.to_be_bytes-4.result count after_oid after_count
    (c.to_be_bytes-4.ensures ∙ ap (to_be_bytes w32)
    (of_z-to_z w32 c.args.count (omega (arith, c.requires.few)))) c.extend_reserved-4.ensures.items
    c.extend_reserved-4.ensures.spare in
    let fifth = extends_by_same c.to_be_bytes-5.result lower_bound after_count done
    (c.to_be_bytes-5.ensures ∙ ap (be w32) (to_z-of_z w32 c.args.lower_bound c.ranges.lower_bound))
    c.extend_reserved-5.ensures.items c.extend_reserved-5.ensures.spare in
    let last = extends_both (Some count) (Some lower_bound) after_oid after_count done fourth fifth in
    let all = extends_both (Some oid) (Some (count ++ lower_bound)) after_flags after_oid done third last in
    let head_extends = extends_both (Some flags) (Some (oid ++ count ++ lower_bound)) dimensions after_flags done second
    all in
    extends_both (Some one) (Some (flags ++ oid ++ count ++ lower_bound)) start dimensions done first head_extends
