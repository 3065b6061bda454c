-- The loop of `len_without_zeros`: what stands after this length is zeros alone.
use Rattle.std.proofs.Common.{◌≡◌, ◌+◌, ◌≤◌, ◌==◌, length, take}
use Rattle.std.specs.List.{suffix_len}
use Rattle.pg_calendar.proofs.digits.len_without_zeros.Given as goal

abbrev pub invariant-loop-len : goal.invariant-loop-len
invariant-loop-len l =
    (l.len ≤ length l.text)
    × (l.len + suffix_len (λ c. c == 48) l.text ≡ length l.text + suffix_len (λ c. c == 48) (take l.len l.text))

abbrev pub decreases-loop-len : goal.decreases-loop-len
decreases-loop-len l = l.len
