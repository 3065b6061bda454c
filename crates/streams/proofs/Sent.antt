-- What several writes of one text have written.
use Rattle.std.proofs.Common.{◌≡◌, ◌≤◌, ◌-◌, ◌+◌, ◌++◌, ℕ, List, Option, length, take, drop, sym, ap, subst, ◌∙◌}
use Rattle.std.proofs.Common.{arith, length-take}
use Rattle.std.proofs.Math.Seq.{take-add, take-take}
use Rattle.std.specs.Io.KnownBytes.{Appends}
use Rattle.std.proofs.KnownBytes.{Appends-trans}

pub sent_more : (a b c : Option (List ℕ)) (bs : List ℕ) (sent n next : ℕ) → sent ≤ length bs
    → n ≤ length (take (length bs - sent) (drop sent bs)) → Appends a b (take sent bs)
    → Appends b c (take n (take (length bs - sent) (drop sent bs))) → next ≡ sent + n
    → (next ≤ length bs) × Appends a c (take next bs)
sent_more a b c bs sent n next fits bound first second is =
    let most = length-take (length bs - sent) (drop sent bs) in
    let concat = ap (λ l. take sent bs ++ l) (take-take n (length bs - sent) (drop sent bs) (omega arith))
    ∙ sym (take-add sent n bs) in
    rw is (omega arith, subst (Appends a c) concat (Appends-trans a b c _ _ first second))
