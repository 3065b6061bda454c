-- Reading the head of an array.
use Rattle.std.proofs.Common.{◌≡◌, ℕ, suc, zero, List, ◌++◌, length, Result, Ok, Err, ◌∙◌, ap, subst}
use Rattle.std.proofs.lemmas.Option.{IfSome_then}
use Rattle.pg_types.specs.declared.fault.Fault.{Fault}
use Rattle.pg_base.proofs.ArrayLaws.{dimension_fault}
use Rattle.pg_base.specs.Arrays.{SpellsDimensions, SpellsHead, dimension_checks, head_checks, pair_width}
use Rattle.pg_base.specs.Counts.{IsCount, ToRead}
use Rattle.pg_types.specs.Faults.{Answers, refusal_of}
use Rattle.pg_base.specs.Formats.{Decodes, first_fault_of}

-- what the one dimension gives, the head gives
pub one_dimension : (b h m x s : List ℕ) (d : ℕ) (r : Result ToRead Fault) → b ≡ h ++ m → IsCount h d → d ≡ 1 → m ≡ x
    ++ s → length x ≡ pair_width
    → Answers (Decodes (SpellsDimensions (suc zero)) (λ s. first_fault_of (dimension_checks (suc zero) s)) s) r
    → Answers (Decodes SpellsHead (λ b. first_fault_of (head_checks b)) b) r
one_dimension b h m x s d (Ok cells) e is one parts eight p =
    record {
      dimension_count = 1;
      count_prefix = h;
      flags_and_oid = x;
      remaining = s;
      is = e ∙ ap (λ t. h ++ t) parts;
      counts = subst (IsCount h) one is;
      width = eight;
      spells = p;
    }
one_dimension b h m x s d (Err f) e is one parts eight p =
    IfSome_then (refusal_of f) p (λ r q. dimension_fault b h x s 1 r (e ∙ ap (λ t. h ++ t) parts)
    (subst (IsCount h) one is) eight q)
