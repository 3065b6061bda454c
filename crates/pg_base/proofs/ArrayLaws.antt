-- Laws of arrays.
use Rattle.std.specs.Prelude.{◌≡◌, ℕ, zero, suc, pos, List, ◌++◌, ◌+◌, length, drop, Some, None, true, nat_le, refl}
use Rattle.std.proofs.Common.{sym, ◌∙◌, ap, ap₂, subst, arith}
use Rattle.std.proofs.Math.Seq.{drop-append_seam}
use Rattle.std.proofs.lemmas.Bool.Decides.{nat_tests}
use Rattle.std.proofs.lemmas.List.{length-append}
use Rattle.std.specs.Int.{w32}
use Rattle.pg_base.specs.Arrays.{SpellsDimensions, SpellsHead, ArrayBody, dimension_checks, head_checks, pair_width}
use Rattle.pg_base.proofs.CellLaws.{cells_single}
use Rattle.pg_base.specs.Cells.{Cell, CellsInRow}
use Rattle.pg_base.proofs.CountLaws.{number_then}
use Rattle.pg_base.specs.Counts.{IsCount, ToRead, after_number, number_in, number_width, count_or_zero}
use Rattle.pg_base.proofs.FormatLaws.{be-length}
use Rattle.pg_types.specs.Faults.{Refusal}
use Rattle.pg_base.specs.Formats.{first_fault_of}

-- what is to be read after so many dimensions
abbrev after_dimensions : ℕ → List ℕ → ToRead
after_dimensions zero s = record { left = 0; bytes = s }
after_dimensions (suc d) s = record { left = count_or_zero (number_in s); bytes = drop number_width (after_number s) }

-- and after the head
abbrev after_head : List ℕ → ToRead
after_head b = after_dimensions (count_or_zero (number_in b)) (drop pair_width (after_number b))

pub drop_part : (k : ℕ) (x s : List ℕ) → length x ≡ k → drop k (x ++ s) ≡ s
drop_part k x s e = ap (λ n. drop n (x ++ s)) (sym e) ∙ drop-append_seam x s

long_whole : (s l x rest : List ℕ) (n : ℕ) → s ≡ l ++ (x ++ rest) → IsCount l n → length x ≡ number_width
    → nat_le pair_width (length s) ≡ true
long_whole s l x rest n e p h =
    let four : length l ≡ number_width = be-length w32 l (pos n) p in
    let all : length s ≡ pair_width + length rest =
    omega (arith, ap length e, length-append l (x ++ rest), length-append x rest, four, h) in
    grind (arith, nat_tests)

long_enough : (x s : List ℕ) → length x ≡ pair_width → nat_le pair_width (length (x ++ s)) ≡ true
long_enough x s h =
    let all : length (x ++ s) ≡ pair_width + length s = omega (arith, length-append x s, h) in
    grind (arith, nat_tests)

-- what is known of bytes that begin with dimensions
record AreDimensions (d : ℕ) (s : List ℕ) (r : ToRead) : Type 0 where
  pub passes : first_fault_of (dimension_checks d s) ≡ None
  pub remaining_is : after_dimensions d s ≡ r

dimensions_then : (d : ℕ) (s : List ℕ) (r : ToRead) → SpellsDimensions d s r → AreDimensions d s r
dimensions_then zero s r p =
    record {
      passes = refl;
      remaining_is = ap₂ (λ (n : ℕ) (x : List ℕ). let r : ToRead = record { left = n; bytes = x } in r)
          (sym p.0) p.1;
    }
dimensions_then (suc zero) s r p =
    let number = number_then s p.length_bytes (p.lower_bound_bytes ++ r.bytes) (pos r.left) p.is p.counts in
    let long = long_whole s p.length_bytes p.lower_bound_bytes r.bytes r.left p.is p.counts p.width in
    record {
      passes = rw (long, number.number) refl;
      remaining_is = rw (number.number, number.rest)
          (ap (λ (x : List ℕ). let q : ToRead = record { left = r.left; bytes = x } in q)
          (drop_part number_width p.lower_bound_bytes r.bytes p.width));
    }
dimensions_then (suc (suc d)) s r p = absurd p

-- what is known of bytes that begin with a head
record IsHead (b : List ℕ) (r : ToRead) : Type 0 where
  pub passes : first_fault_of (head_checks b) ≡ None
  pub remaining_is : after_head b ≡ r

head_then : (b : List ℕ) (r : ToRead) → SpellsHead b r → IsHead b r
head_then b r p =
    let number = number_then b p.count_prefix (p.flags_and_oid ++ p.remaining) (pos p.dimension_count) p.is p.counts in
    let first = dimensions_then p.dimension_count p.remaining r p.spells in
    let part : drop pair_width (p.flags_and_oid ++ p.remaining) ≡ p.remaining =
    drop_part pair_width p.flags_and_oid p.remaining p.width in
    let long = long_enough p.flags_and_oid p.remaining p.width in
    record {
      passes = rw (number.has, number.number, number.rest, long, part) first.passes;
      remaining_is = rw (number.number, number.rest, part) first.remaining_is;
    }

-- after sound flags the first fault is that of the dimensions
pub dimension_fault : (b h x s : List ℕ) (d : ℕ) (r : Refusal) → b ≡ h ++ (x ++ s) → IsCount h d → length x ≡ pair_width
    → first_fault_of (dimension_checks d s) ≡ Some r → first_fault_of (head_checks b) ≡ Some r
dimension_fault b h x s d r e is flags f =
    let number = number_then b h (x ++ s) (pos d) e is in
    let part : drop pair_width (x ++ s) ≡ s = drop_part pair_width x s flags in
    rw (number.has, number.number, number.rest, long_enough x s flags, part) f

-- a head passes its checks
pub head_passes : (b : List ℕ) (r : ToRead) → SpellsHead b r → first_fault_of (head_checks b) ≡ None
head_passes b r p = (head_then b r p).passes

-- and bytes begin with one head
pub head_single : (b : List ℕ) (r q : ToRead) → SpellsHead b r → SpellsHead b q → r ≡ q
head_single b r q p k = sym (head_then b r p).remaining_is ∙ (head_then b q k).remaining_is

-- bytes are one array's
pub body_single : (b : List ℕ) (n m : ℕ) (cs ds : List Cell) (u w : List ℕ) → ArrayBody b n cs u → ArrayBody b m ds w
    → (n ≡ m) × (cs ≡ ds) × (u ≡ w)
body_single b n m cs ds u w p q =
    let e = head_single b (record { left = n; bytes = p.0 }) (record { left = m; bytes = q.0 }) p.1 q.1 in
    let many : n ≡ m = ap (λ (r : ToRead). r.left) e in
    let rest : p.0 ≡ q.0 = ap (λ (r : ToRead). r.bytes) e in
    let row = cells_single p.0 n cs ds u w p.2
    (subst (λ x. CellsInRow x n ds w) (sym rest) (subst (λ x. CellsInRow q.0 x ds w) (sym many) q.2)) in
    (many, row.0, row.1)
