-- Where the elements of an array begin.
use Rattle.std.specs.Prelude.{◌≡◌, ℕ, zero, suc, ◌-◌, ◌≤◌, List, [], ◌∷◌, ◌++◌, Bool, true, false, length, take, drop}
use Rattle.std.specs.Prelude.{if◌then◌else◌, ◌==◌}
use Rattle.std.specs.Int.{w32}
use Rattle.std.specs.List.{starts_with}
use Rattle.std.proofs.Common.{arith, ap, sym, subst, ◌∙◌}
use Rattle.std.proofs.lemmas.List.{drop-append-le, drop-drop, drop_at, length-append, length-drop, take_at}
use Rattle.pg_base.specs.Arrays.{SpellsDimension, SpellsDimensions, SpellsHead}
use Rattle.pg_base.specs.Cells.{IsBeUnsigned}
use Rattle.pg_base.specs.Counts.{IsCount, ToRead}
use Rattle.pg_cells_c.specs.Arrays.{SpellsArray}
use Rattle.pg_base.proofs.ArrayLaws.{drop_part}

-- the bytes of no dimensions
abbrev pub zeros : List ℕ
zeros = 0 ∷ 0 ∷ 0 ∷ 0 ∷ []

-- the elements come after a dimension
after_dimension : (m : List ℕ) (r : ToRead) → SpellsDimension m r → drop 8 m ≡ r.bytes
after_dimension m r d =
    ap (drop 8) d.is ∙ sym (drop-drop 4 4 (d.length_bytes ++ (d.lower_bound_bytes ++ r.bytes)))
    ∙ ap (drop 4) (drop_part 4 d.length_bytes (d.lower_bound_bytes ++ r.bytes) (ap length d.counts.1))
    ∙ drop_part 4 d.lower_bound_bytes r.bytes d.width

by_count : (b : List ℕ) (r : ToRead) (d : ℕ) (p x m : List ℕ) → b ≡ p ++ (x ++ m) → IsCount p d → length x ≡ 8
    → SpellsDimensions d m r → (test : Bool) → starts_with ◌==◌ b zeros ≡ test
    → drop (if test then 12 else 20) b ≡ r.bytes
by_count b r zero p x m e is w spells true h =
    ap (drop 12) (e ∙ ap (λ q. q ++ (x ++ m)) is.1) ∙ drop_part 8 x m w ∙ spells.1
by_count b r zero p x m e is w spells false h =
    let other = ap (λ q. starts_with ◌==◌ q zeros) (e ∙ ap (λ q. q ++ (x ++ m)) is.1) in absurd (cc)
by_count b r (suc zero) p x m e is w spells false h =
    ap (drop 20) (e ∙ ap (λ q. q ++ (x ++ m)) is.1) ∙ sym (drop-drop 8 8 (x ++ m)) ∙ ap (drop 8) (drop_part 8 x m w)
    ∙ after_dimension m r spells
by_count b r (suc zero) p x m e is w spells true h =
    let other = ap (λ q. starts_with ◌==◌ q zeros) (e ∙ ap (λ q. q ++ (x ++ m)) is.1) in absurd (cc)
by_count b r (suc (suc d)) p x m e is w spells test h = absurd spells

-- they begin after 12 bytes where the first four are zeros, and else after 20
pub elements_at : (b : List ℕ) (r : ToRead) → SpellsHead b r → (test : Bool) → starts_with ◌==◌ b zeros ≡ test
    → drop (if test then 12 else 20) b ≡ r.bytes
elements_at b r head test h =
    by_count b r head.dimension_count head.count_prefix head.flags_and_oid head.remaining head.is head.counts head.width
    head.spells test h

-- the length of a count
count_len : (p : List ℕ) (d : ℕ) → IsCount p d → length p ≡ 4
count_len p d is = ap length is.1

-- the OID stands after the number of dimensions and the flags
oid_at : (b : List ℕ) (r : ToRead) (head : SpellsHead b r) → take 4 (drop 8 b) ≡ drop 4 head.flags_and_oid
oid_at b r head =
    let p = head.count_prefix in
    let x = head.flags_and_oid in
    let m = head.remaining in
    ap (λ q. take 4 (drop 8 q)) head.is ∙ ap (take 4) (sym (drop-drop 4 4 (p ++ (x ++ m))))
    ∙ ap (λ q. take 4 (drop 4 q)) (drop_at p (x ++ m) 4 (count_len p head.dimension_count head.counts))
    ∙ ap (take 4) (drop-append-le 4 x m (omega (arith, head.width)))
    ∙ take_at (drop 4 x) m 4 (length-drop 4 x ∙ ap (λ n. n - 4) head.width)

-- a head has them all
pub head_len : (b : List ℕ) (r : ToRead) → SpellsHead b r → 12 ≤ length b
head_len b r head =
    let p = head.count_prefix in
    let x = head.flags_and_oid in
    omega (
      arith,
      ap length head.is,
      length-append p (x ++ head.remaining),
      length-append x head.remaining,
      count_len p head.dimension_count head.counts,
      head.width,
    )

-- an array is read up to the place of the elements
pub array_from : (b : List ℕ) (r : ToRead) (left offset oid : ℕ) → SpellsHead b r → left ≡ r.left
    → drop offset b ≡ r.bytes → IsBeUnsigned w32 (take 4 (drop 8 b)) oid
    → SpellsArray b (record { walk = record { left = left; offset = offset }; element_oid = oid })
array_from b r left offset oid head count rest states =
    let stated : ToRead → Type 0 = λ q. (h : SpellsHead b q) × IsBeUnsigned w32 (drop 4 h.flags_and_oid) oid in
    subst (λ s. stated (record { left = left; bytes = s })) (sym rest)
    (subst (λ n. stated (record { left = n; bytes = r.bytes })) (sym count)
    (head, subst (λ s. IsBeUnsigned w32 s oid) (oid_at b r head) states))
