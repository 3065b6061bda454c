-- Types that are known.
use Rattle.std.proofs.Common.{◌≡◌, ◌∙◌, true, Option, Some, None, IsTrue, ap, refl, subst, sym}
use Rattle.std.proofs.lemmas.Bool.{and_parts}
use Rattle.pg_types.specs.Content.{Content, same_type}
use Rattle.pg_types.specs.Laws.Equality.{type-same, type-self}
use Rattle.pgcell.specs.Entries.{Types, are_types, same_arrays}

-- types of arrays that the test finds the same are the same
arrays-same : (a b : Option Content) → same_arrays a b ≡ true → a ≡ b
arrays-same None None h = refl
arrays-same (Some a) (Some b) h = ap Some (type-same a b h)
arrays-same None (Some b) h = cc
arrays-same (Some a) None h = cc

-- the test finds them the same as themselves
arrays-self : (a : Option Content) → same_arrays a a ≡ true
arrays-self None = refl
arrays-self (Some a) = type-self a

-- types are known by those that were made
pub known : (own : Content) (arrays : Option Content) (made : Option Types) → Some (own, arrays) ≡ made
    → IsTrue (are_types made own arrays)
unfolding are_types
known own arrays made is =
    subst (λ t. IsTrue (are_types t own arrays)) is
    (rw (type-self own) (rw (arrays-self arrays) refl))

-- the two parts of types are those types
parts : (own : Content) (arrays : Option Content) (types : Types) → own ≡ types.0 → arrays ≡ types.1
    → Some (own, arrays) ≡ Some types
parts own arrays types o a =
    subst (λ t. Some (t, arrays) ≡ Some types) (sym o) (subst (λ t. Some (types.0, t) ≡ Some types) (sym a) refl)

-- copies of types that are known are those types
pub copied : (own own' : Content) (arrays arrays' : Option Content) (made : Option Types) → own' ≡ own
    → arrays' ≡ arrays → IsTrue (are_types made own arrays) → Some (own', arrays') ≡ made
unfolding are_types
copied own own' arrays arrays' None is are that = cc
copied own own' arrays arrays' (Some types) is are that =
    let both = and_parts (same_type own types.0) (same_arrays arrays types.1) that in
    parts own' arrays' types (is ∙ type-same own types.0 both.0) (are ∙ arrays-same arrays types.1 both.1)
