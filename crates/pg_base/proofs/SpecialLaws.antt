-- Laws of values with infinities.
use Rattle.std.specs.Prelude.{◌≡◌, ◌≢◌, ◌==◌, length, slice_index, Bool, true, false, ◌&&◌, IsTrue, refl}
use Rattle.std.proofs.Common.{ap, sym, true≢false}
use Rattle.std.specs.Int.{Width, w8, w16, w32, w64, w128, byte_len}
use Rattle.pg_base.specs.Sameness.{IsEquivalence}
use Rattle.pg_base.specs.Special.{Special, pos_infinity, neg_infinity, value, infinity, minus_infinity, SameSpecial}

module _ {A : Type 0} (same : A → A → Type 0) (law : IsEquivalence same) where
  special_reflexive : (a : Special A) → SameSpecial same a a
  special_reflexive pos_infinity = tt
  special_reflexive neg_infinity = tt
  special_reflexive (value v) = law.reflexive v

  special_symmetric : (a b : Special A) → SameSpecial same a b → SameSpecial same b a
  special_symmetric pos_infinity pos_infinity h = tt
  special_symmetric pos_infinity neg_infinity h = absurd h
  special_symmetric pos_infinity (value u) h = absurd h
  special_symmetric neg_infinity pos_infinity h = absurd h
  special_symmetric neg_infinity neg_infinity h = tt
  special_symmetric neg_infinity (value u) h = absurd h
  special_symmetric (value v) pos_infinity h = absurd h
  special_symmetric (value v) neg_infinity h = absurd h
  special_symmetric (value v) (value u) h = law.symmetric v u h

  special_transitive : (a b c : Special A) → SameSpecial same a b → SameSpecial same b c → SameSpecial same a c
  special_transitive pos_infinity pos_infinity c h k = k
  special_transitive pos_infinity neg_infinity c h k = absurd h
  special_transitive pos_infinity (value u) c h k = absurd h
  special_transitive neg_infinity pos_infinity c h k = absurd h
  special_transitive neg_infinity neg_infinity c h k = k
  special_transitive neg_infinity (value u) c h k = absurd h
  special_transitive (value v) pos_infinity c h k = absurd h
  special_transitive (value v) neg_infinity c h k = absurd h
  special_transitive (value v) (value u) pos_infinity h k = absurd k
  special_transitive (value v) (value u) neg_infinity h k = absurd k
  special_transitive (value v) (value u) (value x) h k = law.transitive v u x h k

  -- sameness of what stands for values with infinities is an equivalence where that of the values is
  pub special_equivalence : {B : Type 0} (view : B → Special A)
      → IsEquivalence (λ a b. SameSpecial same (view a) (view b))
  special_equivalence view = record {
    reflexive = λ a. special_reflexive (view a);
    symmetric = λ a b. special_symmetric (view a) (view b);
    transitive = λ a b c. special_transitive (view a) (view b) (view c);
  }

-- the infinities have the width
pub infinity_width : (w : Width) → length (infinity w) ≡ byte_len w
infinity_width w8 = refl
infinity_width w16 = refl
infinity_width w32 = refl
infinity_width w64 = refl
infinity_width w128 = refl

pub minus_infinity_width : (w : Width) → length (minus_infinity w) ≡ byte_len w
minus_infinity_width w8 = refl
minus_infinity_width w16 = refl
minus_infinity_width w32 = refl
minus_infinity_width w64 = refl
minus_infinity_width w128 = refl

-- and differ in their first byte
pub infinities_apart : (w : Width) → infinity w ≢ minus_infinity w
infinities_apart w8 h = true≢false (ap (λ b. slice_index b 0 == 127) h)
infinities_apart w16 h = true≢false (ap (λ b. slice_index b 0 == 127) h)
infinities_apart w32 h = true≢false (ap (λ b. slice_index b 0 == 127) h)
infinities_apart w64 h = true≢false (ap (λ b. slice_index b 0 == 127) h)
infinities_apart w128 h = true≢false (ap (λ b. slice_index b 0 == 127) h)

-- the value inside accepts what is accepted
pub inside_accepted : (x y : Bool) → IsTrue (x && y) → IsTrue y
inside_accepted true y h = h
inside_accepted false y h = absurd (true≢false (sym h))
