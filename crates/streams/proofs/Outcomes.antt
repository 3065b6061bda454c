-- What is known of a result after it was asked whether it is an error.
use Rattle.std.proofs.Common.{◌≡◌, Result, Ok, Err, OnOk, OnErr, IfErr, IsErrAnd, is_ok, is_err, true, false}
use Rattle.std.proofs.Common.{if◌then◌else◌}

pub ok_weaker : {T E : Type 0} {P Q : Type 0} (r : Result T E) → (P → Q) → OnOk r P → OnOk r Q
ok_weaker (Ok x) f p = f p
ok_weaker (Err e) f p = tt

pub on_err : {A E : Type 0} (r : Result A E) (P : Type 0) → P → OnErr r P
on_err (Ok x) P p = tt
on_err (Err e) P p = p

pub ok_of : {T E : Type 0} (r : Result T E) (P : Type 0) → OnOk r P → false ≡ is_err r → P
ok_of (Ok x) P p e = p
ok_of (Err y) P p e = let bad : ⊥ = cc in absurd bad

pub err_of : {T E : Type 0} (r : Result T E) (P : Type 0) → OnErr r P → true ≡ is_err r → P
err_of (Ok x) P p e = let bad : ⊥ = cc in absurd bad
err_of (Err y) P p e = p

pub err_weaker : {T E : Type 0} {P Q : E → Type 0} (r : Result T E) → ((e : E) → P e → Q e) → IfErr r P → IfErr r Q
err_weaker (Ok x) f p = tt
err_weaker (Err e) f p = f e p

pub on_err_weaker : {T E : Type 0} {P Q : Type 0} (r : Result T E) → (P → Q) → OnErr r P → OnErr r Q
on_err_weaker (Ok x) f p = tt
on_err_weaker (Err e) f p = f p

pub err_always : {T E : Type 0} {P : E → Type 0} (r : Result T E) → ((e : E) → P e) → IfErr r P
err_always (Ok x) f = tt
err_always (Err e) f = f e

pub ok_branch : {T E A : Type 0} (r : Result T E) (a b new : A) → new ≡ (if is_ok r then a else b) → false ≡ is_err r
    → new ≡ a
ok_branch (Ok x) a b new is e = is
ok_branch (Err y) a b new is e = let bad : ⊥ = cc in absurd bad

-- what is known of the error holds of any
pub err_known : {T E : Type 0} {P Q : E → Type 0} (r : Result T E) → ((e : E) → P e → Q e) → IsErrAnd r P → IfErr r Q
err_known (Ok x) f p = tt
err_known (Err e) f p = f e p

pub on_ok : {T E A : Type 0} (r : Result T E) (a b new : A) → new ≡ (if is_ok r then a else b) → OnOk r (new ≡ a)
on_ok (Ok x) a b new is = is
on_ok (Err e) a b new is = tt
