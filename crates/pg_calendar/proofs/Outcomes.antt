-- What follows from what clauses say of options and results.
use Rattle.std.specs.Prelude.{IfOk, IfSome, MatchOption, OnOk, Option, None, Some, Result, Ok, Err}
use Rattle.std.specs.Result.{result_ok}

pub MatchOption_then : {A : Type 0} (r : Option A) {N M : Type 0} {P Q : A → Type 0} → MatchOption r N P → (N → M)
    → ((a : A) → P a → Q a) → MatchOption r M Q
MatchOption_then None h none some = none h
MatchOption_then (Some a) h none some = some a h

pub OnOk_then : {A E : Type 0} (r : Result A E) {P Q : Type 0} → OnOk r P → (P → Q) → OnOk r Q
OnOk_then (Ok a) h f = f h
OnOk_then (Err e) h f = h

pub IfSome_of_ok : {A E : Type 0} (r : Result A E) {P Q : A → Type 0} → IfOk r P → ((a : A) → P a → Q a)
    → IfSome (result_ok r) Q
IfSome_of_ok (Ok a) h f = f a h
IfSome_of_ok (Err e) h f = h
