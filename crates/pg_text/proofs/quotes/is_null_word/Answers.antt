-- What the proof of `is_null_word` answers by hand.
use Rattle.std.proofs.Common.{◌≡◌, Bool, true, false, refl, sym, map}
use Rattle.std.specs.Prelude.{codes}
use Rattle.std.specs.Char.{to_ascii_lowercase}
use Rattle.std.specs.Cmp.Lexicographic.{bytes_decides}
use Rattle.pg_text.proofs.quotes.is_null_word.Goals as goal

same_test : (a b : Bool) → (a ≡ true → b ≡ true) → (b ≡ true → a ≡ true) → a ≡ b
same_test true b p q = sym (p refl)
same_test false true p q = q refl
same_test false false p q = refl

pub returns : goal.returns
returns c =
    let decided = bytes_decides (map to_ascii_lowercase c.args.text.now) (codes "null") in
    same_test _ _ (λ e. decided.1 (c.eq_ignore_ascii_case.ensures.test.0 e))
    (λ e. c.eq_ignore_ascii_case.ensures.test.1 (decided.0 e))
