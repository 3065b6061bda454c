-- What each step of a run keeps.
use Rattle.std.proofs.Common.{◌≡◌, ◌++◌, [], ℕ, List, Option, None, Some, Result, Ok, Err, OnOk, OnErr}
use Rattle.std.proofs.Common.{take, sym, ap, subst, ◌∙◌, append_assoc, append-nil, refl, ◌∷◌}
use Rattle.std.specs.Io.KnownBytes.{Appends, Consumes, Keeps, IsAtEnd}
use Rattle.std.proofs.KnownBytes.{Appends-kept}
use Rattle.streams.specs.Lines.{lines_of}
use Rattle.streams.specs.declared.lines.RunFault.{RunFault}
use Rattle.streams.specs.declared.lines.RunFault.TheVariants.{Read, Write, Refused}
use Rattle.streams.specs.Answers.{Answering, Saying, Within, WritesAnswers, WritesPart, AnswersAll, AnswersSome}
use Rattle.streams.specs.Answers.{AnswersBefore, AnswersPart, LinesAre, Splits, Begins, IsDone, IsUnderWay}
use Rattle.streams.specs.Answers.{TakesLines, TakesSome, TakesBefore}
use Rattle.streams.specs.Answers.{EndsBy, IfRefused}
use Rattle.streams.proofs.Answers.{gained, gains-within, writes_more, writes_part}
use Rattle.streams.proofs.LineLaws.{takes_some}

-- with nothing after the input
whole : (x line : List ℕ) (done : List (List ℕ)) → Splits x done line → lines_of x ≡ done ++ lines_of line
whole x line done s =
    ap lines_of (sym (append-nil x)) ∙ s [] ∙ ap (λ (l : List ℕ). done ++ lines_of l) (append-nil line)

-- where the lines of what is left begin
lines_after : (x line y block z : List ℕ) (done : List (List ℕ)) → lines_of x ≡ done ++ lines_of (line ++ y) → y
    ≡ block ++ z
    → lines_of x ≡ done ++ lines_of ((line ++ block) ++ z)
lines_after x line y block z done e k =
    e ∙ ap (λ (l : List ℕ). done ++ lines_of (line ++ l)) k
    ∙ ap (λ (l : List ℕ). done ++ lines_of l) (sym (append_assoc line block z))

splits_taken : (x line y block z next : List ℕ) (done more : List (List ℕ)) → Splits x done (line ++ y) → y ≡ block ++ z
    → Splits (line ++ block) more next → Splits x (done ++ more) (next ++ z)
splits_taken x line y block z next done more s k t = λ after.
    let concat : line ++ y ++ after ≡ (line ++ block) ++ (z ++ after) = ap (λ (l : List ℕ). line ++ l ++ after) k
    ∙ simp append_assoc in
    s after ∙ ap (λ (l : List ℕ). done ++ lines_of l) concat
    ∙ ap (λ (l : List (List ℕ)). done ++ l)
    (t (z ++ after) ∙ ap (λ (l : List ℕ). more ++ lines_of l) (sym (append_assoc next z after)))
    ∙ sym (append_assoc done more _)

-- where some lines of the block were taken
lines_begun : (x line y block z : List ℕ) (done more rest : List (List ℕ)) → lines_of x ≡ done ++ lines_of (line ++ y)
    → y ≡ block ++ z
    → lines_of ((line ++ block) ++ z) ≡ more ++ rest → lines_of x ≡ (done ++ more) ++ rest
lines_begun x line y block z done more rest e k f =
    lines_after x line y block z done e k ∙ ap (λ (l : List (List ℕ)). done ++ l) f ∙ sym (append_assoc done more rest)

-- at the end of the input
at_end : (x line y z : List ℕ) (done : List (List ℕ)) → lines_of x ≡ done ++ lines_of (line ++ y) → y ≡ [] ++ z → z
    ≡ [] → lines_of x ≡ done ++ lines_of line
at_end x line y z done e k end =
    e ∙ ap (λ (l : List ℕ). done ++ lines_of (line ++ l)) (k ∙ end)
    ∙ ap (λ (l : List ℕ). done ++ lines_of l) (append-nil line)

-- what is done of the input, and what is left of it, after each step
done-kept : (a b d : Option (List ℕ)) (line : List ℕ) (done : List (List ℕ)) → IsDone a b line done → Keeps b d
    → IsDone a d line done
done-kept None b d line done u k = tt
done-kept (Some x) None d line done u k = absurd u
done-kept (Some x) (Some y) None line done u k = absurd k
done-kept (Some x) (Some y) (Some z) line done u k = subst (λ (l : List ℕ). Splits x done (line ++ l)) (sym k) u

done-some : (a b : Option (List ℕ)) (line : List ℕ) (done : List (List ℕ)) → IsDone a b line done
    → (rest : List (List ℕ)) × LinesAre a (done ++ rest)
done-some None b line done u = ([], tt)
done-some (Some x) None line done u = absurd u
done-some (Some x) (Some y) line done u = (lines_of (line ++ y), whole x (line ++ y) done u)

done-taken : (a b d : Option (List ℕ)) (line block next : List ℕ) (done more : List (List ℕ)) → IsDone a b line done
    → Consumes b d block → Splits (line ++ block) more next → IsDone a d next (done ++ more)
done-taken None b d line block next done more u k t = tt
done-taken (Some x) None d line block next done more u k t = absurd u
done-taken (Some x) (Some y) None line block next done more u k t = absurd k
done-taken (Some x) (Some y) (Some z) line block next done more u k t =
    splits_taken x line y block z next done more u k t

done-begun : (a b d : Option (List ℕ)) (line block : List ℕ) (done more : List (List ℕ)) → IsDone a b line done
    → Consumes b d block → Begins (line ++ block) more → (rest : List (List ℕ)) × LinesAre a ((done ++ more) ++ rest)
done-begun None b d line block done more u k t = ([], tt)
done-begun (Some x) None d line block done more u k t = absurd u
done-begun (Some x) (Some y) None line block done more u k t = absurd k
done-begun (Some x) (Some y) (Some z) line block done more u k t =
    ((t z).0, lines_begun x line y block z done more (t z).0 (whole x (line ++ y) done u) k (t z).1)

done-end : (a b d : Option (List ℕ)) (line : List ℕ) (done : List (List ℕ)) → IsDone a b line done → Consumes b d []
    → IsAtEnd d → LinesAre a (done ++ lines_of line)
done-end None b d line done u k end = tt
done-end (Some x) None d line done u k end = absurd u
done-end (Some x) (Some y) None line done u k end = absurd k
done-end (Some x) (Some y) (Some z) line done u k end =
    at_end x line y z done (whole x (line ++ y) done u) k end

pub under_way-kept : (A : Answering) (a b d o n : Option (List ℕ)) (line : List ℕ)
    → IsUnderWay A a b o n line → Keeps b d
    → IsUnderWay A a d o n line
under_way-kept A a b d o n line u k = (u.0, done-kept a b d line u.0 u.1 k, u.2)

pub under_way-some : (A : Answering) (a b o n : Option (List ℕ)) (line : List ℕ)
    → IsUnderWay A a b o n line → AnswersSome A a o n
under_way-some A a b o n line u = let some = done-some a b line u.0 u.1 in (u.0, some.0, some.1, u.2)

pub under_way-taken : (A : Answering) (a b d o n m : Option (List ℕ)) (line next block old new : List ℕ)
    → IsUnderWay A a b o n line
    → Consumes b d block
    → TakesLines A (line ++ block) next old new → old ≡ [] → Appends n m new → IsUnderWay A a d o m next
under_way-taken A a b d o n m line next block old new u k t none w = (
  u.0 ++ t.0,
  done-taken a b d line block next u.0 t.0 u.1 k t.1,
  writes_more A u.0 t.0 o n m u.2 (new, gained A t.0 old new t.2 none, w),
)

pub under_way-stopped : (A : Answering) (a b d o n m : Option (List ℕ)) (line block old new : List ℕ)
    → IsUnderWay A a b o n line
    → Consumes b d block
    → TakesSome A (line ++ block) old new → old ≡ [] → Appends n m new → AnswersSome A a o m
under_way-stopped A a b d o n m line block old new u k t none w =
    let some = done-begun a b d line block u.0 t.0 u.1 k t.1 in
    (u.0 ++ t.0, some.0, some.1, writes_more A u.0 t.0 o n m u.2 (new, gained A t.0 old new t.2 none, w))

pub under_way-partial : (A : Answering) (a b d o n m : Option (List ℕ)) (line block old new : List ℕ) (j : ℕ)
    → IsUnderWay A a b o n line
    → Consumes b d block
    → TakesSome A (line ++ block) old new → old ≡ [] → Appends n m (take j new) → AnswersPart A a o m
under_way-partial A a b d o n m line block old new j u k t none w =
    let some = done-begun a b d line block u.0 t.0 u.1 k t.1 in (
      u.0 ++ t.0,
      some.0,
      some.1,
      writes_part A u.0 t.0 o n m u.2
          (record { text = new; written = j; answers = gained A t.0 old new t.2 none; appends = w }),
    )

-- either way, some lines were taken
pub takes_either : (A : Answering) {T E : Type 0} (r : Result T E) (xs next old new : List ℕ)
    → OnOk r (TakesLines A xs next old new)
    → OnErr r (TakesSome A xs old new) → TakesSome A xs old new
takes_either A (Ok x) xs next old new t s = takes_some A xs next old new t
takes_either A (Err e) xs next old new t s = s

pub under_way-all : (A : Answering) (a b d o n m : Option (List ℕ)) (line : List ℕ)
    → IsUnderWay A a b o n line → Consumes b d []
    → IsAtEnd d
    → WritesAnswers A (lines_of line) n m → AnswersAll A a o m
under_way-all A a b d o n m line u k end w =
    (u.0 ++ lines_of line, done-end a b d line u.0 u.1 k end, writes_more A u.0 (lines_of line) o n m u.2 w)

pub under_way-unfinished : (A : Answering) (a b o n m : Option (List ℕ)) (line : List ℕ)
    → IsUnderWay A a b o n line → Keeps n m
    → AnswersSome A a o m
under_way-unfinished A a b o n m line u w =
    let some = done-some a b line u.0 u.1 in
    (u.0, some.0, some.1, (u.2.0, u.2.1, Appends-kept o n m _ u.2.2 w))

pub under_way-end_partial : (A : Answering) (a b d o n m : Option (List ℕ)) (line : List ℕ)
    → IsUnderWay A a b o n line → Consumes b d []
    → IsAtEnd d
    → WritesPart A (lines_of line) n m → AnswersPart A a o m
under_way-end_partial A a b d o n m line u k end w =
    let all = u.0 ++ lines_of line in (
      all,
      [],
      subst (LinesAre a) (sym (append-nil all)) (done-end a b d line u.0 u.1 k end),
      writes_part A u.0 (lines_of line) o n m u.2 w,
    )

-- by what answers at first
pub takes_lines-within : (A B : Answering) (xs line old new : List ℕ) → Within A B → TakesLines A xs line old new
    → TakesLines B xs line old new
takes_lines-within A B xs line old new w t = (t.0, t.1, gains-within A B t.0 old new w t.2)

pub takes_some-within : (A B : Answering) (xs old new : List ℕ) → Within A B → TakesSome A xs old new
    → TakesSome B xs old new
takes_some-within A B xs old new w t = (t.0, t.1, gains-within A B t.0 old new w t.2)

pub takes_before-within : {F : Type 0} (A B : Answering) (Q R : Saying F) (fault : F) (xs old new : List ℕ)
    → Within A B → Within Q R → TakesBefore A Q fault xs old new → TakesBefore B R fault xs old new
takes_before-within A B Q R fault xs old new w v t =
    (t.0, t.1, t.2, gains-within A B t.0 old new w t.3, v t.1 fault t.4)

module _ {F : Type 0} (R : Saying F) (A : Answering) where
  -- a line of the block is refused
  pub under_way-before : (fault : F) (a b d o n m : Option (List ℕ)) (line block old new : List ℕ)
      → IsUnderWay A a b o n line → Consumes b d block → TakesBefore A R fault (line ++ block) old new → old ≡ []
      → Appends n m new → AnswersBefore A R fault a o m
  under_way-before fault a b d o n m line block old new u k t none w =
      let some = done-begun a b d line block u.0 (t.0 ++ t.1 ∷ []) u.1 k t.2 in
      let next : (u.0 ++ (t.0 ++ t.1 ∷ [])) ++ some.0 ≡ (u.0 ++ t.0) ++ t.1 ∷ some.0 = simp append_assoc in (
        u.0 ++ t.0,
        t.1,
        some.0,
        subst (LinesAre a) next some.1,
        writes_more A u.0 t.0 o n m u.2 (new, gained A t.0 old new t.3 none, w),
        t.4,
      )

  -- the last line is refused
  pub under_way-last : (fault : F) (a b d o n m : Option (List ℕ)) (line : List ℕ) → IsUnderWay A a b o n line
      → Consumes b d [] → IsAtEnd d → lines_of line ≡ line ∷ [] → Keeps n m → R line fault
      → AnswersBefore A R fault a o m
  under_way-last fault a b d o n m line u k end one w r = (
    u.0,
    line,
    [],
    subst (LinesAre a) (ap (λ (l : List (List ℕ)). u.0 ++ l) one) (done-end a b d line u.0 u.1 k end),
    (u.2.0, u.2.1, Appends-kept o n m _ u.2.2 w),
    r,
  )

  -- what is known of a fault at the last line
  pub ends_kept : (line : List ℕ) (o n : Option (List ℕ)) (e : RunFault F) → EndsBy A R line o n e
      → (e ≡ Write → ⊥) → Keeps o n
  ends_kept line o n Read p h = absurd p
  ends_kept line o n Write p h = absurd (h refl)
  ends_kept line o n (Refused fault) p h = p.1

  pub ends_unread : (line : List ℕ) (o n : Option (List ℕ)) (e : RunFault F) → EndsBy A R line o n e
      → e ≡ Read → ⊥
  ends_unread line o n e p is = let bad : EndsBy A R line o n Read = subst (EndsBy A R line o n) is p in bad

  pub ends_part : (line : List ℕ) (o n : Option (List ℕ)) (e : RunFault F) → EndsBy A R line o n e
      → e ≡ Write → WritesPart A (lines_of line) o n
  ends_part line o n e p is = let part : EndsBy A R line o n Write = subst (EndsBy A R line o n) is p in part

  pub ends_refused : (P : F → Type 0) (line : List ℕ) (o n : Option (List ℕ)) (e : RunFault F)
      → EndsBy A R line o n e → ((fault : F) → lines_of line ≡ line ∷ [] → Keeps o n → R line fault → P fault)
      → IfRefused e P
  ends_refused P line o n Read p f = tt
  ends_refused P line o n Write p f = tt
  ends_refused P line o n (Refused fault) p f = f fault p.0 p.1 p.2
