-- What the proof of `types_of` answers by hand.
use Rattle.std.proofs.Common.{◌≡◌, ◌+◌, ◌++◌, [], ap, append-nil, append_assoc, drop, sym, ◌∙◌}
use Rattle.std.proofs.lemmas.List.{drop_all}
use Rattle.pg_copy.proofs.ArgumentLaws.{words_step}
use Rattle.pg_copy.specs.Arguments.{texts_of, types_of_word, types_of_words}
use Rattle.pg_copy.proofs.arguments.types_of.Goals as goal

pub loop-word-preserved : goal.loop-word-preserved
loop-word-preserved c =
    let l = c.loop-word in
    let words = c.args.words.now in
    let i = l.word-index in
    let first = types_of_word c.as_str.result.now in
    let rest = types_of_words (drop (i + 1) words) in
    let old = texts_of l.types.items in
    let cut : types_of_words (drop i words) ≡ first ++ rest =
    words_step words i c.word-item.result c.loop-word-test.true c.word-item.is
    ∙ ap (λ b. types_of_word b ++ rest) (sym c.as_str.ensures.value) in
    ap (λ k. k ++ rest) c.in_ok-push_types.ensures ∙ append_assoc old first rest ∙ sym (ap (λ k. old ++ k) cut)
    ∙ l.invariant

pub returns : goal.returns
returns c =
    let l = c.loop-word in
    let words = c.args.words.now in
    let none : types_of_words (drop l.word-index words) ≡ [] =
    ap types_of_words (drop_all l.word-index words c.loop-word-test.false) in
    let old = texts_of l.types.items in
    sym (append-nil old) ∙ sym (ap (λ k. old ++ k) none) ∙ l.invariant
