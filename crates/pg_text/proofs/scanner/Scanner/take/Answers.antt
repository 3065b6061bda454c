-- What the proof of `Scanner::take` answers by hand.
use Rattle.std.proofs.Common.{◌++◌, ◌∙◌, ap, length, refl, sym, take}
use Rattle.std.proofs.Math.Seq.{take-append_seam}
use Rattle.std.specs.Cmp.Lexicographic.{bytes_decides}
use Rattle.std.proofs.lemmas.List.{take-append-drop}
use Rattle.pg_text.proofs.scanner.Scanner.take.Goals as goal

pub returns-in-Some : goal.returns-in-Some
returns-in-Some c =
    let text = c.args.self.now.rest.now in
    let word = c.args.word.now in
    let h = c.in-Some.ensures.cases in
    let front = (bytes_decides (take (length word) text) word).0 h.0 in
    sym (take-append-drop (length word) text) ∙ (λ t. front t ++ sym h.1 t)

pub returns-in-None : goal.returns-in-None
returns-in-None c =
    let text = c.args.self.now.rest.now in
    let word = c.args.word.now in (
      refl,
      λ rest is.
          let same = (bytes_decides (take (length word) text) word).1
          (ap (take (length word)) is ∙ take-append_seam word rest) in
          absurd (cc (same, c.in-None.ensures.cases)),
    )
