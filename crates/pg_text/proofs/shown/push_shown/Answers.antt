-- What the proof of `push_shown` answers by hand.
use Rattle.std.proofs.Common.{◌≡◌, ◌++◌, ℕ, List, Option, Some, None, Result, Ok, Err, refl, ap, sym, ◌∙◌}
use Rattle.std.specs.Fmt.{AppendsText, DisplaysOnOk, IsPlainFormatter}
use Rattle.std.specs.Prelude.{IsOk, OnOk}
use Rattle.std.specs.declared.fmt.Formatter.{Formatter}
use Rattle.std.specs.declared.fmt.Error.{Error}
use Rattle.std.proofs.lemmas.Fmt.{contents_after_writes}
use Rattle.pg_text.proofs.shown.push_shown.Goals as goal

on_ok : {T E P : Type 0} (r : Result T E) → (IsOk r → P) → OnOk r P
on_ok (Ok x) f = f refl
on_ok (Err e) f = tt

module _ {W : Type 0} (took : W → List ℕ → W → Type 0) (contents : W → List ℕ)
    (each : (w : W) (bs : List ℕ) (v : W) → took w bs v → contents v ≡ contents w ++ bs) where
  shown : (o : Option (List ℕ)) (f g : Formatter W) (r : Result (Unit {0}) Error) → DisplaysOnOk took f r o g
      → IsPlainFormatter f → IsOk r → AppendsText (contents f.writer) (contents g.writer) o
  shown None f g r h plain ok = tt
  shown (Some bs) f g r h plain ok = contents_after_writes took contents each f.writer bs g.writer (h plain ok).wrote

pub returns : goal.returns
returns g c = on_ok c.map_err.result (λ ok.
    let written = shown (λ before text after. after.0.items ≡ before.0.items ++ text) (λ b. b.0.items) (λ w bs v h. h)
    (g.T.Display.output c.args.value.now) c.new-f.result c.write-written.new.self c.write-written.result
    c.write-written.ensures.writes c.new-f.ensures.plain (sym c.map_err.ensures.variant ∙ ok) in
    let before : c.new-f.result.writer.0.items ≡ c.args.out.now.items =
    ap (λ w. w.0.items) c.new-f.ensures.writer ∙ ap (λ v. v.items) c.replace-bytes.ensures.value in
    let after : c.into_inner.result.0.items ≡ c.write-written.new.self.writer.0.items =
    ap (λ w. w.0.items) c.into_inner.ensures in
    rw (before, ← after) at written)
