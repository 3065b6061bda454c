-- Of equal keys the last entry stays.
use Rattle.std.proofs.Common.{◌≡◌, ℕ, List, [], ◌∷◌, ◌++◌, Bool, true, false, Option, Some, option_map, String}
use Rattle.std.proofs.Common.{string_bytes, refl, ap, sym, ◌∙◌, if◌then◌else◌, cond}
use Rattle.std.specs.Global.{Global}
use Rattle.std.specs.HashMap.{HashMap, get_by_text}
use Rattle.std.specs.Map.{update}
use Rattle.std.specs.Str.{bytes_eq}
use Rattle.pg_base.specs.Cells.{Cell}
use Rattle.pg_base.specs.Hstore.{Entry, last_value, or_this, value_at}

push_or : (b : Bool) (q : List ℕ) (x : Entry) (v : Cell) (rest : Option Cell)
    → or_this q x (if b then Some v else rest) ≡ (if b then Some v else or_this q x rest)
push_or true q x v rest = refl
push_or false q x v rest = refl

last_value-push : (q : List ℕ) (es : List Entry) (e : Entry) → last_value q (es ++ e ∷ [])
    ≡ (if bytes_eq e.0 q then Some e.1 else last_value q es)
last_value-push q [] e = refl
last_value-push q (x ∷ es) e = ap (or_this q x) (last_value-push q es e)
    ∙ push_or (bytes_eq e.0 q) q x e.1 (last_value q es)

view_or : (b : Bool) (v : Option (String Global)) (rest : Option (Option (String Global))) (u : Cell)
    (old : Option Cell) → option_map string_bytes v ≡ u
    → option_map (λ o. option_map string_bytes o) rest ≡ old
    → option_map (λ o. option_map string_bytes o) (cond b (Some v) rest) ≡ (if b then Some u else old)
view_or true v rest u old e f = ap Some e
view_or false v rest u old e f = f

-- one more entry is put in
pub put_in : {S : Type 0} (m n : HashMap (String Global) (Option (String Global)) S) (es : List Entry) (e : Entry)
    (k : List ℕ) (v : Option (String Global))
    → ((q : List ℕ) → value_at m q ≡ last_value q es)
    → ((q : List ℕ) → get_by_text n q ≡ update bytes_eq (get_by_text m) k (Some v) q)
    → k ≡ e.0 → option_map string_bytes v ≡ e.1 → (q : List ℕ) → value_at n q ≡ last_value q (es ++ e ∷ [])
put_in m n es e k v before puts key value q =
    ap (option_map (λ o. option_map string_bytes o)) (puts q)
    ∙ ap (λ (b : List ℕ). option_map (λ o. option_map string_bytes o) (cond (bytes_eq b q) (Some v) (get_by_text m q)))
    key
    ∙ view_or (bytes_eq e.0 q) v (get_by_text m q) e.1 (last_value q es) value (before q)
    ∙ sym (last_value-push q es e)
