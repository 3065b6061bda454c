-- The text of a value, and what is parsed from it.
use Rattle.std.specs.Prelude.{◌≡◌, ℕ, List, []}

-- the text of a value of which P holds stands for that value, and for no other
abbrev pub IsReadBack : {A : Type 0} → (A → Type 0) → (A → List ℕ → List ℕ → Type 0) → (List ℕ → A → Type 0) → Type 0
IsReadBack {A} P shows says =
    (v : A) (text : List ℕ) → P v → shows v [] text → says text v × ((w : A) → says text w → w ≡ v)
