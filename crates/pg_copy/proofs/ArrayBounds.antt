-- The lower bound of an array that was read.
use Rattle.std.proofs.Common.{◌≡◌, ◌≤◌, ℕ, pos, List, [], ◌∷◌, ◌++◌, Option, Some, None, Ok, length, take, drop, ap}
use Rattle.std.proofs.Common.{Bool, Err, arith, false, inl, inr, refl, true}
use Rattle.std.proofs.Common.{subst, sym, ◌∙◌, append_assoc, length-append, length-drop}
use Rattle.std.proofs.Math.Seq.{drop-append_seam, take-append_seam}
use Rattle.std.proofs.lemmas.Int.{ints}
use Rattle.std.proofs.lemmas.List.{drop-append-le, take-append-le}
use Rattle.std.proofs.lemmas.Option.{IfSome_then}
use Rattle.std.proofs.lemmas.Nat.{from_be_bytes-to_be_bytes_4}
use Rattle.std.specs.Int.{w32}
use Rattle.std.specs.Prelude.{◌↔◌, FitsSigned, IfSome, IsTrue, Vec, codes}
use Rattle.std.specs.Global.{Global}
use Rattle.pg_base.proofs.FormatLaws.{be-length, be-single}
use Rattle.pg_base.proofs.FrameLaws.{bytes-frame}
use Rattle.pg_base.specs.Arrays.{SpellsDimension, SpellsDimensions, SpellsHead}
use Rattle.pg_base.specs.Cells.{Cell, SpellsAll, be}
use Rattle.pg_copy.proofs.CellTexts.{cell_refused, value_taken}
use Rattle.pg_copy.specs.CellRefusals.{RefusesFront}
use Rattle.pg_copy.specs.Values.{HasOtherBound, ReadsShown, ReadsVec, values}
use Rattle.pg_types.specs.declared.fault.Fault.{Fault}
use Rattle.postgres_types.specs.ArrayReading.{ReadsByElement, ReadsList}
use Rattle.postgres_types.specs.ArrayTypes.{element_of}
use Rattle.postgres_types.specs.Content.{Content}
use Rattle.postgres_types.specs.Faults.{Outcome, Refusal, refusal_of, user}
use Rattle.postgres_types.specs.FrameReading.{ReadsFrame}
use Rattle.postgres_types.specs.OptionReading.{ReadsOption}

-- the head of an array of one dimension is of twenty bytes
head_len : (b : List ℕ) (n : ℕ) (s rest : List ℕ) → SpellsHead b (record { left = n; bytes = s })
    → take 4 (b ++ rest) ≡ be w32 (pos 1) → 20 ≤ length b
head_len b n s rest h one =
    let four : length h.count_prefix ≡ 4 = be-length w32 h.count_prefix (pos h.dimension_count) h.counts in
    let parts : b ++ rest ≡ h.count_prefix ++ ((h.flags_and_oid ++ h.remaining) ++ rest) =
    ap (λ (l : List ℕ). l ++ rest) h.is ∙ append_assoc h.count_prefix (h.flags_and_oid ++ h.remaining) rest in
    let front : take 4 (b ++ rest) ≡ h.count_prefix =
    ap (λ (k : ℕ). take k (b ++ rest)) (sym four) ∙ ap (take (length h.count_prefix)) parts
    ∙ take-append_seam h.count_prefix ((h.flags_and_oid ++ h.remaining) ++ rest) in
    let fits : FitsSigned w32 (pos 1) = omega (arith, ints) in
    let is_one = be-single w32 from_be_bytes-to_be_bytes_4 h.count_prefix (pos h.dimension_count) (pos 1) h.counts
    (fits, sym front ∙ one) in
    let count : h.dimension_count ≡ 1 = cc in
    let dimension : SpellsDimension h.remaining (record { left = n; bytes = s }) =
    subst (λ (d : ℕ). SpellsDimensions d h.remaining (record { left = n; bytes = s })) count h.spells in
    let long = be-length w32 dimension.length_bytes (pos n) dimension.counts in
    let all = ap length h.is in
    let first = length-append h.count_prefix (h.flags_and_oid ++ h.remaining) in
    let second = length-append h.flags_and_oid h.remaining in
    let others = ap length dimension.is in
    let third = length-append dimension.length_bytes (dimension.lower_bound_bytes ++ s) in
    let fourth = length-append dimension.lower_bound_bytes s in
    omega (arith, four, long, all, first, second, others, third, fourth, h.width, dimension.width)

module _ {A : Type 0} (reads : Content → Cell → Outcome A → Type 0) (b rest : List ℕ) (v : Vec A Global)
    (one : take 4 (b ++ rest) ≡ be w32 (pos 1)) where
  element_len : (o : Option Content)
      → ReadsByElement (λ element. ReadsList (λ (x : Vec A Global). x.items) (reads element)) o (Some b) (Ok v)
      → 20 ≤ length b
  element_len None h = absurd h
  element_len (Some element) h = head_len b h.count h.body.0 rest h.body.1 one

  pub list_len : (ty : Content) → ReadsVec reads ty (Some b) (Ok v) → 20 ≤ length b
  list_len ty h = element_len (element_of ty) h

-- the bytes of the bound
bound_in : (b rest : List ℕ) → 20 ≤ length b → take 4 (drop 16 (b ++ rest)) ≡ take 4 (drop 16 b)
bound_in b rest long =
    let dropped = drop-append-le 16 b rest (omega (arith, long)) in
    let left = length-drop 16 b in
    ap (take 4) dropped ∙ take-append-le 4 (drop 16 b) rest (omega (arith, left, long))

-- what the bytes from the cell on say of the bound, the cell says
bound_of_cell : (b rest : List ℕ) → 20 ≤ length b → HasOtherBound (b ++ rest) → HasOtherBound b
bound_of_cell b rest long h =
    let first = take-append-le 4 b rest (omega (arith, long)) in
    (long, sym first ∙ h.1, λ e. h.2 (bound_in b rest long ∙ e))

-- and what the cell says, the bytes from it on say
bound_in_all : (b rest : List ℕ) → HasOtherBound b → HasOtherBound (b ++ rest)
bound_in_all b rest h =
    let first = take-append-le 4 b rest (omega (arith, h.0)) in
    let all = length-append b rest in
    (omega (arith, h.0, all), first ∙ h.1, λ e. h.2 (sym (bound_in b rest h.0) ∙ e))

-- the array that was taken, of whose bytes and those after them this is said
module _ {A : Type 0} (reads : Content → Cell → Outcome A → Type 0) (ty : Content) (s b rest : List ℕ)
    (v : Vec A Global) (spelled : SpellsAll s (Some b ∷ []) rest) where
  after_length : drop 4 s ≡ b ++ spelled.rest
  after_length =
      let framed = bytes-frame spelled.front b spelled.spells in
      let four : length framed.0 ≡ 4 = be-length w32 framed.0 (pos (length b)) framed.2 in
      let parts : s ≡ framed.0 ++ (b ++ spelled.rest) =
      spelled.is ∙ ap (λ (l : List ℕ). l ++ spelled.rest) framed.1 ∙ append_assoc framed.0 b spelled.rest in
      ap (λ (k : ℕ). drop k s) (sym four) ∙ ap (drop (length framed.0)) parts
      ∙ drop-append_seam framed.0 (b ++ spelled.rest)

  -- the bytes after the length prefix say of the bound what the cell says
  pub other_bound : ReadsVec reads ty (Some b) (Ok v) → HasOtherBound (drop 4 s) → HasOtherBound b
  other_bound h bound =
      let here : HasOtherBound (b ++ spelled.rest) = subst HasOtherBound after_length bound in
      bound_of_cell b spelled.rest (list_len reads b spelled.rest v here.1 ty h) here

  pub bound_shown : ReadsVec reads ty (Some b) (Ok v) → (HasOtherBound (drop 4 s) → ⊥)
      → ReadsShown (ReadsVec reads ty) (Some b) (Ok v)
  bound_shown h none =
      (h, λ other. none (subst HasOtherBound (sym after_length) (bound_in_all b spelled.rest other)))

-- the fault of an array with another lower bound
pub bound_refused : {A : Type 0} (reads : Content → Cell → Outcome A → Type 0) (ty : Content) (free : Cell → Type 0)
    (s new : List ℕ) (v : Vec A Global) (f : Fault) (shows : Vec A Global → List ℕ → List ℕ → Type 0)
    → ReadsFrame (ReadsOption (ReadsVec reads ty)) free s (Ok (Some v)) new
    → HasOtherBound (drop 4 s) → refusal_of f ≡ Some (user (codes "array with a lower bound other than 1"))
    → IfSome (refusal_of f) (RefusesFront (values {A = Vec A Global} (λ ty. ReadsShown (ReadsVec reads ty)) shows) ty s)
bound_refused {A} reads ty free s new v f shows read bound e =
    let taken = value_taken (ReadsVec reads ty) free s new v read in
    subst (λ o. IfSome o (RefusesFront (values {A = Vec A Global} (λ ty. ReadsShown (ReadsVec reads ty)) shows) ty s))
    (sym e)
    (inr (taken.0, new, taken.1, inr (v, taken.2, other_bound reads ty s taken.0 new v taken.1 taken.2 bound, refl)))

-- the fault of an array that is refused as a list
module _ {A : Type 0} (reads : Content → Cell → Outcome A → Type 0) (ty : Content) (s : List ℕ)
    (shows : Vec A Global → List ℕ → List ℕ → Type 0) where
  refused_too : (r : Refusal) → RefusesFront (values {A = Vec A Global} (ReadsVec reads) shows) ty s r
      → RefusesFront (values {A = Vec A Global} (λ ty. ReadsShown (ReadsVec reads ty)) shows) ty s r
  refused_too r (inl truncated) = inl truncated
  refused_too r (inr (b, rest, spelled, refused)) = inr (b, rest, spelled, inl refused)

  pub array_refused : (free : Cell → Type 0) (new : List ℕ) (f : Fault)
      → ReadsFrame (ReadsOption (ReadsVec reads ty)) free s (Err f) new
      → IfSome (refusal_of f)
      (RefusesFront (values {A = Vec A Global} (λ ty. ReadsShown (ReadsVec reads ty)) shows) ty s)
  array_refused free new f h =
      IfSome_then (refusal_of f) (cell_refused (ReadsVec reads) shows ty free s new f h) refused_too

-- what is tested does not hold
pub untrue : (b : Bool) (P : Type 0) → IsTrue b ↔ P → b ≡ false → P → ⊥
untrue b P h e p =
    let true_too : b ≡ true = h.1 p in
    let no : ⊥ = cc in
    no
