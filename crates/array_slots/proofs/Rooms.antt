-- The room of a local that is `None` has in it the room of an array, which it gets back. Assumes `Logic`.
use mathlib.Core.Path.{◌≡◌, refl, sym, subst}
use Prim.Native.Nat.{ℕ, zero, ◌+◌, ◌%◌, max}
use native.Mathlib.Omega.{arith}
use mathlib.Core.List.{[], ◌∷◌}
use lib.Dec.{T}
use seplogic.Ra.Ura.{Ura}
use base.Logic.{SProp, ent, sep, emp, wand, wand_i, apply∗}
use base.Fml.{ftrue, froom}
use mir.Syntax.{Ty, Sym, Width, w8, w16, w32, w64, w128, ty_int, ty_array, ty_struct, ty_enum}
use mir.Syntax.{tcons, tnil, ttcons, ttnil}
use mir.Val.{bytes}
use prog.Memory.{align, size, up, capped, divides}
use prog.Align.{align-bytes, align_size, dv→}
use types.Logic.{Logic}
use types.Kit.{‵, raw, ◌⊛◌, ◌$◌, ◌∵◌, !, qed, by, move, keep, use1, use2, use3, split, split3, join, rewrite, done}
use denote.Steps.{nothing}

-- where a type of alignment a and size s lies in the local: `Option<ManuallyDrop<_>>` of it is as large and as aligned
-- as a struct of the tag's byte and it, in which it begins at the offset a
record LiesInOption (a s : ℕ) : Type 0 where
  pub as_large : up (max 1 (max a 1)) (up a (up 1 zero + 1) + s)
      ≡ up (max 1 (max (max (max a 1) 1) 1)) (max 1 (max (up (max a 1) 1 + up (max a 1) (up a zero + s)) 1))
  pub as_aligned : T (divides (max 1 (max a 1)) (max 1 (max (max (max a 1) 1) 1)))
  pub begins : 0 + up a (up 1 zero + 1) ≡ capped a + 0

-- it does so at every width that an alignment can have
at_width : (w : Width) (s : ℕ) → s % bytes w ≡ 0 → LiesInOption (bytes w) s
at_width w8 s h = record { as_large = omega arith; as_aligned = tt; begins = refl }
at_width w16 s h = record { as_large = omega arith; as_aligned = tt; begins = refl }
at_width w32 s h = record { as_large = omega arith; as_aligned = tt; begins = refl }
at_width w64 s h = record { as_large = omega arith; as_aligned = tt; begins = refl }
at_width w128 s h = record { as_large = omega arith; as_aligned = tt; begins = refl }

in_option : (τ : Ty) → LiesInOption (align τ) (size τ)
in_option τ =
    let whole = dv→ (align τ) (size τ) (align_size τ) in
    subst (λ (a : ℕ). LiesInOption a (size τ)) (sym (align-bytes τ))
    (at_width _ (size τ) (subst (λ (a : ℕ). size τ % a ≡ 0) (align-bytes τ) whole))

-- ν and μ name the option and what it holds; τ is the type of the n elements, and b the local's block
module _ {M : Type 1} {𝓤 : Ura M} (𝓛 : Logic 𝓤) (ν μ : Sym) (τ : Ty) (n b : ℕ) where
  open 𝓛 use {H}

  abbrev places : Ty
  places = ty_array τ n

  -- the type of the local
  abbrev pub option : Ty
  option = ty_enum ν (ttcons tnil (ttcons (tcons (ty_struct μ (tcons places tnil)) tnil) ttnil))

  -- the same bytes as a tag and an array
  abbrev tagged : Ty
  tagged = ty_struct ν (tcons (ty_int w8) (tcons places tnil))

  -- where the array begins
  abbrev pub start : ℕ
  start = capped (align τ) + 0

  -- the array's room, given back, is the local's
  abbrev pub GivesBack : SProp 𝓤
  GivesBack = wand 𝓤 (H.room places b start) (H.room option b 0)

  abbrev offset : ℕ
  offset = 0 + up (align τ) (up 1 zero + 1)

  abbrev Fields : SProp 𝓤
  Fields = sep 𝓤 (H.room (ty_int w8) b (0 + up 1 zero)) (sep 𝓤 (H.room places b offset) (emp 𝓤))

  -- the tag's room and the two ways back are the way back from the array's room
  gives_back : ent 𝓤 (sep 𝓤 (H.room (ty_int w8) b (0 + up 1 zero))
      (sep 𝓤 (wand 𝓤 Fields (H.room tagged b 0)) (wand 𝓤 (H.room tagged b 0) (H.room option b 0))))
      (wand 𝓤 (H.room places b offset) (H.room option b 0))
  gives_back =
      let tag = ‵ (froom (ty_int w8) b (0 + up 1 zero)) in
      let joins = raw (wand 𝓤 Fields (H.room tagged b 0)) in
      let retypes = raw (wand 𝓤 (H.room tagged b 0) (H.room option b 0)) in
      wand_i 𝓤 _ (H.room places b offset) (H.room option b 0)
      (qed 𝓛 ((tag ⊛ joins ⊛ retypes) ∷ ‵ (froom places b offset) ∷ []) ∵
      split3 ! $ nothing ! $ move ! (4 ∷ 0 ∷ []) $ join ! $ move ! (1 ∷ 0 ∷ []) $ join ! $
      use2 𝓛 (‵ (froom tagged b 0)) (apply∗ 𝓤 Fields (H.room tagged b 0)) $
      by ! (apply∗ 𝓤 (H.room tagged b 0) (H.room option b 0)))

  pub array_in_option : ent 𝓤 (H.room option b 0) (sep 𝓤 (H.room places b start) GivesBack)
  array_in_option =
      let lies = in_option places in
      let tag = ‵ (froom (ty_int w8) b (0 + up 1 zero)) in
      let joins = raw (wand 𝓤 Fields (H.room tagged b 0)) in
      let retypes = raw (wand 𝓤 (H.room tagged b 0) (H.room option b 0)) in
      qed 𝓛 (‵ (froom option b 0) ∷ []) ∵
      use1 𝓛 (‵ (froom tagged b 0) ⊛ retypes) (𝓛.laws.room_as option tagged b 0 lies.as_large lies.as_aligned) $
      split ! $
      use1 𝓛 ((tag ⊛ ‵ (froom places b offset) ⊛ ‵ ftrue) ⊛ joins)
      (𝓛.laws.room_fields ν (tcons (ty_int w8) (tcons places tnil)) b 0) $ split ! $ split3 ! $
      -- [the tag's room; the array's; nothing; the way back to the struct's room; that to the local's]
      move ! (0 ∷ 3 ∷ 4 ∷ []) $
      use3 𝓛 (raw (wand 𝓤 (H.room places b offset) (H.room option b 0))) gives_back $
      rewrite ! 0 (λ (k : ℕ). raw (wand 𝓤 (H.room places b k) (H.room option b 0))) lies.begins refl $
      rewrite ! 1 (λ (k : ℕ). ‵ (froom places b k)) lies.begins refl $
      keep ! (1 ∷ 0 ∷ []) $ done !
