-- A pair is owned where its two values are. Assumes `Logic`.
use mathlib.Core.Path.{refl}
use mathlib.Core.List.{List, [], ◌∷◌}
use lib.Dec.{T}
use seplogic.Ra.Ura.{Ura}
use mir.Syntax.{Ty, tcons, tnil}
use mir.Val.{Val, vstruct, vcons, vnil, has_ty, has_tys, WT}
use base.Logic.{ent, sep}
use types.Logic.{Logic, sem}
use types.Kit.{‵, ◌$◌, ◌∵◌, !, qed, move, fjoin, fpack, feq_i, done}
use denote.RattleType.{RattleType, Valss}
use denote.Steps.{nothing}
use denote.Struct.Struct.{within, as_fields}
use denote.Struct.Declared.{shape}
use denote.Struct.Tuple.{Tuple, tuple_type}

-- the machine value of a pair
abbrev pub pair : Val → Val → Val
pair u v = vstruct (vcons u (vcons v vnil))

-- it has its type where the two have theirs
pub pair_typed : (σ τ : Ty) (u v : Val) → T (has_ty σ u) × WT u → T (has_ty τ v) × WT v
    → T (has_tys (tcons σ (tcons τ tnil)) (vcons u (vcons v vnil))) × WT (pair u v)
pair_typed σ τ u v left right = as_fields (σ ∷ τ ∷ []) (u ∷ v ∷ []) (left, (right, tt))

module _ {M : Type 1} {𝓤 : Ura M} (𝓛 : Logic 𝓤) (Q R : RattleType) (x : Q.Denot) (y : R.Denot) (u v : Val) where
  abbrev Both : RattleType
  Both = Tuple (Q ∷ R ∷ [])

  pub pair_owned : ent 𝓤 (sep 𝓤 (sem 𝓛 (Q.own_val x (u ∷ []))) (sem 𝓛 (R.own_val y (v ∷ []))))
      (sem 𝓛 (Both.own_val (x, y) (pair u v ∷ [])))
  pair_owned =
      qed 𝓛 (‵ (Q.own_val x (u ∷ [])) ∷ ‵ (R.own_val y (v ∷ [])) ∷ []) ∵
      nothing ! $ move ! (2 ∷ 0 ∷ []) $ fjoin ! $ move ! (1 ∷ 0 ∷ []) $ fjoin ! $
      feq_i ! (List Val) (pair u v ∷ []) (pair u v ∷ []) refl $ fjoin ! $
      fpack ! (Valss (Q ∷ R ∷ [])) (within (shape (tuple_type (Q ∷ R ∷ []))) (x, (y, tt)) (pair u v ∷ []))
      (u ∷ [], (v ∷ [], tt)) $ done !
