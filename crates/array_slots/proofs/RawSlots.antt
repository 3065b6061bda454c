-- The raw calls of core's `Slots` at places in a block: what each asks, and what it gives. Assumes `Logic`.
use mathlib.Core.Path.{◌≡◌, refl, sym, subst, ap, ◌∙◌}
use mathlib.Core.Bool.{Bool}
use Prim.Native.Nat.{ℕ, ◌*◌, ◌<◌, ◌^◌}
use mathlib.Core.List.{List, [], ◌∷◌, ◌++◌}
use lib.Dec.{T}
use lib.ListN.{length}
use seplogic.Ra.Ura.{Ura}
use mir.Syntax.{Callee, w64}
use mir.Val.{Val, vint, vptr, vstruct, of_list, has_ty, WT}
use base.Logic.{SProp, ent, sep, ex, guard, emp, id⊢}
use base.Fml.{Fml, Lft, Share, ftrue, fsep, flft}
use prog.Memory.{Memory}
use prog.Routine.{Routine}
use types.Logic.{Logic, sem}
use contract.BorrowLft.{◌⊑◌}
use contract.Monad.{Fun, fact, fact_i}
use types.Kit.{Goal, Seq, Item, ‵, raw, ◌⊛◌, some, later, ◌$◌, ◌∵◌, !, qed, move, keep, drop, use0, use1, split, join}
use types.Kit.{pick, rewrite, fsplit, fsplit3, fjoin, fjoin3, fpick, feq_l, feq_i, flt_i, check, show, await, updating}
use types.Kit.{now, done}
use denote.RattleType.{RattleType}
use denote.Builtin.{usize}
use denote.Param.{layout}
use denote.RawPtr.{Ptr, RawPtr, block_ptr, in_block}
use denote.Steps.{only, heard, nothing}
use denote.Struct.Tuple.{Tuple}
use denote.Triple.Spec.{triple_of}
use denote.Triple.Statement.{Contract}
use Rattle.core.specs.Mem.Slots.{slots_items, slots_filled, slots_ptr, slots_len}
use Rattle.core.specs.Mem.Slots.Ownership.{slots, owned}
use Rattle.core.specs.contracts.slots.Slots.from_raw_parts as FromParts
use Rattle.core.specs.contracts.slots.Slots.from_raw_parts.Key as from_parts
use Rattle.core.specs.contracts.slots.Slots.into_raw_parts as IntoParts
use Rattle.core.specs.contracts.slots.Slots.into_raw_parts.Key as into_parts
use Rattle.core.proofs.mem.Param.{El, args, el_x, R}
use Rattle.core.proofs.slots.Opens.{Sr, words_val, row_val, row_had, row_made}
use Rattle.core.proofs.slots.Places.{sz}

-- the machine's two words of `Slots` are typed, as a struct and as a pair
pub words_typed : (E : El) (v : Val) (b o n : ℕ) → v ≡ row_val b o n → n < 2 ^ 64
    → T (has_ty (layout (Sr E)) v) × WT v
words_typed E v b o n e fits =
    subst (λ (z : Val). T (has_ty (layout (Sr E)) z) × WT z) (sym e) (tt, (tt, (record { fits = fits }, tt)))

abbrev Parts : RattleType
Parts = Tuple (RawPtr ∷ usize ∷ [])

pub parts_typed : (v : Val) (b o n : ℕ) → v ≡ row_val b o n → n < 2 ^ 64 → T (has_ty (layout Parts) v) × WT v
parts_typed v b o n e fits =
    subst (λ (z : Val). T (has_ty (layout Parts) z) × WT z) (sym e) (tt, (tt, (record { fits = fits }, tt)))

module _ (E : El) where
  -- the places at an offset of a block, of which some hold a value
  abbrev pub slots_at : ℕ → ℕ → List (el_x E) → List Bool → Fml
  slots_at b o xs fs = slots (R E) (block_ptr b o) xs fs

  abbrev pub from_key : Callee
  from_key = from_parts.name (args E)

  abbrev pub into_key : Callee
  into_key = into_parts.name (args E)

module _ (E : El) {M : Type 1} {𝓤 : Ura M} {𝓛 : Logic 𝓤} {K : Type 0} {Γ : List (Item 𝓤)} {G : Goal 𝓤 𝓛.H} where
  -- the two words of an owned `Slots` are learned, and it stays
  pub words_of : K → (r : (Sr E).Denot) (vs : List Val)
      → ((b o : ℕ) → slots_ptr r ≡ block_ptr b o → vs ≡ row_val b o (slots_len r) ∷ [] → slots_len r < 2 ^ 64
      → Seq K 𝓛 (‵ ((Sr E).own_val r (row_val b o (slots_len r) ∷ [])) ∷ Γ) G)
      → Seq K 𝓛 (‵ ((Sr E).own_val r vs) ∷ Γ) G
  words_of t r vs k = row_had E t r vs (λ b o at e fits small. row_made E t r b o at fits small $ k b o at e fits)

module _ (E : El) {M : Type 1} {𝓤 : Ura M} (𝓛 : Logic 𝓤) (at_mem : Memory → SProp 𝓤) (run : Routine → Fun 𝓤) where
  open 𝓛 use {H, A}

  abbrev pub From : Contract 𝓤
  From = triple_of 𝓛 (FromParts.signature E.row) (FromParts.spec E.row 𝓛 at_mem run)

  abbrev pub Into : Contract 𝓤
  Into = triple_of 𝓛 (IntoParts.signature E.row) (IntoParts.spec E.row 𝓛 at_mem run)

  module _ (κ : Lft) (q : Share) (b o n : ℕ) (xs : List (el_x E)) (fs : List Bool) where
    abbrev pub from_at : From.Ghost
    from_at = (((κ, tt), (q, tt), tt, (block_ptr b o, (n, tt)), (vptr b o ∷ [], (vint w64 n ∷ [], tt))), (xs, fs))

    -- what `from_raw_parts` says of its result
    abbrev pub MadeOf : (Sr E).Denot → Type 0
    MadeOf r = (slots_ptr r ≡ block_ptr b o) × (slots_len r ≡ n) × (slots_items r ≡ xs) × (slots_filled r ≡ fs)

    pub from_asks : κ ⊑ E.row.lives → n ≡ length xs → n ≡ length fs → n < 2 ^ 64 → n * sz E < 2 ^ 63
        → ent 𝓤 (sep 𝓤 (sem 𝓛 (slots_at E b o xs fs)) (A.lft κ q)) (From.pre from_at)
    from_asks outlives items flags fits small =
        let Counts : Type 0 = (n ≡ length xs) × (n ≡ length fs) in
        let Outlives : Type 0 = κ ⊑ E.row.lives in
        qed 𝓛 (‵ (slots_at E b o xs fs) ∷ ‵ (flft κ q) ∷ []) ∵
        -- what it requires
        flt_i ! (n * sz E) (2 ^ 63) small $ fjoin ! $
        use0 𝓛 (raw (fact 𝓤 Counts)) (fact_i 𝓤 Counts (emp 𝓤) (items, flags)) $ join ! $
        use0 𝓛 (raw (fact 𝓤 Outlives)) (fact_i 𝓤 Outlives (emp 𝓤) outlives) $ join ! $
        -- its arguments
        nothing ! $ flt_i ! n (2 ^ 64) fits $ feq_i ! (List Val) (vint w64 n ∷ []) (vint w64 n ∷ []) refl $ fjoin ! $
        feq_i ! (List Val) (vptr b o ∷ []) (vptr b o ∷ []) refl $ fjoin3 ! $
        -- its token
        nothing ! $ move ! (3 ∷ 0 ∷ []) $ join ! $ join ! $ done !

    pub from_gives : (v : Val) → ent 𝓤 (From.post from_at v)
        (H.⇛ (ex 𝓤 (λ (r : (Sr E).Denot). guard 𝓤 ((v ≡ row_val b o n) × MadeOf r)
        (sep 𝓤 (sem 𝓛 ((Sr E).own_val r (row_val b o n ∷ []))) (A.lft κ q)))))
    from_gives v =
        qed 𝓛 (raw (From.post from_at v) ∷ []) ∵ updating ! $
        use1 𝓛 (later (some (λ (r : (Sr E).Denot). ((‵ (flft κ q) ⊛ ‵ ftrue) ⊛ ‵ ((Sr E).own_val r (v ∷ [])))
        ⊛ some (λ (ws : Unit {0} × (Unit {0} × Unit {0})).
        ‵ (fsep ftrue (fsep ftrue ftrue)) ⊛ raw (fact 𝓤 (MadeOf r))))))
        (id⊢ 𝓤 _) $ await ! tt $ pick ! (λ r. split ! $ move ! (1 ∷ []) $ pick ! (λ ws. split ! $ drop ! $
        heard ! (MadeOf r) (λ parts. split ! $ split ! $ move ! (2 ∷ []) $ words_of E ! r (v ∷ []) (λ b' o' at e fits.
        let same : row_val b' o' (slots_len r) ≡ row_val b o n = λ i. words_val ((sym at ∙ parts.0) i) (parts.1 i) in
        rewrite ! 0 (λ (u : Val). ‵ ((Sr E).own_val r (u ∷ []))) same refl $ now ! $
        show ! (λ (d : (Sr E).Denot). guard 𝓤 ((v ≡ row_val b o n) × MadeOf d)
        (sep 𝓤 (sem 𝓛 ((Sr E).own_val d (row_val b o n ∷ []))) (A.lft κ q))) r $
        check ! (ap only e ∙ same, parts) $ keep ! (0 ∷ 1 ∷ []) $ done !))))

  module _ (κ : Lft) (q : Share) (r : (Sr E).Denot) (b o : ℕ) where
    abbrev pub into_at : Into.Ghost
    into_at = (((κ, tt), (q, tt), tt, (r, tt), (row_val b o (slots_len r) ∷ [], tt)), tt)

    pub into_asks : κ ⊑ E.row.lives
        → ent 𝓤 (sep 𝓤 (sem 𝓛 ((Sr E).own_val r (row_val b o (slots_len r) ∷ []))) (A.lft κ q)) (Into.pre into_at)
    into_asks outlives =
        let Outlives : Type 0 = κ ⊑ E.row.lives in
        qed 𝓛 (‵ ((Sr E).own_val r (row_val b o (slots_len r) ∷ [])) ∷ ‵ (flft κ q) ∷ []) ∵
        nothing ! $ use0 𝓛 (raw (fact 𝓤 Outlives)) (fact_i 𝓤 Outlives (emp 𝓤) outlives) $ join ! $
        nothing ! $ move ! (2 ∷ 0 ∷ []) $ fjoin ! $ nothing ! $ move ! (3 ∷ 0 ∷ []) $ join ! $ join ! $ done !

    pub into_gives : (v : Val) → slots_ptr r ≡ block_ptr b o → ent 𝓤 (Into.post into_at v)
        (H.⇛ (guard 𝓤 (v ≡ row_val b o (slots_len r))
        (sep 𝓤 (sem 𝓛 (slots_at E b o (slots_items r) (slots_filled r))) (A.lft κ q))))
    into_gives v at =
        let Same : Parts.Denot → Type 0 = λ p. (p.0 ≡ slots_ptr r) × (p.1 ≡ slots_len r) in
        qed 𝓛 (raw (Into.post into_at v) ∷ []) ∵ updating ! $
        use1 𝓛 (later (some (λ (p : Parts.Denot). ((‵ (flft κ q) ⊛ ‵ ftrue) ⊛ ‵ (Parts.own_val p (v ∷ [])))
        ⊛ some (λ (ws : Unit {0} × Unit {0}). ‵ (fsep ftrue ftrue) ⊛ raw (fact 𝓤 (Same p))
        ⊛ ‵ (owned (R E) (slots_ptr r) (slots_len r) (slots_items r) (slots_filled r)))))) (id⊢ 𝓤 _) $ await ! tt $
        pick ! (λ p. split ! $ move ! (1 ∷ []) $ pick ! (λ ws. split ! $ drop ! $ split ! $
        heard ! (Same p) (λ same. fsplit ! $ drop ! $
        rewrite ! 0 (λ (z : Ptr). ‵ (in_block z (slots (R E) z (slots_items r) (slots_filled r)))) at refl $
        -- the two words
        move ! (1 ∷ []) $ split ! $ split ! $ move ! (2 ∷ []) $
        fpick ! (λ vss. fsplit ! $ feq_l ! (λ whole. fsplit3 ! $ feq_l ! (λ e₀. fsplit ! $ feq_l ! (λ e₁. now ! $
        check ! (ap only whole ∙ (λ i. vstruct (of_list (e₀ i ++ (e₁ i ++ []))))
        ∙ (λ i. words_val ((same.0 ∙ at) i) (same.1 i))) $ keep ! (4 ∷ 2 ∷ []) $ done !)))))))
