-- `with_places` walked by hand: it makes places of the bytes that a `None` leaves free, has `fill` fill them, and reads
-- them as an array where it did. Assumes `Logic`.
use mathlib.Core.Path.{◌≡◌, refl, sym, subst, ap, ◌∙◌}
use mathlib.Core.Bool.{Bool, true, false, not, ◌&&◌}
use Prim.Native.Nat.{ℕ, ◌+◌, ◌*◌, ◌<◌, ◌^◌}
use native.Mathlib.Omega.{arith}
use mathlib.Core.List.{List, [], ◌∷◌, ◌++◌}
use lib.Dec.{T, lit<}
use lib.ListN.{length, replicate, length-replicate}
use seplogic.Ra.Ura.{Ura}
use base.Fraction.{full_share}
use base.Logic.{SProp, ent, sep, emp, apply∗, id⊢}
use base.Fml.{ftrue, fat, froom, flft}
use mir.Syntax.{Fn, Ty, Args, Dict, w8, a_type, a_number, dcons, dnil, method, no_args, ty_int, ty_array}
use mir.Syntax.{Body, seq, assign, place, rv_opd, copy, aggregate, int}
use mir.MapTy.{inst_fn}
use mir.Val.{Val, vint, vstruct, vcons, vnil, of_list, has_ty, WT}
use prog.Memory.{Memory, align, size, capped}
use prog.Routine.{Routine}
use prog.Wp.{Wp, after_seq, at_return, Env, WpFn, Tables}
use types.Logic.{Logic, sem}
use contract.BorrowLft.{◌⊑◌}
use contract.Lifetimes.{Lfts}
use contract.Monad.{Fun, fact, fact_i}
use contract.Running.{tables, tables_of}
use sound.WpLaws.{fm_of, WpFn-mono}
use types.Kit.{Goal, Seq, Item, any_q, ‵, raw, ◌⊛◌, some, given, later, at_ret, ◌$◌, ◌∵◌, !, qed, by, move, keep, drop}
use types.Kit.{use0, use1, use2, split, split3, join, fsplit, fsplit3, fjoin, fpick, feq_i, feq_l, pick, learn, rewrite}
use types.Kit.{suffices, await, done}
use types.Part.{whole, sub, agg}
use types.Match.{live}
use types.Run.{stop, fld, addr, from, load, look, lit, num_lit, align_word, no_more, and_then, of_opd, bin, first}
use types.Run.{blocks, branches, exec, returns, enter}
use types.ByLocal.{alloc_all, pass_all, free_all, look_at, get, get_in, through, sets, sets_last, is, lands_as}
use types.ByLocal.{lands_last, take_at, give_at, env}
use denote.RattleType.{RattleType, owns}
use denote.Signature.{plain, types_at}
use denote.Steps.{heard, nothing, only, peeks}
use denote.Exit.{no}
use denote.Laws.{Is, shows}
use denote.Array.{Array}
use denote.ArrayMemory.{Array-whole}
use denote.Builtin.{bool}
use denote.Index.{row}
use denote.Memory.{part_at}
use denote.Param.{param, number, bounded, layout, ArrayAt}
use denote.Param.Laws.{param_laws, array_laws}
use denote.Param.Members.{once_call}
use denote.Param.Call as called
use denote.RawPtr.{Ptr, block_ptr}
use denote.Struct.Struct.{as_fields}
use denote.Struct.Tuple.{Tuple}
use denote.Triple.Call.{calls_at, calls_at_last}
use denote.Triple.Clauses.{Clauses, Ended, Lasts, lasts, closing}
use denote.Triple.Entry.{alive, Vals, Args as CallArgs}
use denote.Triple.Spec.{Meets, triple_of}
use denote.Triple.Statement.{Contract, Triple}
use denote.Triple.Table.{entered}
use denote.Triple.Walked.{says, Stays, stay_dropped, walk_of, ends_at, Goes-dropped, walk_Meets}
use borrow.Table.OneValue.{part_out}
use Rattle.core.specs.Prelude.{MatchResult, IsTrue}
use Rattle.core.specs.Mem.Slots.{slots_len, slots_items, slots_filled, slots_counts, SamePlaces, IsFull}
use Rattle.core.specs.Mem.Slots.Ownership.{slots}
use Rattle.core.specs.declared.result.Result.TheVariants.{Ok, Err}
use Rattle.core.specs.contracts.result.Result as Outcomes
use Rattle.core.proofs.mem.Param.{El, R, el_x, elτ, Good, lawful, one}
use Rattle.core.proofs.once.Made.{ok_of, err_of}
use Rattle.core.proofs.slots.Bodies.{after, knowing}
use Rattle.core.proofs.slots.Opens.{Sr, el_d, row_val}
use Rattle.core.proofs.slots.Places.{of_room, to_row, to_room}
use Rattle.core.proofs.slots.Slots.from_raw_parts.Met as from_met
use Rattle.core.proofs.slots.Slots.into_raw_parts.Met as into_met
use Rattle.array_slots.proofs.Pairs.{pair, pair_typed, pair_owned}
use Rattle.array_slots.proofs.RawSlots.{From, Into, MadeOf, from_at, from_asks, from_gives, from_key, slots_at, into_at}
use Rattle.array_slots.proofs.RawSlots.{into_asks, into_gives, into_key, parts_typed, words_of, words_typed}
use Rattle.array_slots.proofs.Rooms.{GivesBack, array_in_option, option}
use Rattle.array_slots.specs.contracts.places.with_places.F-FnOnce as Fill
use Rattle.array_slots.specs.contracts.places.with_places as Lends
use Rattle.array_slots.specs.contracts.places.with_places.Key.{name as self_key}
use Rattle.array_slots.proofs.places.with_places.Statement as stated
use Rattle.array_slots.proofs.places.with_places.Code as code

-- the end of the arm that answers the array
abbrev wraps : Body
wraps =
    seq (assign (place 25 []) (rv_opd (copy (place 26 []))))
    (seq (assign (place 29 []) (rv_opd (copy (place 9 []))))
    (seq (assign (place 30 []) (aggregate (copy (place 25 []) ∷ copy (place 29 []) ∷ [])))
    (assign (place 24 []) (aggregate (int w8 0 ∷ copy (place 30 []) ∷ [])))))

and_true : (a : Bool) → T a → T (a && true)
and_true true h = tt
and_true false h = absurd h

is_true : (t : Bool) → T t → t ≡ true
is_true true h = refl
is_true false h = absurd h

is_false : (t : Bool) → T (not t) → t ≡ false
is_false true h = absurd h
is_false false h = refl

module _ {M : Type 1} {𝓤 : Ura M} {𝓛 : Logic 𝓤} {K : Type 0} {Γ : List (Item 𝓤)} {G : Goal 𝓤 𝓛.H} where
  -- a parameter's value is one machine value
  one_value : K → (E : El) (x : el_x E) (vs : List Val)
      → ((v : Val) → vs ≡ v ∷ [] → Good E v → Seq K 𝓛 (‵ (E.row.own_val x (v ∷ [])) ∷ Γ) G)
      → Seq K 𝓛 (‵ (E.row.own_val x vs) ∷ Γ) G
  one_value t E x vs k =
      peeks t (R E) (Is (R E)) (shows 𝓛 (R E)) x vs (λ are.
      let alone = one E vs ((lawful E 𝓛).typed x vs are) in
      rewrite t 0 (λ (us : List Val). ‵ (E.row.own_val x us)) alone.1 refl $ k alone.0 alone.1 alone.2)

-- the type of the elements, that of the source and that of `fill`
module _ (E S Z : El) (n : ℕ) (g : Fill.Ghosts E.row S.row Z.row (number n)) (d d' : Dict) where
  abbrev inst : Args
  inst =
      bounded (a_type ∷ a_type ∷ a_type ∷ a_number ∷ []) (E.row, (S.row, (Z.row, (number n, tt))))
      (dcons d (dcons d' dnil))

  abbrev here : Fn
  here = inst_fn inst code.function

  abbrev walk_spec : Ended
  walk_spec = Lends.ended E.row S.row Z.row (number n) g d d'

  abbrev fills : Ended
  fills = Fill.ended E.row S.row Z.row (number n)

  abbrev keeps_none : Stays walk_spec.signature.params walk_spec.kept
  keeps_none = (
    stay_dropped (plain (λ _. param 0 E.row)) no,
    (stay_dropped (plain (λ _. param 1 S.row)) no, (stay_dropped (plain (λ _. param 2 Z.row)) no, tt)),
  )

  abbrev Elements : RattleType
  Elements = ArrayAt (R E) (param 3 (number n))

  abbrev Source : RattleType
  Source = param 1 S.row

  abbrev ArrayAndSource : RattleType
  ArrayAndSource = Tuple (Elements ∷ Source ∷ [])

  abbrev Answer : RattleType
  Answer = Outcomes.the_row ArrayAndSource Source

  abbrev FillResult : RattleType
  FillResult = Tuple (Sr E ∷ bool ∷ Source ∷ [])

  abbrev FillPre : el_x Z → el_d E → el_x E → el_x S → Type 0
  FillPre f p x s = Lends.F-pre E.row S.row Z.row (number n) g d d' f p x s

  abbrev FillPost : el_x Z → el_d E → el_x E → el_x S → FillResult.Denot → Type 0
  FillPost f p x s r = Lends.F-post E.row S.row Z.row (number n) g d d' f p x s r

  -- what the contract promises of the answer
  abbrev Promise : el_x E → el_x S → el_x Z → Answer.Denot → Type 0
  Promise x s f r =
      (p : el_d E) × (back : el_d E) × (slots_len p ≡ n) × MatchResult r
      (λ q. FillPost f p x s (back, true, q.1) × (q.0 ≡ slots_items back)) (λ t. FillPost f p x s (back, false, t))

  abbrev Fills : {M : Type 1} {𝓤 : Ura M} (𝓛 : Logic 𝓤) → Contract 𝓤
  Fills 𝓛 =
      triple_of 𝓛 fills.signature
      (called.spec fills 3 (λ κs. (κs.0, (κs.1.0, (κs.1.1.0, tt)))) (Z.row.lives, (E.row.lives, (S.row.lives, tt)))
      (once_call g) (λ κs a. a) (λ κs a. a) (λ κs a. a) 𝓛)

  module _ {M : Type 1} {𝓤 : Ura M} (𝓛 : Logic 𝓤) (at_mem : Memory → SProp 𝓤) (run : Routine → Fun 𝓤)
      (𝓣 : Tables 𝓤 𝓛.H) (met : Triple 𝓤 (𝓣.C (method d 0 no_args)) (Fills 𝓛))
      (met_from : Triple 𝓤 (𝓣.C (from_key E)) (From E 𝓛 at_mem run))
      (met_into : Triple 𝓤 (𝓣.C (into_key E)) (Into E 𝓛 at_mem run)) (fits : n < 2 ^ 64) where
    open 𝓛 use {H}

    abbrev clauses : Clauses 𝓤 walk_spec
    clauses = Lends.clauses E.row S.row Z.row (number n) g d d' 𝓛 at_mem run

    abbrev Bound : Type 0
    Bound = (walk_of 𝓛 walk_spec keeps_none clauses).Ghost

    abbrev Goes : Bound → Type 1
    Goes y =
        let W = walk_of 𝓛 walk_spec keeps_none clauses in
        ent 𝓤 (W.pre y) (WpFn 𝓤 H 𝓣.C 𝓣.Λ here (W.args y) (W.post y))

    abbrev with_values : (z : Bound) → Vals walk_spec.signature z.0.0 → Bound
    with_values z vss = ((z.0.0, z.0.1, z.0.2, z.0.3, vss), z.1)

    abbrev at_words : Bound → Val → Val → Val → Bound
    at_words z u v w = with_values z (u ∷ [], (v ∷ [], (w ∷ [], tt)))

    -- the answer and the tokens are what the function owes
    answers : (z : Bound) (u v w : Val) (r : Answer.Denot) (out : Val) → Promise z.0.3.0 z.0.3.1.0 z.0.3.1.1.0 r
        → ent 𝓤 (sep 𝓤 (sem 𝓛 (Answer.own_val r (out ∷ []))) (alive 𝓛 walk_spec.signature z.0.0 z.0.1))
        ((walk_of 𝓛 walk_spec keeps_none clauses).post (at_words z u v w) out)
    answers z u v w r out promise =
        qed 𝓛 (‵ (Answer.own_val r (out ∷ [])) ∷ raw (alive 𝓛 walk_spec.signature z.0.0 z.0.1) ∷ []) ∵
        suffices ! _
        (ends_at 𝓛 walk_spec keeps_none clauses (at_words z u v w) out r (tt, (tt, (tt, tt))) (tt, (tt, (tt, tt)))) $
        says ! promise $ nothing ! $ nothing ! $ fjoin ! $ nothing ! $ fjoin ! $ nothing ! $ fjoin ! $
        move ! (2 ∷ 0 ∷ 1 ∷ []) $ done !

    walk : (z : Bound) (u v w : Val) → Good E u → Good S v → Good Z w → Goes (at_words z u v w)
    walk z u v w first_good source_good fill_good =
        let κT = z.0.0.0 in let κS = z.0.0.1.0 in let κF = z.0.0.1.1.0 in let κN = z.0.0.1.1.1.0 in
        let qT = z.0.1.0 in let qS = z.0.1.1.0 in let qF = z.0.1.1.1.0 in let qN = z.0.1.1.1.1.0 in
        let a = z.0.3 in let x : el_x E = a.0 in let s : el_x S = a.1.0 in let f : el_x Z = a.1.1.0 in
        let y₀ : Bound = at_words z u v w in
        let Post : Val → SProp 𝓤 = (walk_of 𝓛 walk_spec keeps_none clauses).post y₀ in
        let τ : Ty = elτ E in let o : ℕ = capped (align τ) + 0 in
        let Asks : Type 0 = (p : el_d E) → slots_len p ≡ n → FillPre f p x s in
        let Returns : Type 0 = (p : el_d E) (r : FillResult.Denot) → slots_len p ≡ n → FillPost f p x s r
        → SamePlaces p r.0 × (IsTrue r.1 → IsFull r.0) in
        let κs : Lfts 3 = (κF, (κT, (κS, tt))) in
        qed 𝓛 (((‵ (flft κT qT) ⊛ ‵ (flft κS qS) ⊛ ‵ (flft κF qF) ⊛ ‵ (flft κN qN) ⊛ ‵ ftrue)
        ⊛ ‵ (owns (types_at walk_spec.signature.params z.0.0) a y₀.0.4))
        ∷ (raw (fact 𝓤 (κT ⊑ E.row.lives)) ⊛ raw (fact 𝓤 (κS ⊑ S.row.lives)) ⊛ raw (fact 𝓤 (κF ⊑ Z.row.lives))
        ⊛ raw (fact 𝓤 (κN ⊑ [])) ⊛ raw (fact 𝓤 (n * size τ < 2 ^ 63)) ⊛ raw (fact 𝓤 Asks) ⊛ raw (fact 𝓤 Returns))
        ∷ []) ∵
        -- what is required
        move ! (1 ∷ []) $ split ! $ heard ! (κT ⊑ E.row.lives) (λ inT. split ! $ heard ! (κS ⊑ S.row.lives) (λ inS.
        split ! $ heard ! (κF ⊑ Z.row.lives) (λ inF. split ! $ drop ! $
        split ! $ heard ! (n * size τ < 2 ^ 63) (λ small. split ! $ heard ! Asks (λ asks. heard ! Returns (λ returns_so.
        -- the ghost values of empty places
        let xs : List (el_x E) = replicate n x in let long : length xs ≡ n = length-replicate n x in
        let none : List Bool = replicate (length xs) false in
        let flags : n ≡ length none = sym long ∙ sym (length-replicate (length xs) false) in
        -- the arguments and the tokens
        split ! $ move ! (1 ∷ []) $ fsplit ! $ move ! (1 ∷ []) $ fsplit ! $ move ! (1 ∷ []) $ fsplit ! $
        move ! (4 ∷ []) $ split3 ! $ move ! (2 ∷ []) $ split3 ! $ keep ! (8 ∷ 7 ∷ 5 ∷ 3 ∷ 4 ∷ 0 ∷ 1 ∷ []) $
        enter ! 𝓣.C 𝓣.Λ here (u ∷ v ∷ w ∷ []) _ $ alloc_all ! (λ l.
        pass_all ! refl (first_good, (source_good, (fill_good, tt))) $
        -- [first; source; fill; the tokens of T, S, F, N]
        let En : Env 𝓤 H = env here.locals l in let b : ℕ = l 4 in
        let Rest = any_q (after_seq 𝓤 H (Wp 𝓤 H 𝓣.C 𝓣.Λ En (after 18 here.body) (at_return 𝓤 H En Post))
        (at_return 𝓤 H En Post)) in
        let words : WT (row_val b o n) = (tt, (record { fits = fits }, tt)) in
        -- the local is None
        sets ! (agg ! (and_then ! (lit ! tt) (no_more !))) refl (tt, (record { fits = lit< tt }, tt)) $
        -- the address of its places
        first ! $ blocks ! $ sets ! (addr ! (from ! (stop !))) refl (tt, tt) $
        sets_last ! (bin ! (get ! refl) (align_word !) tt) refl (tt, tt) $
        exec ! 𝓣.C 𝓣.Λ En (after 2 here.body) (at_ret En Post) $
        sets ! (of_opd ! (get ! refl)) refl (tt, tt) $ sets ! (of_opd ! (get ! refl)) refl (tt, tt) $
        take_at ! 4 $ use1 𝓛 (‵ (froom (option 𝓛 _ _ τ n b) b 0)) (𝓛.laws.at_room _ b 0 (live 0 vnil)) $
        use1 𝓛 (‵ (froom (ty_array τ n) b o) ⊛ raw (GivesBack 𝓛 _ _ τ n b)) (array_in_option 𝓛 _ _ τ n b) $ split ! $
        rewrite ! 0 (λ (k : ℕ). ‵ (froom (ty_array τ k) b o)) (sym long) refl $
        use1 𝓛 (‵ (slots_at E b o xs none)) (of_room E 𝓛 b xs o) $
        -- [the places; the way back; first; source; fill; the tokens of T, S, F, N]
        first ! $ blocks ! $ sets ! (of_opd ! (get ! refl)) refl (tt, tt) $
        let y₁ = from_at E 𝓛 at_mem run κT qT b o n xs none in
        move ! (0 ∷ 5 ∷ []) $ use2 𝓛 (raw ((From E 𝓛 at_mem run).pre y₁))
        (from_asks E 𝓛 at_mem run κT qT b o n xs none inT (sym long) flags fits small) $
        calls_at_last ! (fm_of 𝓤 H 𝓛.laws 𝓣) (From E 𝓛 at_mem run) met_from y₁
        (and_then ! (get ! refl) (and_then ! (num_lit ! (record { fits = fits })) (no_more !))) (λ v₁.
        use1 𝓛 (later (some (λ (r : (Sr E).Denot).
        given ((v₁ ≡ row_val b o n) × MadeOf E 𝓛 at_mem run κT qT b o n xs none r)
        (‵ ((Sr E).own_val r (row_val b o n ∷ [])) ⊛ ‵ (flft κT qT)))))
        (from_gives E 𝓛 at_mem run κT qT b o n xs none v₁) $ await ! tt $ pick ! (λ places. learn ! (λ parts. split ! $
        lands_last ! refl (words_typed E v₁ b o n parts.0 fits) $
        exec ! 𝓣.C 𝓣.Λ En (after 5 here.body) (at_ret En Post) $
        sets ! (is ! (of_opd ! (get ! refl)) parts.0) refl (tt, words) $
        -- [the row; the token of T; the way back; first; source; fill; the tokens of S, F, N]
        sets ! (of_opd ! (get ! refl)) refl fill_good $ sets ! (of_opd ! (get ! refl)) refl (tt, words) $
        sets ! (of_opd ! (get ! refl)) refl first_good $ sets ! (of_opd ! (get ! refl)) refl source_good $
        let Allowed : Type 0 = FillPre f places x s in
        let fill_args : CallArgs fills.signature κs = (f, (places, (x, (s, tt)))) in
        let y₂ : (Fills 𝓛).Ghost =
        ((κs, (qF, (qT, (qS, tt))), tt, fill_args, (w ∷ [], (row_val b o n ∷ [], (u ∷ [], (v ∷ [], tt))))), tt) in
        nothing ! $ move ! (5 ∷ 0 ∷ []) $ fjoin ! $ move ! (4 ∷ 0 ∷ []) $ fjoin ! $ move ! (1 ∷ 0 ∷ []) $ fjoin ! $
        move ! (3 ∷ 0 ∷ []) $ fjoin ! $
        nothing ! $ move ! (4 ∷ 0 ∷ []) $ join ! $ move ! (2 ∷ 0 ∷ []) $ join ! $ move ! (3 ∷ 0 ∷ []) $ join ! $
        join ! $
        use0 𝓛 (raw (fact 𝓤 Allowed)) (fact_i 𝓤 Allowed (emp 𝓤) (asks places parts.1.1)) $
        use0 𝓛 (raw (fact 𝓤 (κS ⊑ S.row.lives))) (fact_i 𝓤 (κS ⊑ S.row.lives) (emp 𝓤) inS) $ join ! $
        use0 𝓛 (raw (fact 𝓤 (κT ⊑ E.row.lives))) (fact_i 𝓤 (κT ⊑ E.row.lives) (emp 𝓤) inT) $ join ! $
        use0 𝓛 (raw (fact 𝓤 (κF ⊑ Z.row.lives))) (fact_i 𝓤 (κF ⊑ Z.row.lives) (emp 𝓤) inF) $ join ! $
        move ! (1 ∷ 0 ∷ []) $ join ! $ use1 𝓛 (raw ((Fills 𝓛).pre y₂)) (id⊢ 𝓤 ((Fills 𝓛).pre y₂)) $
        calls_at ! (fm_of 𝓤 H 𝓛.laws 𝓣) (Fills 𝓛) met y₂
        (and_then ! (get ! refl)
        (and_then ! (get ! refl) (and_then ! (get ! refl) (and_then ! (get ! refl) (no_more !)))))
        (λ answer.
        use1 𝓛 (later (some (λ (r : FillResult.Denot).
        ((‵ (flft κF qF) ⊛ ‵ (flft κT qT) ⊛ ‵ (flft κS qS) ⊛ ‵ ftrue) ⊛ ‵ (FillResult.own_val r (answer ∷ [])))
        ⊛ some (λ (ws : Lasts fills κs fill_args).
        ‵ (lasts fills κs fill_args ws) ⊛ raw (fact 𝓤 (FillPost f places x s r))))))
        (id⊢ 𝓤 ((Fills 𝓛).post y₂ answer)) $ await ! tt $ pick ! (λ r. split ! $ move ! (1 ∷ []) $
        pick ! (λ ws. split ! $ drop ! $ heard ! (FillPost f places x s r) (λ post.
        let back : el_d E = r.0 in let ys : List (el_x E) = slots_items back in
        let flags_back : List Bool = slots_filled back in let k : ℕ = slots_len back in
        let same_and_full : SamePlaces places back × (IsTrue r.1 → IsFull back) = returns_so places r parts.1.1 post in
        let same : SamePlaces places back = same_and_full.0 in
        let all : length ys ≡ n = sym (slots_counts back).0 ∙ same.count ∙ parts.1.1 in
        let as_many : length flags_back ≡ length ys = sym (slots_counts back).1 ∙ (slots_counts back).0 in
        -- the three parts of what `fill` answered
        split ! $ move ! (1 ∷ []) $ fpick ! (λ vss. fsplit ! $ feq_l ! (λ e. fsplit3 ! $
        words_of E ! back vss.0 (λ b' o' at' e₀ fits'.
        let begins : block_ptr b' o' ≡ block_ptr b o = sym at' ∙ same.start ∙ parts.1.0 in
        let words' : WT (row_val b' o' k) = (tt, (record { fits = fits' }, tt)) in
        move ! (1 ∷ []) $ feq_l ! (λ e₁. move ! (1 ∷ []) $ fsplit ! $
        one_value ! S r.2 vss.1.1.0 (λ rest e₂ rest_good. move ! (1 ∷ []) $ drop ! $
        move ! (2 ∷ []) $ split3 ! $ move ! (2 ∷ []) $ split ! $ move ! (1 ∷ []) $ drop ! $
        -- [the tokens of S, F, T; the source; the row; the way back; the token of N]
        lands_as ! (ap only e ∙ (λ i. vstruct (of_list (e₀ i ++ (e₁ i ++ (e₂ i ++ [])))))) refl (
          and_true (has_ty (layout S.row) rest) rest_good.0,
          ((tt, (record { fits = fits' }, tt)), (tt, (rest_good.1, tt))),
        ) $
        sets ! (of_opd ! (get_in ! (fld ! refl (stop !)) (sub ! 0 refl (whole !)))) refl (tt, words') $
        sets ! (of_opd ! (get_in ! (fld ! refl (stop !)) (sub ! 1 refl (whole !)))) refl (tt, tt) $
        sets ! (of_opd ! (get_in ! (fld ! refl (stop !)) (sub ! 2 refl (whole !)))) refl rest_good $
        -- the places are taken back
        first ! $ blocks ! $ sets ! (of_opd ! (get ! refl)) refl (tt, words') $
        let y₃ = into_at E 𝓛 at_mem run κT qT back b' o' in
        move ! (4 ∷ 2 ∷ []) $ use2 𝓛 (raw ((Into E 𝓛 at_mem run).pre y₃))
        (into_asks E 𝓛 at_mem run κT qT back b' o' inT) $
        calls_at_last ! (fm_of 𝓤 H 𝓛.laws 𝓣) (Into E 𝓛 at_mem run) met_into y₃ (and_then ! (get ! refl) (no_more !))
        (λ v₃.
        use1 𝓛 (later (given (v₃ ≡ row_val b' o' k) (‵ (slots_at E b' o' ys flags_back) ⊛ ‵ (flft κT qT))))
        (into_gives E 𝓛 at_mem run κT qT back b' o' v₃ at') $ await ! tt $ learn ! (λ e₃. split ! $
        lands_last ! refl (parts_typed v₃ b' o' k e₃ fits') $
        exec ! 𝓣.C 𝓣.Λ En (after 15 here.body) (at_ret En Post) $
        sets ! (is ! (of_opd ! (get ! refl)) e₃) refl (tt, words') $ sets ! (of_opd ! (get ! refl)) refl (tt, tt) $
        rewrite ! 0 (λ (p : Ptr). ‵ (slots (R E) p ys flags_back)) begins refl $
        -- [the places; the tokens of T, S, F; the source; the way back; the token of N]
        first ! $ branches ! (get ! refl)
        (λ yes.
        let full : r.1 ≡ true = is_true r.1 yes in let holds : IsFull back = same_and_full.1 full in
        use1 𝓛 (‵ (row (R E) full_share ys b o)) (to_row E 𝓛 b ys flags_back o as_many
        (λ j lt. holds j (omega arith) (subst (λ (m : ℕ). j < m) (sym (slots_counts back).1) lt))) $
        feq_i ! ℕ (length ys) n all $ fjoin ! $
        use1 𝓛 (‵ (part_at (Array (R E) n) full_share ys b o)) (Array-whole 𝓛 (R E) full_share n ys b o) $
        use1 𝓛 (some (λ (v' : Val).
        ‵ (fat full_share (ty_array τ n) b o v') ⊛ ‵ ((Array (R E) n).own_val ys (v' ∷ []))))
        (part_out 𝓛 (Array (R E) n) refl full_share ys b o) $ pick ! (λ array. split ! $ move ! (1 ∷ []) $
        peeks ! (Array (R E) n) (Is (Array (R E) n)) (shows 𝓛 (Array (R E) n)) ys (array ∷ []) (λ are.
        let sound : T (has_ty (ty_array τ n) array) × WT array =
        (((array_laws (R E) (param_laws 0 E.row E.laws) n).lawful 𝓛).typed ys (array ∷ []) are).0 in
        let both : Val = pair array rest in let out : Val = live 0 (vcons both vnil) in
        let both_good = pair_typed (ty_array τ n) (elτ S) array rest sound rest_good in
        let out_good = as_fields (ty_int w8 ∷ layout ArrayAndSource ∷ []) (vint w8 0 ∷ both ∷ [])
        ((tt, record { fits = lit< tt }), (both_good, tt)) in
        first ! $ blocks ! $
        sets ! (of_opd ! (get ! refl)) refl (tt, tt) $ sets ! (of_opd ! (get ! refl)) refl (tt, tt) $
        sets_last ! (of_opd ! (load ! (through ! refl (stop !)) (look ! 1 refl))) refl sound $
        exec ! 𝓣.C 𝓣.Λ En wraps Rest $
        sets ! (of_opd ! (get ! refl)) refl sound $ sets ! (of_opd ! (get ! refl)) refl rest_good $
        sets ! (agg ! (and_then ! (get ! refl) (and_then ! (get ! refl) (no_more !)))) refl both_good $
        sets_last ! (agg ! (and_then ! (lit ! tt) (and_then ! (get ! refl) (no_more !)))) refl out_good $
        exec ! 𝓣.C 𝓣.Λ En (after 18 here.body) (at_ret En Post) $ sets ! (of_opd ! (get ! refl)) refl out_good $
        -- [the elements; their places; the tokens of T, S, F; the source; the way back; the token of N]
        move ! (0 ∷ 5 ∷ []) $ use2 𝓛 (‵ (ArrayAndSource.own_val (ys, r.2) (both ∷ [])))
        (pair_owned 𝓛 Elements Source ys r.2 array rest) $
        use1 𝓛 (‵ (Answer.own_val (Ok (ys, r.2)) (out ∷ []))) (ok_of 𝓛 ArrayAndSource Source (ys, r.2) both) $
        move ! (1 ∷ []) $ use1 𝓛 (‵ (froom (ty_array τ n) b o)) (𝓛.laws.at_room (ty_array τ n) b o array) $
        move ! (0 ∷ 5 ∷ []) $
        use2 𝓛 (‵ (froom (option 𝓛 _ _ τ n b) b 0)) (apply∗ 𝓤 (H.room (ty_array τ n) b o) _) $ give_at ! 4 $
        nothing ! $ move ! (5 ∷ 0 ∷ []) $ join ! $ move ! (4 ∷ 0 ∷ []) $ join ! $ move ! (3 ∷ 0 ∷ []) $ join ! $
        move ! (2 ∷ 0 ∷ []) $ join ! $ move ! (1 ∷ []) $ returns ! (look_at ! 0 refl) $ free_all ! refl $
        by ! (answers z u v w (Ok (ys, r.2)) out
        (places, back, parts.1.1, (subst (λ (t : Bool). FillPost f places x s (back, t, r.2)) full post, refl))))))
        (λ short.
        let out : Val = live 1 (vcons rest vnil) in
        let out_good = as_fields (ty_int w8 ∷ elτ S ∷ []) (vint w8 1 ∷ rest ∷ [])
        ((tt, record { fits = lit< tt }), (rest_good, tt)) in
        use1 𝓛 (‵ (froom (ty_array τ (length ys)) b o)) (to_room E 𝓛 b ys flags_back o as_many) $
        rewrite ! 0 (λ (m : ℕ). ‵ (froom (ty_array τ m) b o)) all refl $
        move ! (0 ∷ 5 ∷ []) $
        use2 𝓛 (‵ (froom (option 𝓛 _ _ τ n b) b 0)) (apply∗ 𝓤 (H.room (ty_array τ n) b o) _) $ give_at ! 4 $
        -- [the tokens of T, S, F; the source; the token of N]
        sets ! (of_opd ! (get ! refl)) refl rest_good $
        sets_last ! (agg ! (and_then ! (lit ! tt) (and_then ! (get ! refl) (no_more !)))) refl out_good $
        exec ! 𝓣.C 𝓣.Λ En (after 18 here.body) (at_ret En Post) $ sets ! (of_opd ! (get ! refl)) refl out_good $
        move ! (3 ∷ []) $
        use1 𝓛 (‵ (Answer.own_val (Err r.2) (out ∷ []))) (err_of 𝓛 ArrayAndSource Source r.2 rest) $
        nothing ! $ move ! (5 ∷ 0 ∷ []) $ join ! $ move ! (4 ∷ 0 ∷ []) $ join ! $ move ! (3 ∷ 0 ∷ []) $ join ! $
        move ! (2 ∷ 0 ∷ []) $ join ! $ move ! (1 ∷ []) $ returns ! (look_at ! 0 refl) $ free_all ! refl $
        by ! (answers z u v w (Err r.2) out (
          places,
          back,
          parts.1.1,
          subst (λ (t : Bool). FillPost f places x s (back, t, r.2)) (is_false r.1 short) post,
        ))))))))))))))))))))))))

    meets : Meets 𝓛 walk_spec.signature (WpFn 𝓤 H 𝓣.C 𝓣.Λ here) (closing 𝓛 walk_spec clauses)
    meets =
        walk_Meets 𝓛 walk_spec keeps_none (
          Goes-dropped 𝓛 4 (plain (λ _. param 0 E.row)) no (λ κs x f. refl),
          (
            Goes-dropped 𝓛 4 (plain (λ _. param 1 S.row)) no (λ κs x f. refl),
            (Goes-dropped 𝓛 4 (plain (λ _. param 2 Z.row)) no (λ κs x f. refl), tt),
          ),
        ) clauses
        (WpFn 𝓤 H 𝓣.C 𝓣.Λ here) (WpFn-mono 𝓤 H 𝓛.laws 𝓣 here)
        (λ z.
        let a = z.0.3 in let vss = z.0.4 in
        knowing 𝓛 walk_spec keeps_none clauses (WpFn 𝓤 H 𝓣.C 𝓣.Λ here) z (λ are.
        let u = one E vss.0 ((lawful E 𝓛).typed a.0 vss.0 are.0) in
        let v = one S vss.1.0 ((lawful S 𝓛).typed a.1.0 vss.1.0 are.1.0) in
        let w = one Z vss.1.1.0 ((lawful Z 𝓛).typed a.1.1.0 vss.1.1.0 are.1.1.0) in
        subst (λ (uss : Vals walk_spec.signature z.0.0). Goes (with_values z uss))
        (sym (λ k. (u.1 k, (v.1 k, (w.1 k, tt))))) (walk z u.0 v.0 w.0 u.2 v.2 w.2)))

pub with_places_spec : {M : Type 1} → stated.statement M
unfolding tables_of
with_places_spec 𝓤 𝓛 𝓜 𝓡 wired T₀ T₁ T₂ n L₀ L₁ L₂ fits g d d' met _ =
    let E : El = record { row = T₀; laws = L₀ } in let S : El = record { row = T₁; laws = L₁ } in
    let Z : El = record { row = T₂; laws = L₂ } in
    let 𝓣 : Tables 𝓤 𝓛.H = tables_of 𝓤 𝓛.H 𝓜 (tables 𝓤 𝓛.H 𝓜 𝓡 𝓡.env) in
    entered 𝓤 𝓛.H
    (triple_of 𝓛 (Lends.signature T₀ T₁ T₂ (number n)) (Lends.spec T₀ T₁ T₂ (number n) g d d' 𝓛 𝓜.mem 𝓡.returns))
    𝓣.C 𝓣.Λ (self_key (inst E S Z n g d d')) (here E S Z n g d d')
    (code.unfolded 𝓤 𝓛.H 𝓜 𝓡 wired (T₀, (T₁, (T₂, (number n, tt)))) d d')
    (meets E S Z n g d d' 𝓛 𝓜.mem 𝓡.returns 𝓣 met.1
    (from_met.met 𝓤 𝓛 𝓜 𝓡 (code.calls-core::slots::Slots::from_raw_parts 𝓡.env wired) T₀ L₀)
    (into_met.met 𝓤 𝓛 𝓜 𝓡 (code.calls-core::slots::Slots::into_raw_parts 𝓡.env wired) T₀ L₀) fits.fits)
