-- A call of a function over slices and plain data, as one step of a walk (`Walk.antt`). It says nothing of any crate.
--     pre, post        the callee's contract at the arguments xs, for each choice of new names: it asks φ, and says ψ of the result and the last lists.        passed     what its triple binds outside
--     lent-on k        the locals once a `&mut [T]` is lent on (`Walk.antt`'s `reborrows`)
--     calls n          past the first n entries of what is held stands what is passed: the call, and then the rest, at the result r and the last lists ws, from what is changed there
--     calls_last n     the same of a call that is the last statement of its part
-- Each `&mut [T]` is lent again, for a lifetime that is made for the call; of each `&[T]` a copy is passed. One instance of the contract is enough, which is what a recursion has.
-- Assumes `Logic`.
use mathlib.Core.Path.{◌≡◌, sym, ◌∙◌, ap, subst}
use Prim.Native.Nat.{ℕ, zero, suc}
use mathlib.Core.Option.{some}
use mathlib.Core.List.{List, [], ◌∷◌, ◌++◌, append_assoc}
use seplogic.Ra.Ura.{Ura}
use lib.Dec.{T}
use mir.Syntax.{Callee, place, Ty, Opd as Operand, Body, seq, call, Local}
use mir.Val.{Val, vptr, WT, has_ty}
use base.Logic.{SProp, ent, sep, emp, id⊢, via, emp∗, comm∗, mono_l, mono_r}
use prog.Wp.{Calls, Loops}
use types.Logic.{Logic}
use contract.Monad.{Fun, fact, fact_i, top}
use types.Kit.{Item, mean, ⋆, pop, push, ++⊢, ⊢++, Goal, Soaks, lands, settles, Seq, ‵, raw, ◌⊛◌, some as one_of_lem, later, cut, use1, use2, ◌$◌, ◌∵◌, !, qed, by, move, split, pick, await}
use types.Run.{Opds, land, land_last, exec}
use sound.WpLaws.{FmC}
use denote.Laws.{Is, shows, Typed}
use denote.Slice.{slice_val}
use denote.Steps.{only, facts, heard}
use denote.Triple.Call.{calls_from, calls_from_last}
use Rattle.lent.proofs.Data.{Datum}
use Rattle.lent.proofs.Held.{Kind, Deal, Unique, Args, Fresh, Lasts, Long, Goods, fresh, values, lasts, changed, holds, kept, tokens, entry, ready, back, lends, returns}
use Rattle.lent.proofs.Locals.{Slot, Places, env, cells, free_at, holding}
use Rattle.lent.proofs.Walk.{operands, reads_all, finds_free, writes_at, then, Walk}

-- local k holds the slice's pointer, and the next local the slice
abbrev pub lent_on : {X : Type 0} → ℕ → Unique X → List Slot → List Slot
lent_on k a vs = holding (suc k) (slice_val (a.b, a.o) a.m) (holding k (vptr a.b a.o) vs)

-- the first n entries, and what is left past them and as many more as Δ has
abbrev pub upto : {M : Type 1} {𝓤 : Ura M} → ℕ → List (Item 𝓤) → List (Item 𝓤)
upto zero Γ = []
upto (suc n) [] = []
upto (suc n) (i ∷ Γ) = i ∷ upto n Γ

abbrev pub past : {M : Type 1} {𝓤 : Ura M} → ℕ → List (Item 𝓤) → List (Item 𝓤) → List (Item 𝓤)
past (suc n) Δ [] = []
past (suc n) Δ (i ∷ Γ) = past n Δ Γ
past zero [] Γ = Γ
past zero (d ∷ Δ) [] = []
past zero (d ∷ Δ) (i ∷ Γ) = past zero Δ Γ

-- what is passed, Y, stands between X and Z, before the locals Cs: it is put first, and back
module _ {M : Type 1} {𝓤 : Ura M} (𝓛 : Logic 𝓤) (X Y Z Cs : List (Item 𝓤)) where
  abbrev pub In : List (Item 𝓤)
  In = (X ++ (Y ++ Z)) ++ Cs

  abbrev pub Out : List (Item 𝓤)
  Out = Y ++ (X ++ (Z ++ Cs))

  pub puts_first : ent 𝓤 (⋆ 𝓛 In) (⋆ 𝓛 Out)
  puts_first =
      via 𝓤 _ (⊢++ 𝓛 (X ++ (Y ++ Z)) Cs) ∵ qed 𝓛 (raw (⋆ 𝓛 (X ++ (Y ++ Z))) ∷ raw (⋆ 𝓛 Cs) ∷ []) ∵ use1 𝓛 (raw (⋆ 𝓛 X) ⊛ raw (⋆ 𝓛 (Y ++ Z))) (⊢++ 𝓛 X (Y ++ Z)) $ split ! $ move ! (1 ∷ []) $
      use1 𝓛 (raw (⋆ 𝓛 Y) ⊛ raw (⋆ 𝓛 Z)) (⊢++ 𝓛 Y Z) $ split ! $ move ! (1 ∷ 3 ∷ []) $ use2 𝓛 (raw (⋆ 𝓛 (Z ++ Cs))) (++⊢ 𝓛 Z Cs) $ move ! (2 ∷ 0 ∷ []) $
      use2 𝓛 (raw (⋆ 𝓛 (X ++ (Z ++ Cs)))) (++⊢ 𝓛 X (Z ++ Cs)) $ move ! (1 ∷ 0 ∷ []) $ by ! (++⊢ 𝓛 Y (X ++ (Z ++ Cs)))

  pub puts_back : ent 𝓤 (⋆ 𝓛 Out) (⋆ 𝓛 In)
  puts_back =
      via 𝓤 _ (⊢++ 𝓛 Y (X ++ (Z ++ Cs))) ∵ qed 𝓛 (raw (⋆ 𝓛 Y) ∷ raw (⋆ 𝓛 (X ++ (Z ++ Cs))) ∷ []) ∵ move ! (1 ∷ []) $ use1 𝓛 (raw (⋆ 𝓛 X) ⊛ raw (⋆ 𝓛 (Z ++ Cs))) (⊢++ 𝓛 X (Z ++ Cs)) $ split ! $ move ! (1 ∷ []) $
      use1 𝓛 (raw (⋆ 𝓛 Z) ⊛ raw (⋆ 𝓛 Cs)) (⊢++ 𝓛 Z Cs) $ split ! $ move ! (3 ∷ 0 ∷ []) $ use2 𝓛 (raw (⋆ 𝓛 (Y ++ Z))) (++⊢ 𝓛 Y Z) $ move ! (2 ∷ 0 ∷ []) $
      use2 𝓛 (raw (⋆ 𝓛 (X ++ (Y ++ Z)))) (++⊢ 𝓛 X (Y ++ Z)) $ by ! (++⊢ 𝓛 (X ++ (Y ++ Z)) Cs)

module _ {M : Type 1} {𝓤 : Ura M} (𝓛 : Logic 𝓤) (D : Deal) (xs : Args D.ks) where
  open 𝓛 use {H}

  abbrev ks : List Kind
  ks = D.ks

  abbrev res : Datum
  res = D.res

  abbrev φ : Type 0
  φ = D.asks xs

  abbrev ψ : res.row.Denot → Lasts ks xs → Type 0
  ψ = D.says xs

  abbrev pub pre : Fresh ks → SProp 𝓤
  pre fr = sep 𝓤 (mean 𝓛 (entry 𝓛 0 ks xs (fresh ks fr))) (fact 𝓤 φ)

  abbrev Told : Fresh ks → Val → Item 𝓤
  Told fr v = one_of_lem (λ (r : res.row.Denot). (raw (tokens 𝓛 ks xs (fresh ks fr)) ⊛ ‵ (res.row.own_val r (v ∷ []))) ⊛ one_of_lem (λ (ws : Lasts ks xs). ‵ (lasts ks xs (fresh ks fr) ws) ⊛ raw (fact 𝓤 (ψ r ws))))

  abbrev pub post : Fresh ks → Val → SProp 𝓤
  post fr v = H.⇛ (mean 𝓛 (Told fr v))

  -- of a function that asks nothing
  pub unasked : (fr : Fresh ks) {P : SProp 𝓤} → ent 𝓤 (sep 𝓤 (mean 𝓛 (entry 𝓛 0 ks xs (fresh ks fr))) (emp 𝓤)) P → ent 𝓤 (pre fr) P
  unasked fr h = via 𝓤 _ (mono_r 𝓤 (mean 𝓛 (entry 𝓛 0 ks xs (fresh ks fr))) (top 𝓤 (fact 𝓤 φ))) h

  -- what is held by the result and the last lists, and what is known of them
  pub record Returned (r : res.row.Denot) (ws : Lasts ks xs) : Type 0 where
    pub is : Is res.row r (res.mach r ∷ [])
    pub long : Long ks xs ws
    pub said : ψ r ws

  module _ (good : Goods ks xs) (holds-φ : φ) {K : Type 0} (Γ : List (Item 𝓤)) where
    lent : {G : Goal 𝓤 H} → K → Soaks G → ((fr : Fresh ks) → Seq K 𝓛 (raw (pre fr) ∷ (kept 𝓛 ks xs fr ++ Γ)) G) → Seq K 𝓛 (holds 𝓛 ks xs ++ Γ) G
    lent t so k =
        cut (holds 𝓛 ks xs) (later (one_of_lem (ready 𝓛 0 ks xs)) ∷ []) Γ (lends 𝓛 0 ks xs good) $ await t so $ pick t (λ fr. split t $
        use1 𝓛 (raw (pre fr)) (with_φ (mean 𝓛 (entry 𝓛 0 ks xs (fresh ks fr)))) $
        cut (raw (pre fr) ∷ raw (⋆ 𝓛 (kept 𝓛 ks xs fr)) ∷ []) (raw (pre fr) ∷ kept 𝓛 ks xs fr) Γ (push 𝓛 (raw (pre fr)) (kept 𝓛 ks xs fr)) $ k fr)
      where
        with_φ : (P : SProp 𝓤) → ent 𝓤 P (sep 𝓤 P (fact 𝓤 φ))
        with_φ P = via 𝓤 (sep 𝓤 (emp 𝓤) P) (emp∗ 𝓤 P) (via 𝓤 (sep 𝓤 (fact 𝓤 φ) P) (mono_l 𝓤 P (fact_i 𝓤 φ (emp 𝓤) holds-φ)) (comm∗ 𝓤 (fact 𝓤 φ) P))

    -- once the call has returned w
    ended : (goal : Val → Goal 𝓤 H) → K → ((v : Val) → Soaks (goal v)) → (fr : Fresh ks) (w : Val)
        → ((r : res.row.Denot) (ws : Lasts ks xs) → Returned r ws → Seq K 𝓛 (holds 𝓛 ks (changed ks xs ws) ++ Γ) (goal (res.mach r))) → Seq K 𝓛 (raw (post fr w) ∷ (kept 𝓛 ks xs fr ++ Γ)) (goal w)
    ended goal t so fr w k =
        use1 𝓛 (later (Told fr w)) (id⊢ 𝓤 _) $ await t (so w) $ pick t (λ r. split t $ split t $ move t (2 ∷ []) $ pick t (λ ws. split t $ move t (1 ∷ []) $ heard t (ψ r ws) (λ h.
        -- [what says the last lists; the tokens; the result; kept; Γ]
        move t (2 ∷ []) $ facts t res.row (Is res.row) (shows 𝓛 res.row) r (w ∷ []) (λ is. move t (1 ∷ 0 ∷ []) $
        cut (raw (tokens 𝓛 ks xs (fresh ks fr)) ∷ ‵ (lasts ks xs (fresh ks fr) ws) ∷ kept 𝓛 ks xs fr) (later (back 𝓛 ks xs ws) ∷ []) Γ
        (via 𝓤 _ (mono_r 𝓤 (tokens 𝓛 ks xs (fresh ks fr)) (pop 𝓛 (‵ (lasts ks xs (fresh ks fr) ws)) (kept 𝓛 ks xs fr))) (returns 𝓛 ks xs good fr ws)) $ await t (so w) $ split t $ heard t (Long ks xs ws) (λ long.
        cut (raw (⋆ 𝓛 (holds 𝓛 ks (changed ks xs ws))) ∷ []) (holds 𝓛 ks (changed ks xs ws)) Γ (id⊢ 𝓤 _) $
        let v : w ≡ res.mach r = ap only (res.tells r (w ∷ []) is) in
        subst (λ (u : Val). Seq K 𝓛 (holds 𝓛 ks (changed ks xs ws) ++ Γ) (goal u)) (sym v) (k r ws (record { is = subst (λ (u : Val). Is res.row r (u ∷ [])) v is; long = long; said = h })))))))

  -- ---- in a walk. What is held: X, what is passed, and Z
  abbrev pub Z : ℕ → List (Item 𝓤) → List (Item 𝓤)
  Z n Δ = past n (holds 𝓛 ks xs) Δ

  abbrev pub Before : ℕ → List (Item 𝓤) → List (Item 𝓤)
  Before n Δ = upto n Δ ++ (holds 𝓛 ks xs ++ Z n Δ)

  abbrev pub After : ℕ → List (Item 𝓤) → Lasts ks xs → List (Item 𝓤)
  After n Δ ws = upto n Δ ++ (holds 𝓛 ks (changed ks xs ws) ++ Z n Δ)

  typed_result : {τ : Ty} → res.row.mir ≡ τ ∷ [] → (r : res.row.Denot) → Is res.row r (res.mach r ∷ []) → T (has_ty τ (res.mach r)) × WT (res.mach r)
  typed_result m r is = (subst (λ (τs : List Ty). Typed τs (res.mach r ∷ [])) m ((res.lawful 𝓛).typed r (res.mach r ∷ []) is)).0

  module _ {K : Type 0} (t : K) (ls : List Local) (pl : Places ls) (vs : List Slot) (n : ℕ) (Δ : List (Item 𝓤)) (is_held_lem : Δ ≡ Before n Δ) (good : Goods ks xs) (holds-φ : φ) where
    abbrev Cs : List (Item 𝓤)
    Cs = cells 𝓤 ls pl vs

    -- the operands are read in what is kept
    reading : (fr : Fresh ks) {ops : List Operand} → operands ls vs ops ≡ some (values ks xs) → Opds K 𝓛 (raw (pre fr) ∷ (kept 𝓛 ks xs fr ++ (upto n Δ ++ (Z n Δ ++ Cs)))) (env ls pl) ops (values ks xs)
    reading fr {ops} os =
        subst (λ (Γ : List (Item 𝓤)). Opds K 𝓛 (raw (pre fr) ∷ Γ) (env ls pl) ops (values ks xs))
        (append_assoc (kept 𝓛 ks xs fr) (upto n Δ ++ Z n Δ) Cs ∙ ap (λ (Γ : List (Item 𝓤)). kept 𝓛 ks xs fr ++ Γ) (append_assoc (upto n Δ) (Z n Δ) Cs))
        (reads_all t 𝓛 ls pl (raw (pre fr) ∷ (kept 𝓛 ks xs fr ++ (upto n Δ ++ Z n Δ))) vs ops (values ks xs) os)

    -- what is passed first, and the call
    called : {G : Goal 𝓤 H} → Soaks G → ((fr : Fresh ks) → Seq K 𝓛 (raw (pre fr) ∷ (kept 𝓛 ks xs fr ++ (upto n Δ ++ (Z n Δ ++ Cs)))) G) → Seq K 𝓛 (Δ ++ Cs) G
    called {G} so k =
        subst (λ (Δ' : List (Item 𝓤)). Seq K 𝓛 (Δ' ++ Cs) G) (sym is_held_lem)
        (by t (via 𝓤 _ (puts_first 𝓛 (upto n Δ) (holds 𝓛 ks xs) (Z n Δ) Cs) (lent good holds-φ (upto n Δ ++ (Z n Δ ++ Cs)) t so k).prf))

    -- it has returned, and what was passed goes back to its place
    come_back : (goal : Val → Goal 𝓤 H) → ((v : Val) → Soaks (goal v)) → (fr : Fresh ks) (w : Val) → ((r : res.row.Denot) (ws : Lasts ks xs) → Returned r ws → Seq K 𝓛 (After n Δ ws ++ Cs) (goal (res.mach r)))
        → Seq K 𝓛 (raw (post fr w) ∷ (kept 𝓛 ks xs fr ++ (upto n Δ ++ (Z n Δ ++ Cs)))) (goal w)
    come_back goal so fr w k = ended good holds-φ (upto n Δ ++ (Z n Δ ++ Cs)) goal t so fr w (λ r ws ret. by t (via 𝓤 _ (puts_back 𝓛 (upto n Δ) (holds 𝓛 ks (changed ks xs ws)) (Z n Δ) Cs) (k r ws ret).prf))

  module _ (good : Goods ks xs) (holds-φ : φ) {K : Type 0} {C : Calls 𝓤 H} {Λ : Loops 𝓤 H} {ls : List Local} {pl : Places ls} {Kf : Val → SProp 𝓤} {Δ : List (Item 𝓤)} {vs : List Slot} {bs : List Body} {rest : Body} {f : Callee} {ops : List Operand} {d : ℕ} {τ : Ty} where
    pub calls : K → (n : ℕ) → Δ ≡ Before n Δ → FmC 𝓤 H 𝓛.laws C → ((fr : Fresh ks) → ent 𝓤 (pre fr) (C f (values ks xs) (post fr))) → operands ls vs ops ≡ some (values ks xs) → free_at ls vs d ≡ some τ → res.row.mir ≡ τ ∷ []
        → ((r : res.row.Denot) (ws : Lasts ks xs) → Returned r ws → Walk K 𝓛 C Λ ls pl Kf (After n Δ ws) (holding d (res.mach r) vs) bs rest) → Walk K 𝓛 C Λ ls pl Kf Δ vs bs (seq (call f ops (place d [])) rest)
    calls t n e fm met os g m k = record {
      run = called t ls pl vs n Δ e good holds-φ tt (λ fr. calls_from t fm (raw (pre fr)) (values ks xs) (post fr) (met fr) (reading t ls pl vs n Δ e good holds-φ fr os) (λ w.
          come_back t ls pl vs n Δ e good holds-φ (λ v. lands C Λ (env ls pl) (place d []) v rest (then 𝓤 H C Λ (env ls pl) Kf bs)) (λ v. tt) fr w (λ r ws ret.
          land t (finds_free t 𝓛 ls pl (After n Δ ws) vs d g) (writes_at t 𝓛 ls pl (After n Δ ws) vs d (res.mach r) g (typed_result m r ret.is)) $ (k r ws ret).run)));
    }

    pub calls_last : K → (n : ℕ) → Δ ≡ Before n Δ → FmC 𝓤 H 𝓛.laws C → ((fr : Fresh ks) → ent 𝓤 (pre fr) (C f (values ks xs) (post fr))) → operands ls vs ops ≡ some (values ks xs) → free_at ls vs d ≡ some τ → res.row.mir ≡ τ ∷ []
        → ((r : res.row.Denot) (ws : Lasts ks xs) → Returned r ws → Walk K 𝓛 C Λ ls pl Kf (After n Δ ws) (holding d (res.mach r) vs) bs rest) → Walk K 𝓛 C Λ ls pl Kf Δ vs (rest ∷ bs) (call f ops (place d []))
    calls_last t n e fm met os g m k = record {
      run = called t ls pl vs n Δ e good holds-φ tt (λ fr. calls_from_last t fm (raw (pre fr)) (values ks xs) (post fr) (met fr) (reading t ls pl vs n Δ e good holds-φ fr os) (λ w.
          come_back t ls pl vs n Δ e good holds-φ (λ v. settles (env ls pl) (place d []) v (then 𝓤 H C Λ (env ls pl) Kf (rest ∷ bs))) (λ v. tt) fr w (λ r ws ret.
          land_last t (finds_free t 𝓛 ls pl (After n Δ ws) vs d g) (writes_at t 𝓛 ls pl (After n Δ ws) vs d (res.mach r) g (typed_result m r ret.is)) $ exec t C Λ (env ls pl) rest (then 𝓤 H C Λ (env ls pl) Kf bs) $ (k r ws ret).run)));
    }

-- a run that keeps the deal, for a caller
abbrev pub Known : {M : Type 1} {𝓤 : Ura M} (𝓛 : Logic 𝓤) → Deal → Fun 𝓤 → Type 1
Known {𝓤 = 𝓤} 𝓛 D run = (xs : Args D.ks) (fr : Fresh D.ks) → ent 𝓤 (pre 𝓛 D xs fr) (run (values D.ks xs) (post 𝓛 D xs fr))
