-- From a walk of a function's code to its contract. It says nothing of any crate.
--     Done xs v        the contract's `post` at the arguments xs: it says ψ of the result and the last lists
--     finishes         a walk ends: from what is held of what is changed, where ψ holds
--     meets            a walk from what is held, where φ holds, gives the contract's triple, at each choice of what it binds outside
-- Assumes `Logic`.
use mathlib.Core.Path.{◌≡◌, sym, subst}
use Prim.Native.Nat.{ℕ}
use mathlib.Core.List.{List, [], ◌∷◌}
use seplogic.Ra.Ura.{Ura}
use native.Mathlib.Omega.{arith}
use lib.Dec.{T}
use mir.Syntax.{Ty, Local, local, Home, Fn}
use mir.Val.{Val, WT, has_ty}
use base.Logic.{SProp, ent, sep, emp, via, snd∗}
use prog.Wp.{Calls, Loops, WpFn}
use types.Logic.{Logic, sem}
use contract.Lifetimes.{toks}
use contract.Monad.{fact, fact_i, fact_use}
use types.Kit.{Item, mean, ⋆, Go, Seq, allocs, params', runs, ‵, raw, ◌⊛◌, some as one_of_lem, ◌$◌, ◌∵◌, !, qed, by, at_ret, updating, now as at_once, show, use0, use1, move, split, join, frame}
use types.Run.{enter}
use denote.RattleType.{RattleType, Valss, flat, owns, mirs}
use denote.Laws.{Is, Ises, Are, owns_show, showss, all_tell, all_Typed, Typed as TypedAs}
use denote.Triple.Walked.{needs}
use Rattle.lent.proofs.Data.{Datum}
use Rattle.lent.proofs.Held.{Kind, Deal, Outside, Args, Lasts, Long, Goods, own, lives, rows, handed, spelled, spellings, told, flat_values, all_good, all_lawful, values, lasts, changed, holds, tokens, spent, opens, spends}
use Rattle.lent.proofs.Locals.{empty, Places, Typed, fulls, enters}
use Rattle.lent.proofs.Walk.{Walk}

-- the types of the first locals, as many as there are values
abbrev pub front_types : List Val → List Local → List Ty
front_types [] ls = []
front_types (v ∷ vs) [] = []
front_types (v ∷ vs) (local τ h ∷ ls) = τ ∷ front_types vs ls

typed_front : (ls : List Local) (τs : List Ty) (vs : List Val) → TypedAs τs vs → front_types vs ls ≡ τs → Typed ls vs
typed_front ls τs [] t e = tt
typed_front [] (τ ∷ τs) (v ∷ vs) t e = absurd (let z : ◌≡◌ {A = ℕ} 0 1 = cc in omega arith)
typed_front [] [] (v ∷ vs) t e = absurd t
typed_front (local τ h ∷ ls) [] (v ∷ vs) t e = absurd t
typed_front (local τ h ∷ ls) (σ ∷ τs) (v ∷ vs) t e =
    let i : σ ≡ τ = cc in
    let j : front_types vs ls ≡ τs = cc in
    (subst (λ (ρ : Ty). T (has_ty ρ v) × WT v) i t.0, typed_front ls τs vs t.1 j)

module _ {M : Type 1} {𝓤 : Ura M} (𝓛 : Logic 𝓤) (D : Deal) where
  open 𝓛 use {H}

  abbrev ks : List Kind
  ks = D.ks

  abbrev res : Datum
  res = D.res

  abbrev φ : Args ks → Type 0
  φ = D.asks

  abbrev ψ : (xs : Args ks) → res.row.Denot → Lasts ks xs → Type 0
  ψ = D.says

  -- what is said of the last lists, and what is owned of the result
  abbrev Said : (xs : Args ks) → res.row.Denot → Lasts ks xs → Item 𝓤
  Said xs r ws = ‵ (lasts ks xs (own ks xs) ws) ⊛ raw (fact 𝓤 (ψ xs r ws))

  abbrev Ended : (xs : Args ks) → Val → res.row.Denot → Item 𝓤
  Ended xs v r = (raw (tokens 𝓛 ks xs (own ks xs)) ⊛ ‵ (res.row.own_val r (v ∷ []))) ⊛ one_of_lem (Said xs r)

  abbrev pub Done : Args ks → Val → SProp 𝓤
  Done xs v = H.⇛ (mean 𝓛 (one_of_lem (Ended xs v)))

  pub finishes : (xs : Args ks) (r : res.row.Denot) (ws : Lasts ks xs) → Is res.row r (res.mach r ∷ []) → Long ks xs ws → ψ xs r ws → ent 𝓤 (⋆ 𝓛 (holds 𝓛 ks (changed ks xs ws))) (Done xs (res.mach r))
  finishes xs r ws is long said =
      qed 𝓛 (raw (⋆ 𝓛 (holds 𝓛 ks (changed ks xs ws))) ∷ []) ∵ updating ! $ at_once ! $ show ! (λ (q : res.row.Denot). mean 𝓛 (Ended xs (res.mach r) q)) r $
      use1 𝓛 (spent 𝓛 ks xs ws) (spends 𝓛 ks xs ws long) $ split ! $ use0 𝓛 (‵ (res.row.own_val r (res.mach r ∷ []))) (res.makes 𝓛 r _ is) $ move ! (1 ∷ 0 ∷ []) $ join ! $ frame ! $
      show ! (λ (q : Lasts ks xs). mean 𝓛 (Said xs r q)) ws $ frame ! $ by ! (fact_i 𝓤 (ψ xs r ws) (emp 𝓤) said)

  module _ (C : Calls 𝓤 H) (Λ : Loops 𝓤 H) (f : Fn) {τ : Ty} {h : Home} {ls : List Local} (locals_are : f.locals ≡ local τ h ∷ ls) where
    -- a walk of the code from the arguments
    abbrev pub Walked : Args ks → Type 1
    Walked xs = Goods ks xs → φ xs → (pl : Places (local τ h ∷ ls)) → Walk (Go {0}) 𝓛 C Λ (local τ h ∷ ls) pl (Done xs) (holds 𝓛 ks xs) (empty ∷ fulls (values ks xs)) [] f.body

    -- at what the triple binds outside
    module _ (y : Outside ks) where
      abbrev xs : Args ks
      xs = handed ks y

      abbrev Rs : List RattleType
      Rs = rows 0 ks y.0

      abbrev said : Valss Rs
      said = spelled 0 ks y.0 y.3

      abbrev Owned : Valss Rs → SProp 𝓤
      Owned vss = sep 𝓤 (toks 𝓛 (lives ks) y.0 y.1) (sem 𝓛 (owns Rs y.3 vss))

      runs_on : front_types (values ks xs) ls ≡ mirs Rs → Walked xs → φ xs → Are Rs (Ises Rs) y.3 said → ent 𝓤 (⋆ 𝓛 (holds 𝓛 ks xs)) (WpFn 𝓤 H C Λ f (values ks xs) (Done xs))
      runs_on types walk needed are =
          let typed = subst (TypedAs (mirs Rs)) (flat_values 0 ks y.0 y.1 y.3) (all_Typed 𝓛 Rs (all_lawful 𝓛 0 ks y.0) y.3 said are) in
          qed 𝓛 (holds 𝓛 ks xs) ∵ enter ! C Λ f (values ks xs) (Done xs) $
          subst (λ (l : List Local). Seq (Go {0}) 𝓛 (holds 𝓛 ks xs) (allocs l (λ E. params' E (values ks xs) (runs C Λ E f.body (at_ret E (Done xs)))))) (sym locals_are)
          (enters 𝓛 (holds 𝓛 ks xs) ! (typed_front ls (mirs Rs) (values ks xs) typed types) (λ pl. (walk (all_good 0 ks y.0 y.1 y.3 are) needed pl).run))

      pub meets : front_types (values ks xs) ls ≡ mirs Rs → Walked xs → ent 𝓤 (sep 𝓤 (Owned y.4) (fact 𝓤 (φ xs))) (WpFn 𝓤 H C Λ f (flat Rs y.4) (Done xs))
      meets types walk = needs 𝓤 (φ xs) _ (λ needed.
          fact_use 𝓤 (Are Rs (Ises Rs) y.3 y.4) (via 𝓤 _ (snd∗ 𝓤 (toks 𝓛 (lives ks) y.0 y.1) (sem 𝓛 (owns Rs y.3 y.4))) (owns_show 𝓛 Rs (Ises Rs) (showss 𝓛 Rs) y.3 y.4)) (λ are.
          let e : y.4 ≡ said = all_tell Rs (Ises Rs) (spellings 0 ks y.0) (told 0 ks y.0) y.3 y.4 are in
          subst (λ (us : Valss Rs). ent 𝓤 (Owned us) (WpFn 𝓤 H C Λ f (flat Rs us) (Done xs))) (sym e)
          (via 𝓤 _ (opens 𝓛 0 ks y.0 y.1 y.3)
          (subst (λ (us : List Val). ent 𝓤 (⋆ 𝓛 (holds 𝓛 ks xs)) (WpFn 𝓤 H C Λ f us (Done xs))) (sym (flat_values 0 ks y.0 y.1 y.3))
          (runs_on types walk needed (subst (Are Rs (Ises Rs) y.3) e are))))))
