-- The first k elements of a `&mut [T]`, lent for a call, as steps of a walk (`Walk.antt`): `&mut s[..k]`. They come back at whatever the call left, before the others as they were. It says nothing of any crate.
--     front_of          that `&mut [T]`, for a lifetime ν of the call's own, under a new name δ.        kept_of     what the holder keeps meanwhile.        back_at     the whole, once they are back at l
--     lends-front p    past the first p entries of what is held stand the `&mut [T]` and its token: there stand the first k elements and ν's token, and what is kept stands first
--     front-back p     there they stand, at whatever list: the whole and its token stand there again
-- A local array is lent whole before (`Arrays.antt`). Assumes `Logic`.
use mathlib.Core.Path.{◌≡◌, refl, sym, ◌∙◌, ap, subst}
use Prim.Native.Nat.{ℕ, suc, ◌≤◌}
use mathlib.Core.List.{List, [], ◌∷◌, ◌++◌}
use lib.ListN.{length, take, drop as after}
use lib.Seq.{length-take-le}
use seplogic.Ra.Ura.{Ura}
use base.Fraction.{full_share}
use mir.Syntax.{erased, Body, Local}
use mir.Val.{Val}
use base.Logic.{SProp, ent, sep}
use base.Fml.{GName, Fml, flft}
use prog.Wp.{Calls, Loops}
use types.Logic.{Logic, sem}
use types.Kit.{Item, mean, runs, Seq, ‵, ◌⊛◌, some as one_of_lem, given, later, ◌$◌, ◌∵◌, !, qed, move, drop, use1, use2, use3, split, pick, learn, fsplit, fjoin, feq_i, await, updating, now as at_once, show, check, done}
use types.Tokens.{lft_new, lft_end}
use borrow.Table.Owned.{MutSlice}
use borrow.Rule.Slice.Part.{kept_p, sl_relendᵖ, sl_relent_backᵖˡ}
use borrow.Table.Elements.{same_len}
use denote.RattleType.{RattleType}
use denote.Slice.{slice_val}
use Rattle.lent.proofs.Held.{Unique, unique, Good, at_list, last_is, slice, token, says_list}
use Rattle.lent.proofs.First.{first_good}
use Rattle.lent.proofs.Locals.{Slot, Places, env, cells}
use Rattle.lent.proofs.Walk.{then, Walk}
use Rattle.lent.proofs.Calls.{upto, past}
use Rattle.lent.proofs.Between.{rest, Between, in_kept, out, out_kept, into}

abbrev pub front_of : {X : Type 0} → Unique X → ℕ → ℕ → GName → Unique X
front_of a k ν δ = record { κ = ν ∷ []; q = full_share; γ = δ; b = a.b; o = a.o; m = k; list = take k a.list }

pub front_good : (R : RattleType) (a : Unique R.Denot) (k ν : ℕ) (δ : GName) → k ≤ length a.list → Good (unique R) a → Good (unique R) (front_of a k ν δ)
front_good R a k ν δ few good =
    let long = length-take-le k a.list few in
    (long, rw long at (first_good R a k ν good))

abbrev pub back_at : {X : Type 0} → Unique X → ℕ → List X → Unique X
back_at a k l = at_list a (l ++ after k a.list)

abbrev pub kept_of : (R : RattleType) → Unique R.Denot → ℕ → ℕ → GName → Fml
kept_of R a k ν δ = kept_p R a.κ a.q (ν ∷ []) a.γ δ a.list k a.b a.o

module _ {M : Type 1} {𝓤 : Ura M} (𝓛 : Logic 𝓤) (R : RattleType) (a : Unique R.Denot) (k ν : ℕ) where
  open 𝓛 use {H, A}

  abbrev X : Type 0
  X = R.Denot

  abbrev Loan : Item 𝓤
  Loan = one_of_lem (λ (δ : GName). ‵ (slice 𝓛 R (front_of a k ν δ)) ⊛ ‵ (kept_of R a k ν δ))

  lent : k ≤ length a.list → ent 𝓤 (sep 𝓤 (sem 𝓛 (slice 𝓛 R a)) (A.lft a.κ a.q)) (H.⇛ (mean 𝓛 Loan))
  lent few =
      qed 𝓛 (‵ (slice 𝓛 R a) ∷ ‵ (flft a.κ a.q) ∷ []) ∵ updating ! $ fsplit ! $ fsplit ! $ drop ! $ fjoin ! $
      use2 𝓛 (later (one_of_lem (λ (δ : GName). ‵ ((MutSlice erased (ν ∷ []) R).own_val (record { ref_ptr = (a.b, a.o); ghost_name = δ; now = take k a.list })) ⊛ ‵ (kept_of R a k ν δ)))) (sl_relendᵖ 𝓛 R a.κ a.q (ν ∷ []) a.b a.o a.γ a.list k) $
      await ! tt $ pick ! (λ δ. split ! $ fsplit ! $ feq_i ! (List Val) (slice_val (a.b, a.o) k ∷ []) (slice_val (a.b, a.o) (length (take k a.list)) ∷ []) (ap (λ (m : ℕ). slice_val (a.b, a.o) m ∷ []) (sym (length-take-le k a.list few))) $ fjoin ! $ fjoin ! $
      at_once ! $ show ! (λ (δ : GName). mean 𝓛 (‵ (slice 𝓛 R (front_of a k ν δ)) ⊛ ‵ (kept_of R a k ν δ))) δ $ done !)

  abbrev Whole : List X → Item 𝓤
  Whole l = given (length l ≡ length (take k a.list)) (‵ (slice 𝓛 R (at_list a (l ++ after k a.list))) ⊛ ‵ (flft a.κ a.q))

  -- as many as they were, and the others: as many as the whole
  same : (l : List X) → length l ≡ length (take k a.list) → length a.list ≡ a.m → length (l ++ after k a.list) ≡ a.m
  same l e long = same_len k a.list l e ∙ long

  back : (δ : GName) (l : List X) → length a.list ≡ a.m → ent 𝓤 (sep 𝓤 (A.lft (ν ∷ []) full_share) (sep 𝓤 (sem 𝓛 (kept_of R a k ν δ)) (sem 𝓛 (slice 𝓛 R (at_list (front_of a k ν δ) l))))) (H.⇛ (mean 𝓛 (Whole l)))
  back δ l long =
      let s = at_list (front_of a k ν δ) l in
      qed 𝓛 (‵ (flft (ν ∷ []) full_share) ∷ ‵ (kept_of R a k ν δ) ∷ ‵ (slice 𝓛 R s) ∷ []) ∵ updating ! $ lft_end ! tt $ move ! (2 ∷ []) $ use1 𝓛 (‵ (last_is R (ν ∷ []) a.b a.o δ l l)) (says_list 𝓛 R s l refl) $ fsplit ! $ move ! (1 ∷ []) $ drop ! $ fsplit ! $ move ! (2 ∷ 3 ∷ 0 ∷ []) $
      use3 𝓛 (later (given (length l ≡ length (take k a.list)) (‵ ((MutSlice erased a.κ R).own_val (record { ref_ptr = (a.b, a.o); ghost_name = a.γ; now = l ++ after k a.list })) ⊛ ‵ (flft a.κ a.q))))
      (sl_relent_backᵖˡ 𝓛 R a.κ a.q (ν ∷ []) a.b a.o a.γ δ a.list k l) $ await ! tt $ learn ! (λ e. split ! $ fsplit ! $
      feq_i ! (List Val) (slice_val (a.b, a.o) a.m ∷ []) (slice_val (a.b, a.o) (length (l ++ after k a.list)) ∷ []) (ap (λ (m : ℕ). slice_val (a.b, a.o) m ∷ []) (sym (same l e long))) $ fjoin ! $ fjoin ! $
      at_once ! $ check ! e $ move ! (2 ∷ []) $ drop ! $ done !)

-- ---- in a walk
module _ {M : Type 1} {𝓤 : Ura M} {𝓛 : Logic 𝓤} {K : Type 0} {C : Calls 𝓤 𝓛.H} {Λ : Loops 𝓤 𝓛.H} {ls : List Local} {pl : Places ls} {Kf : Val → SProp 𝓤} {Δ : List (Item 𝓤)} {vs : List Slot} {ks : List Body} where
  open 𝓛 use {H}

  pub lends_front : K → (R : RattleType) (a : Unique R.Denot) (p k : ℕ) {c : Body} → k ≤ length a.list → Δ ≡ Between (upto p Δ) (past (suc (suc p)) [] Δ) (‵ (slice 𝓛 R a)) (token 𝓛 a.κ a.q)
      → ((ν : ℕ) (δ : GName) → Walk K 𝓛 C Λ ls pl Kf (‵ (kept_of R a k ν δ) ∷ Between (upto p Δ) (past (suc (suc p)) [] Δ) (‵ (slice 𝓛 R (front_of a k ν δ))) (token 𝓛 (ν ∷ []) full_share)) vs ks c) → Walk K 𝓛 C Λ ls pl Kf Δ vs ks c
  lends_front t R a p k {c} few has w =
      let X = upto p Δ in
      let Z = past (suc (suc p)) [] Δ in
      let Cs = cells 𝓤 ls pl vs in
      record {
        run = subst (λ (Γ : List (Item 𝓤)). Seq K 𝓛 (Γ ++ Cs) (runs C Λ (env ls pl) c (then 𝓤 H C Λ (env ls pl) Kf ks))) (sym has) (out t X Z Cs $
            lft_new t tt (λ ν. move t (1 ∷ 2 ∷ []) $ use2 𝓛 (later (Loan 𝓛 R a k ν)) (lent 𝓛 R a k ν few) $ await t tt $ pick t (λ δ. split t $
            -- [the first elements; what is kept; the token; the rest]
            move t (1 ∷ 0 ∷ []) $ in_kept t X Z Cs $ (w ν δ).run)));
      }

  pub front_back : K → (R : RattleType) (a : Unique R.Denot) (p k : ℕ) (l : List R.Denot) {ν : ℕ} {δ : GName} {c : Body} → length a.list ≡ a.m
      → Δ ≡ ‵ (kept_of R a k ν δ) ∷ Between (upto p (rest Δ)) (past (suc (suc p)) [] (rest Δ)) (‵ (slice 𝓛 R (at_list (front_of a k ν δ) l))) (token 𝓛 (ν ∷ []) full_share)
      → (length l ≡ length (take k a.list) → Walk K 𝓛 C Λ ls pl Kf (Between (upto p (rest Δ)) (past (suc (suc p)) [] (rest Δ)) (‵ (slice 𝓛 R (back_at a k l))) (token 𝓛 a.κ a.q)) vs ks c) → Walk K 𝓛 C Λ ls pl Kf Δ vs ks c
  front_back t R a p k l {ν} {δ} {c} long has w =
      let X = upto p (rest Δ) in
      let Z = past (suc (suc p)) [] (rest Δ) in
      let Cs = cells 𝓤 ls pl vs in
      record {
        run = subst (λ (Γ : List (Item 𝓤)). Seq K 𝓛 (Γ ++ Cs) (runs C Λ (env ls pl) c (then 𝓤 H C Λ (env ls pl) Kf ks))) (sym has) (out_kept t X Z Cs $
            -- [what is kept; the first elements; their token; the rest]
            move t (2 ∷ 0 ∷ 1 ∷ []) $ use3 𝓛 (later (Whole 𝓛 R a k ν l)) (back 𝓛 R a k ν δ l long) $ await t tt $ learn t (λ e. split t $ into t X Z Cs $ (w e).run));
      }
