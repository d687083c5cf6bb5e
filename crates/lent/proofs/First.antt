-- The first k elements of a `&mut [T]`, lent as a `&[T]` for a call: `&s[..k]`, where a `&` to a T can be made at any lifetime (`Shares`). They come back as they were. It says nothing of any crate.
--     first_of          that `&[T]`, at a lifetime ν of the call's own.        first_good     it has room.        kept_of     what the holder keeps meanwhile
--     lends_first      [the `&mut [T]`; its token; Γ]  goes on from  [the `&[T]`; ν's token; what is kept; Γ]
--     comes-first      [ν's token; what is kept; Γ]  goes on from  [the `&mut [T]`; its token; Γ]
-- Assumes `Logic`.
use mathlib.Core.Path.{◌≡◌, refl, sym}
use Prim.Native.Nat.{ℕ, ◌≤◌}
use native.Mathlib.Nat.{lt_of_le_of_lt, mul-le-mul_right}
use mathlib.Core.List.{List, [], ◌∷◌}
use lib.ListN.{length, take}
use seplogic.Ra.Ura.{Ura}
use base.Fraction.{full_share}
use mir.Syntax.{erased}
use mir.Val.{Val}
use base.Logic.{ent, sep}
use base.Fml.{Lft, Fml, Incl-refl, flft, flent}
use types.Logic.{Logic, sem}
use types.Kit.{Goal, Soaks, Item, Seq, Step, step, ‵, ◌⊛◌, later, ◌$◌, ◌∵◌, !, qed, use2, use3, rewrite, move, drop, split, fsplit, fjoin, feq_i, await, updating, now as at_once, done}
use types.Tokens.{lft_new, lft_end}
use types.SemTy.{cells}
use borrow.Table.Elements.{take-le}
use borrow.Table.Owned.{ShrSlice, MutSlice, lends_shr_slice}
use borrow.Rule.Slice.Reshare.{kept_sᵖ, sl_reshareᵖ_as, sl_reshare_backᵖ}
use borrow.Rule.Array.Rows.{parts_f}
use borrow.Rule.Slice.Shared.{parts-cells}
use denote.RattleType.{RattleType}
use denote.Memory.{mem}
use denote.Shares.{Shares}
use denote.Slice.{slice_val, Room}
use Rattle.lent.proofs.Held.{Unique, Shared, unique, Good, GoodShared, slice, common, token}

abbrev pub first_of : {X : Type 0} → Unique X → ℕ → ℕ → Shared X
first_of a k ν = record { κ = ν ∷ []; q = full_share; x = record { ref_ptr = (a.b, a.o); now = take k a.list } }

pub first_good : (R : RattleType) (a : Unique R.Denot) (k ν : ℕ) → Good (unique R) a → GoodShared R (first_of a k ν)
first_good R a k ν (long, (count, bytes)) =
    let few : length (take k a.list) ≤ a.m = rw (← long) (take-le k a.list) in
    (lt_of_le_of_lt few count, lt_of_le_of_lt (mul-le-mul_right (mem R).size few) bytes)

abbrev pub kept_of : (R : RattleType) → Unique R.Denot → ℕ → ℕ → Fml
kept_of R a k ν = kept_sᵖ R a.κ a.q (ν ∷ []) a.γ a.list k a.b a.o

-- elements in memory, shared out for ν at its token, and the lender's way back
shared_at : {M : Type 1} {𝓤 : Ura M} (𝓛 : Logic 𝓤) (R : RattleType) (ν : ℕ) → Shares 𝓛 R (ν ∷ []) → (ys : List R.Denot) (b o : ℕ) → Room R (length ys) → ent 𝓤 (sep 𝓤 (sem 𝓛 (cells (mem R) ys b o)) (𝓛.A.lft (ν ∷ []) full_share))
    (𝓛.H.⇛ (sep 𝓤 (sep 𝓤 (sem 𝓛 ((ShrSlice erased (ν ∷ []) R).own_val (record { ref_ptr = (b, o); now = ys }))) (𝓛.A.lent (ν ∷ []) (parts_f R ys b o))) (𝓛.A.lft (ν ∷ []) full_share)))
shared_at 𝓛 R ν sh ys b o room =
    qed 𝓛 (‵ (cells (mem R) ys b o) ∷ ‵ (flft (ν ∷ []) full_share) ∷ []) ∵ updating ! $ rewrite ! 0 (λ (F : Fml). ‵ F) (sym (parts-cells R full_share ys b o)) refl $ feq_i ! ℕ (length ys) (length ys) refl $ fjoin ! $
    use2 𝓛 (later ((‵ ((ShrSlice erased (ν ∷ []) R).own_val (record { ref_ptr = (b, o); now = ys })) ⊛ ‵ (flent (ν ∷ []) (parts_f R ys b o))) ⊛ ‵ (flft (ν ∷ []) full_share)))
    (lends_shr_slice 𝓛 R erased (ν ∷ []) full_share ys b o room (ν ∷ []) sh ((ν ∷ [], full_share) ∷ []) (Incl-refl (ν ∷ [])) (Incl-refl (ν ∷ []))) $ await ! tt $ at_once ! $ done !

module _ {M : Type 1} {𝓤 : Ura M} {𝓛 : Logic 𝓤} {K : Type 0} {Γ : List (Item 𝓤)} {G : Goal 𝓤 𝓛.H} where
  pub lends_first : K → Soaks G → (R : RattleType) → ((l : Lft) → Shares 𝓛 R l) → (a : Unique R.Denot) (k : ℕ)
      → ((ν : ℕ) → Seq K 𝓛 (‵ (common 𝓛 R (first_of a k ν)) ∷ token 𝓛 (ν ∷ []) full_share ∷ ‵ (kept_of R a k ν) ∷ Γ) G) → Seq K 𝓛 (‵ (slice 𝓛 R a) ∷ token 𝓛 a.κ a.q ∷ Γ) G
  lends_first t so R sh a k s = lft_new t so (λ ν. move t (1 ∷ []) $ fsplit t $ fsplit t $ drop t $ fjoin t $ move t (0 ∷ 2 ∷ []) $
      use3 𝓛 (later (‵ ((ShrSlice erased (ν ∷ []) R).own_val (first_of a k ν).x) ⊛ (‵ (kept_of R a k ν) ⊛ token 𝓛 (ν ∷ []) full_share)))
      (sl_reshareᵖ_as 𝓛 R a.κ a.q (ν ∷ []) a.b a.o a.γ (sem 𝓛 (flft (ν ∷ []) full_share)) (λ ys room. shared_at 𝓛 R ν (sh (ν ∷ [])) ys a.b a.o room) a.list k) $ await t so $ split t $ fsplit t $
      feq_i t (List Val) (slice_val (a.b, a.o) (length (take k a.list)) ∷ []) (slice_val (a.b, a.o) (length (take k a.list)) ∷ []) refl $ fjoin t $ fjoin t $ move t (1 ∷ []) $ split t $ move t (2 ∷ 1 ∷ 0 ∷ []) $ s ν)

  pub comes_first : K → Soaks G → (R : RattleType) (a : Unique R.Denot) (k ν : ℕ) → length a.list ≡ a.m
      → Step K 𝓛 (‵ (slice 𝓛 R a) ∷ token 𝓛 a.κ a.q ∷ Γ) G (token 𝓛 (ν ∷ []) full_share ∷ ‵ (kept_of R a k ν) ∷ Γ) G
  comes_first t so R a k ν long = step (λ s.
      lft_end t so $ use2 𝓛 (later (‵ ((MutSlice erased a.κ R).own_val (record { ref_ptr = (a.b, a.o); ghost_name = a.γ; now = a.list })) ⊛ token 𝓛 a.κ a.q)) (sl_reshare_backᵖ 𝓛 R a.κ a.q (ν ∷ []) a.b a.o a.γ a.list k) $ await t so $ split t $ fsplit t $
      feq_i t (List Val) (slice_val (a.b, a.o) a.m ∷ []) (slice_val (a.b, a.o) (length a.list) ∷ []) (λ i. slice_val (a.b, a.o) (sym long i) ∷ []) $ fjoin t $ fjoin t $ s)
