-- `Again.antt`'s two entailments as steps of a walk. It says nothing of the crate, and can be copied as it stands.
--     lends-on     [the `&κ mut [T]` at ys; κ's token; Γ]  goes on from  [the `&ν mut [T]` at ys, under a new name δ; what is kept; Γ]
--     comes-on     [†ν; what is kept; δ's last list zs; Γ]  goes on from  [the `&κ mut [T]` at zs; κ's token; Γ]
-- The slice's machine value has the count m, which is ys's length. Assumes `Logic`.
use mathlib.Core.Path.{◌≡◌, refl, sym, subst}
use Prim.Native.Nat.{ℕ}
use mathlib.Core.List.{List, [], ◌∷◌}
use lib.ListN.{length}
use seplogic.Ra.Ura.{Ura}
use mir.Syntax.{Lifetime}
use base.Fml.{Lft, GName, Share, Fml, flft, fdead}
use types.Logic.{Logic}
use types.Kit.{Goal, Soaks, Item, Seq, Step, step, ‵, ◌⊛◌, some, later, ◌$◌, use2, use3, rewrite, split, pick, await}
use denote.RattleType.{RattleType}
use denote.Slice.{slice_val, MutSlice, Room, finally}
use Rattle.lent.proofs.Again.{LentAgain, lends_again, comes_back}

-- what a `&κ mut [T]` owns at the list ys, with the count m
abbrev pub Lent : (R : RattleType) → Lifetime → Lft → ℕ → ℕ → GName → ℕ → List R.Denot → Fml
Lent R ℓ κ b o γ m ys = (MutSlice ℓ κ R).own_val (record { ref_ptr = (b, o); ghost_name = γ; now = ys }) (slice_val (b, o) m ∷ [])

module _ {M : Type 1} {𝓤 : Ura M} {𝓛 : Logic 𝓤} {K : Type 0} {Γ : List (Item 𝓤)} {G : Goal 𝓤 𝓛.H} where
  pub lends_on : K → Soaks G → (R : RattleType) (ℓ ℓ' : Lifetime) (κ : Lft) (ν : ℕ) (q : Share) (γ : GName) (b o m : ℕ) (ys : List R.Denot) → length ys ≡ m
      → ((δ : GName) → Seq K 𝓛 (‵ (Lent R ℓ' (ν ∷ []) b o δ m ys) ∷ ‵ (LentAgain R κ (ν ∷ []) q γ b o δ ys) ∷ Γ) G) → Seq K 𝓛 (‵ (Lent R ℓ κ b o γ m ys) ∷ ‵ (flft κ q) ∷ Γ) G
  lends_on t so R ℓ ℓ' κ ν q γ b o m ys len k =
      rewrite t 0 (λ (j : ℕ). ‵ (Lent R ℓ κ b o γ j ys)) (sym len) refl $
      use2 𝓛 (later (some (λ (δ : GName). ‵ (Lent R ℓ' (ν ∷ []) b o δ (length ys) ys) ⊛ ‵ (LentAgain R κ (ν ∷ []) q γ b o δ ys)))) (lends_again R κ (ν ∷ []) q γ b o 𝓛 ℓ ℓ' ys) $ await t so $ pick t (λ δ. split t $
      rewrite t 0 (λ (j : ℕ). ‵ (Lent R ℓ' (ν ∷ []) b o δ j ys)) len refl $ k δ)

  pub comes_on : K → Soaks G → (R : RattleType) (ℓ : Lifetime) (κ : Lft) (ν : ℕ) (q : Share) (γ : GName) (b o m : ℕ) (ys : List R.Denot) → length ys ≡ m → Room R m → (δ : GName) (zs : List R.Denot) → length zs ≡ length ys
      → Step K 𝓛 (‵ (Lent R ℓ κ b o γ m zs) ∷ ‵ (flft κ q) ∷ Γ) G (‵ (fdead (ν ∷ [])) ∷ ‵ (LentAgain R κ (ν ∷ []) q γ b o δ ys) ∷ ‵ (finally R δ zs) ∷ Γ) G
  comes_on t so R ℓ κ ν q γ b o m ys len room δ zs l = step (λ s.
      use3 𝓛 (later (‵ (Lent R ℓ κ b o γ (length ys) zs) ⊛ ‵ (flft κ q))) (comes_back R κ (ν ∷ []) q γ b o 𝓛 ℓ ℓ ys δ zs (subst (Room R) (sym len) room) l) $ await t so $ split t $
      rewrite t 0 (λ (j : ℕ). ‵ (Lent R ℓ κ b o γ j zs)) len refl $ s)
