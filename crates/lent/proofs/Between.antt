-- A slice and its token among what is held, as two entries between X and Z, before the locals Cs: steps of a walk (`Walk.antt`) that take them out and put them in. It says nothing of any crate.
--     Between          the two entries where they stand.        parted     what is held has a first p entries and the others.        rest     all but the first
--     in_kept          [what is kept; the slice; its token; the others]  goes on from  what is kept, and then all, with the two between
--     out-kept         the reverse.        into, out     the same with nothing kept
-- Assumes `Logic`.
use mathlib.Core.Path.{◌≡◌, refl, sym, ap, subst}
use Prim.Native.Nat.{ℕ, zero, suc}
use mathlib.Core.List.{List, [], ◌∷◌, ◌++◌, append_assoc}
use seplogic.Ra.Ura.{Ura}
use base.Logic.{ent, sep, via, mono_r}
use types.Logic.{Logic}
use types.Kit.{Item, mean, ⋆, pop, push, Goal, Step, step, raw, ◌⊛◌, ◌$◌, ◌∵◌, !, qed, by, move, use1, use2, split, done}
use Rattle.lent.proofs.Calls.{upto, past, puts_first, puts_back}

abbrev pub rest : {M : Type 1} {𝓤 : Ura M} → List (Item 𝓤) → List (Item 𝓤)
rest [] = []
rest (i ∷ Δ) = Δ

pub parted : {M : Type 1} {𝓤 : Ura M} (p : ℕ) (Δ : List (Item 𝓤)) → Δ ≡ upto p Δ ++ past p [] Δ
parted zero Δ = refl
parted (suc p) [] = refl
parted {𝓤 = 𝓤} (suc p) (i ∷ Δ) = ap (λ (Γ : List (Item 𝓤)). i ∷ Γ) (parted p Δ)

abbrev pub Between : {M : Type 1} {𝓤 : Ura M} → List (Item 𝓤) → List (Item 𝓤) → Item 𝓤 → Item 𝓤 → List (Item 𝓤)
Between X Z s t = X ++ (s ∷ t ∷ Z)

module _ {M : Type 1} {𝓤 : Ura M} (𝓛 : Logic 𝓤) (X Z Cs : List (Item 𝓤)) (s t : Item 𝓤) where
  abbrev Γ : List (Item 𝓤)
  Γ = (X ++ Z) ++ Cs

  puts_in : ent 𝓤 (sep 𝓤 (mean 𝓛 s) (sep 𝓤 (mean 𝓛 t) (⋆ 𝓛 Γ))) (⋆ 𝓛 (Between X Z s t ++ Cs))
  puts_in = via 𝓤 _
      (qed 𝓛 (s ∷ t ∷ raw (⋆ 𝓛 Γ) ∷ []) ∵ move ! (1 ∷ 2 ∷ []) $ use2 𝓛 (raw (⋆ 𝓛 (t ∷ Γ))) (push 𝓛 t Γ) $ move ! (1 ∷ 0 ∷ []) $ by ! (push 𝓛 s (t ∷ Γ)))
      (subst (λ (Δ : List (Item 𝓤)). ent 𝓤 (⋆ 𝓛 (s ∷ t ∷ Δ)) (⋆ 𝓛 (Between X Z s t ++ Cs))) (sym (append_assoc X Z Cs)) (puts_back 𝓛 X (s ∷ t ∷ []) Z Cs))

  takes_out : ent 𝓤 (⋆ 𝓛 (Between X Z s t ++ Cs)) (sep 𝓤 (mean 𝓛 s) (sep 𝓤 (mean 𝓛 t) (⋆ 𝓛 Γ)))
  takes_out = via 𝓤 _
      (subst (λ (Δ : List (Item 𝓤)). ent 𝓤 (⋆ 𝓛 (Between X Z s t ++ Cs)) (⋆ 𝓛 (s ∷ t ∷ Δ))) (sym (append_assoc X Z Cs)) (puts_first 𝓛 X (s ∷ t ∷ []) Z Cs))
      (qed 𝓛 (s ∷ raw (⋆ 𝓛 (t ∷ Γ)) ∷ []) ∵ move ! (1 ∷ []) $ use1 𝓛 (t ⊛ raw (⋆ 𝓛 Γ)) (pop 𝓛 t Γ) $ split ! $ move ! (2 ∷ 0 ∷ 1 ∷ []) $ done !)

module _ {M : Type 1} {𝓤 : Ura M} {𝓛 : Logic 𝓤} {K : Type 0} {G : Goal 𝓤 𝓛.H} where
  pub in_kept : K → (X Z Cs : List (Item 𝓤)) {k s t : Item 𝓤} → Step K 𝓛 ((k ∷ Between X Z s t) ++ Cs) G (k ∷ s ∷ t ∷ raw (⋆ 𝓛 ((X ++ Z) ++ Cs)) ∷ []) G
  in_kept g X Z Cs {k} {s} {t} = step (λ r. by g (via 𝓤 _ (mono_r 𝓤 (mean 𝓛 k) (puts_in 𝓛 X Z Cs s t)) (via 𝓤 _ (push 𝓛 k (Between X Z s t ++ Cs)) r.prf)))

  pub out_kept : K → (X Z Cs : List (Item 𝓤)) {k s t : Item 𝓤} → Step K 𝓛 (k ∷ s ∷ t ∷ raw (⋆ 𝓛 ((X ++ Z) ++ Cs)) ∷ []) G ((k ∷ Between X Z s t) ++ Cs) G
  out_kept g X Z Cs {k} {s} {t} = step (λ r. by g (via 𝓤 _ (pop 𝓛 k (Between X Z s t ++ Cs)) (via 𝓤 _ (mono_r 𝓤 (mean 𝓛 k) (takes_out 𝓛 X Z Cs s t)) r.prf)))

  pub into : K → (X Z Cs : List (Item 𝓤)) {s t : Item 𝓤} → Step K 𝓛 (Between X Z s t ++ Cs) G (s ∷ t ∷ raw (⋆ 𝓛 ((X ++ Z) ++ Cs)) ∷ []) G
  into g X Z Cs {s} {t} = step (λ r. by g (via 𝓤 _ (puts_in 𝓛 X Z Cs s t) r.prf))

  pub out : K → (X Z Cs : List (Item 𝓤)) {s t : Item 𝓤} → Step K 𝓛 (s ∷ t ∷ raw (⋆ 𝓛 ((X ++ Z) ++ Cs)) ∷ []) G (Between X Z s t ++ Cs) G
  out g X Z Cs {s} {t} = step (λ r. by g (via 𝓤 _ (takes_out 𝓛 X Z Cs s t) r.prf))
