-- The first k elements of a `&[T]`, as a `&[T]` of its own lifetime: `&s[..k]`. The whole stays. It says nothing of any crate.
--     prefix_of         that `&[T]`.        prefix-good     it has room
--     cuts_first       [the `&[T]`; its token; Γ]  goes on from  [the first elements; the token; the `&[T]`; Γ]
-- Assumes `Logic`.
use mathlib.Core.Path.{refl}
use Prim.Native.Nat.{ℕ}
use native.Mathlib.Nat.{lt_of_le_of_lt, mul-le-mul_right}
use mathlib.Core.List.{List, [], ◌∷◌}
use lib.ListN.{length, take}
use seplogic.Ra.Ura.{Ura}
use mir.Syntax.{erased}
use lib.Ieee.{binary64}
use mir.Val.{Val, vfloat}
use base.Logic.{ent, sep}
use base.Fml.{fhide}
use types.Logic.{Logic, sem}
use types.Kit.{Goal, Soaks, Item, Seq, ‵, ◌⊛◌, later, ◌$◌, ◌∵◌, !, qed, use1, use2, move, drop, split, fsplit, fjoin, feq_i, frame, await, done}
use borrow.Table.Copies.{Cp}
use borrow.Table.Elements.{take-le}
use borrow.Table.Owned.{ShrSlice}
use borrow.Rule.Slice.Prefix.{shs_prefix_same}
use denote.RattleType.{RattleType}
use denote.Builtin.{f64}
use denote.Copied.{float_Copied, each_Twice}
use denote.Floats.{float_Tells, float_copy}
use denote.Memory.{mem}
use denote.Shadow.{pure_l, pure_i}
use denote.Slice.{slice_val, shr_slice_at, elements_shared}
use Rattle.lent.proofs.Held.{Shared, GoodShared, common, token}

-- an f64 can be copied
abbrev pub floats : Cp f64
floats = record { vals = λ x. vfloat binary64 x ∷ []; tells = float_Tells binary64; copy = λ 𝓛. float_copy 𝓛 binary64; copied = λ 𝓛. float_Copied 𝓛 binary64; single = tt }

abbrev pub prefix_of : {X : Type 0} → Shared X → ℕ → Shared X
prefix_of a k = record { κ = a.κ; q = a.q; x = record { ref_ptr = a.x.ref_ptr; now = take k a.x.now } }

pub prefix_good : (R : RattleType) (a : Shared R.Denot) (k : ℕ) → GoodShared R a → GoodShared R (prefix_of a k)
prefix_good R a k (count, bytes) = let few = take-le k a.x.now in (lt_of_le_of_lt few count, lt_of_le_of_lt (mul-le-mul_right (mem R).size few) bytes)

-- what a `&[T]` owns can be had twice, where T can be copied
twice : {M : Type 1} {𝓤 : Ura M} (𝓛 : Logic 𝓤) (R : RattleType) → Cp R → (a : Shared R.Denot) → ent 𝓤 (sem 𝓛 (common 𝓛 R a)) (sep 𝓤 (sem 𝓛 (common 𝓛 R a)) (sem 𝓛 (common 𝓛 R a)))
twice 𝓛 R copy a =
    let at = shr_slice_at R a.x (slice_val a.x.ref_ptr (length a.x.now) ∷ []) in
    let elements = fhide (elements_shared R a.x.now a.x.ref_ptr.0 a.x.ref_ptr.1 a.κ) in
    qed 𝓛 (‵ (common 𝓛 R a) ∷ []) ∵ fsplit ! $ pure_l ! at (λ p. use1 𝓛 (‵ elements ⊛ ‵ elements) (each_Twice 𝓛 R (copy.copied 𝓛) a.x.now a.x.ref_ptr.0 a.x.ref_ptr.1 a.κ) $ split ! $
    pure_i ! at (tt, (tt, tt)) p $ fjoin ! $ frame ! $ pure_i ! at (tt, (tt, tt)) p $ done !)

module _ {M : Type 1} {𝓤 : Ura M} {𝓛 : Logic 𝓤} {K : Type 0} {Γ : List (Item 𝓤)} {G : Goal 𝓤 𝓛.H} where
  pub cuts_first : K → Soaks G → (R : RattleType) → Cp R → (a : Shared R.Denot) (k : ℕ)
      → Seq K 𝓛 (‵ (common 𝓛 R (prefix_of a k)) ∷ token 𝓛 a.κ a.q ∷ ‵ (common 𝓛 R a) ∷ Γ) G → Seq K 𝓛 (‵ (common 𝓛 R a) ∷ token 𝓛 a.κ a.q ∷ Γ) G
  cuts_first t so R copy a k s =
      let part = slice_val a.x.ref_ptr (length (take k a.x.now)) ∷ [] in
      use1 𝓛 (‵ (common 𝓛 R a) ⊛ ‵ (common 𝓛 R a)) (twice 𝓛 R copy a) $ split t $
      fsplit t $ fsplit t $ drop t $ fjoin t $ move t (0 ∷ 2 ∷ []) $
      use2 𝓛 (later (‵ ((ShrSlice erased a.κ R).own_val (prefix_of a k).x) ⊛ token 𝓛 a.κ a.q))
      (shs_prefix_same 𝓛 R a.κ a.q a.x.ref_ptr.0 a.x.ref_ptr.1 a.x.now k) $ await t so $ split t $ fsplit t $
      feq_i t (List Val) part part refl $ fjoin t $ fjoin t $ s
