-- Rows in order: an insertion's two cases, the rows' bound, and that none is nearer than one before it. Assumes nothing.
use mathlib.Core.Path.{◌≡◌, refl}
use mathlib.Core.Logic.{inl, inr}
use mathlib.Core.Bool.{Bool, true, false}
use mathlib.Core.List.{List, [], ◌∷◌}
use Prim.Native.Nat.{ℕ, zero, suc, ◌+◌, ◌≤◌, ◌<◌}
use native.Mathlib.Omega.{arith}
use lib.Ieee.{Float}
use lib.ListN.{length, get_or, drop, length-drop}
use lib.Seq.{get_or-drop}
use Rattle.scope.specs.Floats.{+0}
use Rattle.scope.specs.Neighbours.{is_nearer, insert, ordered}
use Rattle.scope.specs.Sorted.{Before, Sorted}
use Rattle.scope.proofs.Members.{at_in}
use Rattle.scope.proofs.Order.{both, lt_co, lt_asym, lt_irrefl}
use Rattle.scope.proofs.Ordering.{ordered_rows, ordered_sorted}
use Rattle.order.specs.Rows.{Below, Ascends, Numeric}

-- which value stands for those beyond a list's end does not matter before it
pub default : (l : List Float) (i : ℕ) (d e : Float) → i < length l → get_or l i d ≡ get_or l i e
default [] i d e h = absurd (omega arith)
default (x ∷ l) zero d e h = refl
default (x ∷ l) (suc i) d e h = default l i d e (omega arith)

-- what is left of a list
pub below_drop : (n : ℕ) (l : List ℕ) (k : ℕ) → Below n l → Below n (drop k l)
below_drop n l k h i p = rw (get_or-drop k l i 0) (h (k + i) (omega (arith, length-drop k l)))

module _ (ds : List Float) where
  pub later : (x y : ℕ) (l : List ℕ) → is_nearer ds y x ≡ true → insert ds x (y ∷ l) ≡ y ∷ insert ds x l
  unfolding insert
  later x y l e = rw e

  pub here : (x y : ℕ) (l : List ℕ) → is_nearer ds y x ≡ false → insert ds x (y ∷ l) ≡ x ∷ y ∷ l
  unfolding insert
  here x y l e = rw e

  pub below_ordered : (N lo n : ℕ) → lo + n ≤ N → Below N (ordered ds lo n)
  below_ordered N lo n h i k = let w = (ordered_rows ds lo n).inside (get_or (ordered ds lo n) i 0) (at_in (ordered ds lo n) i 0 k) in omega arith

  no_nearer_later : (x y : ℕ) → Before ds x y → is_nearer ds y x ≡ false
  no_nearer_later x y (inl h) = lt_asym (get_or ds x +0) (get_or ds y +0) h
  no_nearer_later x y (inr h) = h.0

  sorted_ascends : (l : List ℕ) → Sorted ds l → Ascends ds l
  sorted_ascends [] s i j p q = absurd (omega arith)
  sorted_ascends (x ∷ l) s zero zero p q = lt_irrefl (get_or ds x +0)
  sorted_ascends (x ∷ l) s zero (suc j) p q = no_nearer_later x (get_or l j 0) (s.0 (get_or l j 0) (at_in l j 0 (omega arith)))
  sorted_ascends (x ∷ l) s (suc i) zero p q = absurd (omega arith)
  sorted_ascends (x ∷ l) s (suc i) (suc j) p q = sorted_ascends l s.1 i j (omega arith) (omega arith)

  module _ (ok : Numeric ds) where
    pub ascends_ordered : (lo n : ℕ) → Ascends ds (ordered ds lo n)
    ascends_ordered lo n = sorted_ascends (ordered ds lo n) (ordered_sorted ds lo n (λ i h k. ok i)).sorted

    -- y is nearer than x, and z is not: y is nearer than z
    pub between : (y z x : ℕ) → is_nearer ds y x ≡ true → is_nearer ds z x ≡ false → is_nearer ds y z ≡ true
    between y z x p q = lt_co (get_or ds y +0) (get_or ds z +0) (get_or ds x +0) (ok z) p q

    -- z is no nearer than y, nor y than x: nor is z than x
    pub no_nearer : (z y x : ℕ) → is_nearer ds z y ≡ false → is_nearer ds y x ≡ false → is_nearer ds z x ≡ false
    no_nearer z y x p q = go (is_nearer ds z x) refl
      where
        go : (t : Bool) → is_nearer ds z x ≡ t → t ≡ false
        go true e = both (between z y x e q) p
        go false e = refl
