-- A gain that is told of a row is a number. Assumes nothing.
use mathlib.Core.Path.{◌≡◌, refl}
use mathlib.Core.Bool.{Bool, true, false, cond, true≢false}
use Prim.Native.Nat.{ℕ}
use lib.Ieee.{Float, nan, inf, fin, is_nan}
use Rattle.scope.specs.Greatest.{numeric}
use Rattle.scope.specs.Layers.{Segment}
use Rattle.scope.specs.Tree.{Run, tree_of}
use Rattle.scope.specs.Why.{Place, at_cut, uncut_in, place_of, is_near, Barring, by, free, first_barring, no_number, not_above, first_reason, by_place, why_of}
use Rattle.scope.proofs.Never.{never}

no_nan : (v : Float) → is_nan v ≡ false → numeric v ≡ true
unfolding is_nan
no_nan nan e = absurd (true≢false e)
no_nan (inf s) e = refl
no_nan (fin s m e) h = refl

module _ (q : Run) (x : ℕ) (v : Float) (g : Segment) where
  by_gain_lem : (gain : Float) (h : Segment) (b : Bool) → is_nan gain ≡ b → cond b (no_number h) (not_above gain h) ≡ not_above v g → numeric v ≡ true
  by_gain_lem gain h true e is = never (cc)
  by_gain_lem gain h false e is = let same : gain ≡ v = cc in no_nan v (rw same at e)

  by_reason : (near : Bool) (b : Barring) (gain : Float) (h : Segment) → first_reason near b gain h ≡ not_above v g → numeric v ≡ true
  by_reason true (by a b) gain h is = never (cc)
  by_reason true free gain h is = never (cc)
  by_reason false (by a b) gain h is = never (cc)
  by_reason false free gain h is = by_gain_lem gain h (is_nan gain) refl is

  pub told_number : why_of q x ≡ not_above v g → numeric v ≡ true
  unfolding why_of
  told_number is = go (place_of x (tree_of q)) is
    where
      go : (p : Place) → by_place q x p ≡ not_above v g → numeric v ≡ true
      go (at_cut h o) is = never (cc)
      go (uncut_in h) is = by_reason (is_near q.shortest h x) (first_barring q.forbidden x) _ h is
