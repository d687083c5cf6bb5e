-- Tests of the curves that are lent with a count. Assumes nothing.
use mathlib.Core.Path.{◌≡◌, refl, ◌∙◌}
use mathlib.Core.Bool.{Bool, true, false, ◌&&◌}
use mathlib.Core.List.{List, [], ◌∷◌, ◌++◌, flatten}
use Prim.Native.Nat.{ℕ, zero, suc}
use lib.Dec.{eqb}
use lib.Ieee.{Float}
use lib.ListN.{length, take}
use Rattle.std.specs.List.{list_all, take-map}
use Rattle.scope.specs.Floats.{is_finite}
use Rattle.scope.specs.Lists.{every}
use Rattle.scope.proofs.Every.{every_append}
use Rattle.classifier_gain.specs.Asked.{bases_of, deltas_of, curve_is_finite}
use Rattle.classifier_gain.specs.declared.Curve.{Curve}

pub every_flatten : {A : Type 0} (p : A → Bool) (ls : List (List A)) → every p (flatten ls) ≡ every (λ l. every p l) ls
unfolding every flatten
every_flatten p [] = refl
every_flatten p (l ∷ ls) = every_append p l (flatten ls) ∙ rw (every_flatten p ls)

-- of the first k curves, all bases and all deltas are finite exactly if each curve is
finite_each : (k : ℕ) (curves : List Curve) → (every is_finite (take k (bases_of curves)) && every (λ m. every is_finite m) (take k (deltas_of curves))) ≡ list_all curve_is_finite (take k curves)
unfolding every
finite_each zero curves = refl
finite_each (suc k) [] = refl
finite_each (suc k) (c ∷ cs) = regroup (is_finite c.base) _ (every is_finite c.deltas.now) _ ∙ rw (finite_each k cs)
  where
    regroup : (a b d e : Bool) → ((a && b) && (d && e)) ≡ ((a && d) && (b && e))
    regroup true true d e = refl
    regroup true false true e = refl
    regroup true false false e = refl
    regroup false b d e = refl

-- with the observed maximum before them
pub finite_joined : (maximum : Float) (k : ℕ) (curves : List Curve) → every is_finite (maximum ∷ (take k (bases_of curves) ++ flatten (take k (deltas_of curves)))) ≡ (is_finite maximum && list_all curve_is_finite (take k curves))
unfolding every
finite_joined maximum k curves = rw (every_append is_finite (take k (bases_of curves)) (flatten (take k (deltas_of curves))), every_flatten is_finite, finite_each k curves)

-- they have the length l exactly if each has
pub long_each : (l k : ℕ) (curves : List Curve) → every (λ c. eqb (length c) l) (take k (deltas_of curves)) ≡ list_all (λ c. eqb (length c.deltas.now) l) (take k curves)
unfolding every
long_each l zero curves = refl
long_each l (suc k) [] = refl
long_each l (suc k) (c ∷ cs) = rw (long_each l k cs)

pub deltas_within : (k : ℕ) (curves : List Curve) → take k (deltas_of curves) ≡ deltas_of (take k curves)
deltas_within k curves = take-map (λ c. c.deltas.now) k curves
