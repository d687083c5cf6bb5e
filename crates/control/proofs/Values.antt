-- Finite values, and what a chain over a list's members says of `every`. Assumes nothing.
use mathlib.Core.Path.{◌≡◌, sym, ◌∙◌, refl}
use mathlib.Core.Bool.{Bool, true, false, ◌&&◌}
use mathlib.Core.List.{List, [], ◌∷◌}
use Prim.Native.Nat.{ℕ, ◌<◌}
use lib.ListN.{length}
use lib.Ieee.{Float, nan, inf, fin, lt}
use Rattle.std.specs.Bool.{MatchBool}
use Rattle.std.specs.Float.{float_is_finite}
use Rattle.scope.specs.Floats.{is_finite}
use Rattle.std.specs.List.{list_all, AllWithin, HoldsAt}
use Rattle.std.proofs.Common.{ap, arith}
use Rattle.std.proofs.lemmas.List.Folds.{list_all_at}
use Rattle.std.proofs.lemmas.List.Sums.{list_all-from_AllPass}
use Rattle.scope.specs.Lists.{every}

-- the library's word for a finite value
pub finite_is : (v : Float) → float_is_finite v ≡ is_finite v
unfolding float_is_finite
finite_is nan = refl
finite_is (inf s) = refl
finite_is (fin s m e) = refl

-- below plus infinity, a value is finite exactly where it is above minus infinity
pub finite_below : (v : Float) → lt v (inf false) ≡ true → lt (inf true) v ≡ is_finite v
unfolding lt
finite_below nan h = refl
finite_below (inf true) h = refl
finite_below (inf false) h = sym h
finite_below (fin s m e) h = refl

pub finite_above : (v : Float) → lt v (inf false) ≡ false → false ≡ is_finite v
unfolding lt
finite_above nan h = refl
finite_above (inf s) h = refl
finite_above (fin s m e) h = sym h

module _ {A : Type 0} (p : A → Bool) where
  -- `every` in the library's word
  pub every_is : (l : List A) → every p l ≡ list_all p l
  unfolding every
  every_is [] = refl
  every_is (x ∷ xs) = ap (λ b. p x && b) (every_is xs)

  -- what `all` of a chain over the members answers
  pub every_cases : (l : List A) (b : Bool) → MatchBool b (AllWithin (λ x. p x ≡ true) l 0 (length l)) ((k : ℕ) × (k < length l) × HoldsAt (λ x. p x ≡ false) l k) → b ≡ every p l
  every_cases l true h = sym (every_is l ∙ list_all-from_AllPass p l (λ k d less. h k d (omega arith) less))
  every_cases [] false (k, less, here) = absurd (omega arith)
  every_cases (x ∷ xs) false (k, less, here) = sym (every_is (x ∷ xs) ∙ list_all_at p (x ∷ xs) k x less (here x))
