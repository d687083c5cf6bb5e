-- The permutations counted so far, and the curves that they are counted over. Assumes nothing.
use mathlib.Core.Path.{◌≡◌, sym, ◌∙◌}
use mathlib.Core.Bool.{Bool, true, false, cond, not}
use mathlib.Core.List.{List}
use Prim.Native.Nat.{ℕ, zero, suc, ◌+◌, ◌≤◌}
use native.Mathlib.Numerals.{add-one}
use native.Mathlib.Omega.{arith}
use borrow.Author.Tests.{not-false}
use lib.Dec.{eqb}
use lib.Ieee.{Float}
use lib.ListN.{length, take}
use Rattle.scope.specs.Lists.{every}
use Rattle.scope.specs.Asked.{Shortest}
use Rattle.scope.specs.Refusals.{most_length}
use Rattle.scope.specs.Permutations.{block, exceeds, counter}
use Rattle.scope.specs.Calls.{wrong_lengths}
use Rattle.scope.proofs.Candidates.{or_false, not_outside}
use Rattle.std.specs.List.{list_all}
use Rattle.classifier_gain.specs.Asked.{deltas_of}
use Rattle.classifier_gain.specs.declared.Curve.{Curve}
use Rattle.classifier_gain.proofs.Lents.{long_each}

module _ (s : Shortest) (L : ℕ) (bases : List Float) (curves : List (List Float)) (maximum : Float) (permutations : List ℕ) where
  abbrev count : ℕ → ℕ
  count q = counter s L bases curves maximum permutations q

  -- one permutation more
  pub counter_next : (q : ℕ) (b : Bool) → exceeds s L bases curves maximum (block L permutations q) ≡ b → count (q + 1) ≡ count q + cond b 1 0
  unfolding counter
  counter_next q b e = rw (add-one, e)

  pub counter_most : (q : ℕ) → count q ≤ q + 1
  unfolding counter
  counter_most zero = omega arith
  counter_most (suc q) = go (exceeds s L bases curves maximum (block L permutations q)) (counter_most q)
    where
      go : (b : Bool) → count q ≤ q + 1 → count q + cond b 1 0 ≤ suc q + 1
      go true h = omega arith
      go false h = omega arith

-- lengths that are not refused
pub right_lengths : (k L : ℕ) (curves : List Curve) → wrong_lengths L (take k (deltas_of curves)) ≡ false → (L ≤ most_length) × (list_all (λ c. eqb (length c.deltas.now) L) (take k curves) ≡ true)
unfolding wrong_lengths
right_lengths k L curves e =
    let (same, size) = or_false (not (every (λ c. eqb (length c) L) (take k (deltas_of curves)))) _ e in
    ((not_outside most_length L size).1, sym (long_each L k curves) ∙ not-false _ same)
