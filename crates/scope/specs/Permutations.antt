-- Permutation count.
use Rattle.std.specs.Prelude.{Bool, true, false, cond, ◌&&◌, ◌||◌, not, List, [], ◌∷◌, ℕ, zero, suc, ◌+◌, ◌-◌, ◌*◌, ltb, eqb, Float, length, take, drop}
use Rattle.std.specs.Float.Ieee.{le}
use Rattle.scope.specs.Floats.{◌⊕◌, ◌⊘◌, whole}
use Rattle.scope.specs.Lists.{at, upward, select, every}
use Rattle.scope.specs.Asked.{Shortest}
use Rattle.scope.specs.Refusals.{Test, test, most_permutations}

-- ---- 11: "a permutation lacks an index of 0..L-1, holds one twice or out of range; list length not P*L, or P > 999"

-- how often i stands in the list
abbrev pub times : ℕ → List ℕ → ℕ
times i l = length (select (λ j. eqb i j) l)

-- each index of 0..L-1 stands there exactly once, and nothing else does
unfoldable pub is_permutation : ℕ → List ℕ → Bool
is_permutation L l = every (λ i. eqb (times i l) 1) (upward 0 L) && every (λ v. ltb v L) l

-- the permutation number p of a list of permutations, one after another
abbrev pub block : ℕ → List ℕ → ℕ → List ℕ
block L permutations p = take L (drop (p * L) permutations)

unfoldable pub wrong_permutations : ℕ → ℕ → List ℕ → Bool
wrong_permutations P L permutations =
    ltb most_permutations P || not (eqb (length permutations) (P * L)) || not (every (λ p. is_permutation L (block L permutations p)) (upward 0 P))

abbrev pub no11 : ℕ → ℕ → List ℕ → Test
no11 P L permutations = test (wrong_permutations P L permutations) 11

-- ---- "From each base sum, add the first m-1 permuted deltas; then for L-2m+1 more, add each curve's delta in order and stop this permutation at the first sum >= the observed maximum."

-- each curve's delta of the index i, added to that curve's sum
unfoldable pub add_deltas : List (List Float) → ℕ → List Float → List Float
add_deltas [] i sums = sums
add_deltas (c ∷ cs) i [] = []
add_deltas (c ∷ cs) i (s ∷ sums) = (s ⊕ at c i) ∷ add_deltas cs i sums

-- the sums after some indices
unfoldable pub added : List (List Float) → List ℕ → List Float → List Float
added curves [] sums = sums
added curves (i ∷ is) sums = added curves is (add_deltas curves i sums)

-- some sum is at least the maximum
abbrev pub reached : Float → List Float → Bool
reached maximum sums = not (every (λ s. not (le maximum s)) sums)

-- whether a sum reaches the maximum after one of the indices
unfoldable pub reaches : List (List Float) → Float → List ℕ → List Float → Bool
reaches curves maximum [] sums = false
reaches curves maximum (i ∷ is) sums =
    let next = add_deltas curves i sums in
    let later = reaches curves maximum is next in
    cond (reached maximum next) true later

-- one permutation; "Permutations still test L-2m+1 sums in both settings, and L = 2m is then admitted."
unfoldable pub exceeds : Shortest → ℕ → List Float → List (List Float) → Float → List ℕ → Bool
exceeds s L bases curves maximum permutation =
    reaches curves maximum (take (L - 2 * s.m + 1) (drop (s.m - 1) permutation)) (added curves (take (s.m - 1) permutation) bases)

-- "Counter starts at 1": after the first P permutations
unfoldable pub counter : Shortest → ℕ → List Float → List (List Float) → Float → List ℕ → ℕ → ℕ
counter s L bases curves maximum permutations zero = 1
counter s L bases curves maximum permutations (suc p) =
    counter s L bases curves maximum permutations p + cond (exceeds s L bases curves maximum (block L permutations p)) 1 0

-- "p = counter/(P+1)"
abbrev pub p_value : ℕ → ℕ → Float
p_value counted P = whole counted ⊘ whole (P + 1)

-- "significant if p <= alpha"
abbrev pub is_significant : Float → Float → Bool
is_significant p alpha = le p alpha
