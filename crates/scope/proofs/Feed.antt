-- What a lot leaves in the sums: in a reader's words, and after cells that were taken before it. Assumes nothing.
use mathlib.Core.Path.{◌≡◌, refl, sym, ◌∙◌, ap}
use mathlib.Core.Logic.{◌⊎◌, inl, inr}
use mathlib.Core.Bool.{Bool, true, false}
use mathlib.Core.List.{List, [], ◌∷◌, ◌++◌}
use Prim.Native.Nat.{ℕ, zero, suc, ◌+◌, ◌≤◌, ◌<◌}
use native.Mathlib.Nat.{add-zero, add-suc, add_assoc}
use native.Mathlib.Omega.{arith}
use borrow.Author.Tests.{eqb-true, eqb-false}
use lib.Dec.{eqb}
use lib.Ieee.{Float, nan}
use lib.ListN.{length, drop, set, length-set, get_or-append}
use lib.Seq.{get_or-set_same, get_or-set_other, get_or-append-add}
use Rattle.scope.specs.Lists.{at}
use Rattle.scope.specs.Sums.{plus, flat_sums}
use Rattle.scope.specs.Feed.{fed_sums}
use Rattle.scope.specs.Fed.{Adds}
use Rattle.scope.proofs.Sums.{sums_step}

module _ (lot : List Float) (d c : ℕ) (before : List Float) where
  pub length_fed : (k : ℕ) → length (fed_sums lot d c before k) ≡ length before
  unfolding fed_sums
  length_fed zero = refl
  length_fed (suc k) = rw length-set (length_fed k)

  -- an entry that no cell of the first k is stored at
  stays : (k i : ℕ) → (i < d + c) ⊎ (d + c + k ≤ i) → at (fed_sums lot d c before k) i ≡ at before i
  unfolding fed_sums
  stays zero i h = refl
  stays (suc k) i (inl h) = get_or-set_other (fed_sums lot d c before k) (d + c + k) i _ nan (λ e. omega arith) ∙ stays k i (inl h)
  stays (suc k) i (inr h) = get_or-set_other (fed_sums lot d c before k) (d + c + k) i _ nan (λ e. omega arith) ∙ stays k i (inr (omega arith))

  module _ (some : 0 < d) where
    -- the entry of cell j, once it is stored
    each : (k : ℕ) → d + c + k ≤ length before → (j : ℕ) → j < k → at (fed_sums lot d c before k) (d + c + j) ≡ plus (at lot j) (at (fed_sums lot d c before k) (c + j))
    unfolding fed_sums
    each zero h j l = absurd (omega arith)
    each (suc k) h j l = go (eqb j k) refl (λ b. each k (omega arith) j b)
      where
        was : List Float
        was = fed_sums lot d c before k

        new : Float
        new = plus (at lot k) (at was (c + k))

        -- what stands before it stays: the entry d before it is another
        other : (i : ℕ) → i < d + c + k → at (set was (d + c + k) new) i ≡ at was i
        other i h = get_or-set_other was (d + c + k) i new nan (λ e. omega arith)

        go : (b : Bool) → eqb j k ≡ b → (j < k → at was (d + c + j) ≡ plus (at lot j) (at was (c + j))) → at (set was (d + c + k) new) (d + c + j) ≡ plus (at lot j) (at (set was (d + c + k) new) (c + j))
        go true t rest =
            let e = eqb-true j k t in
            rw (e, other (c + k) (omega arith)) (get_or-set_same was (d + c + k) new nan (let z = length_fed k in omega arith))
        go false t rest = let e = eqb-false j k t in rw (other (d + c + j) (omega arith), other (c + j) (omega arith)) (rest (omega arith))

    pub adds : d + c + length lot ≤ length before → Adds lot d c before (fed_sums lot d c before (length lot))
    adds h = record {
      long = length_fed (length lot);
      each = each (length lot) h;
      earlier = λ i l. stays (length lot) i (inl l);
      later = λ i l. stays (length lot) i (inr l);
    }

-- ---- after cells that were taken before
module _ (taken lot : List Float) (d : ℕ) where
  -- the sums of these don't change by what comes behind
  same_sums : (k : ℕ) → k ≤ length taken → flat_sums (taken ++ lot) d k ≡ flat_sums taken d k
  unfolding flat_sums
  same_sums zero h = refl
  same_sums (suc k) h =
      rw (same_sums k (omega arith)) (ap (λ (x : Float). flat_sums taken d k ++ (plus x (at (flat_sums taken d k) k) ∷ [])) (get_or-append taken lot nan k (omega arith)))

  -- the sums of all
  pub sums_on : (found : List Float) → 0 < d → (k : ℕ) → k ≤ length lot → d + (length taken + k) ≤ length found
      → fed_sums lot d (length taken) (flat_sums taken d (length taken) ++ drop (d + length taken) found) k ≡ flat_sums (taken ++ lot) d (length taken + k) ++ drop (d + (length taken + k)) found
  unfolding fed_sums
  sums_on found some zero h l = rw (add-zero) (ap (λ (s : List Float). s ++ drop (d + length taken) found) (sym (same_sums (length taken) (omega arith))))
  sums_on found some (suc k) h l =
      let c = length taken in
      let before = fed_sums lot d c (flat_sums taken d c ++ drop (d + c) found) k in
      let cell : at (taken ++ lot) (c + k) ≡ at lot k = get_or-append-add taken lot k nan in
      rw (← cell, add_assoc, add-suc) (sums_step (taken ++ lot) d (c + k) found some (sums_on found some k (omega arith) (omega arith)) (omega arith))
