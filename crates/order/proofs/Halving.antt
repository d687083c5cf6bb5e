-- The two halves of a run, each in order: what a merge asks of them, and what it gives. Assumes nothing.
use Rattle.std.proofs.Common.{◌≡◌, List, ℕ, ◌+◌, ◌≤◌, arith, length}
use lib.Ieee.{Float}
use Rattle.scope.specs.Neighbours.{ordered}
use Rattle.scope.proofs.Ordering.{ordered_length}
use Rattle.order.specs.Rows.{merged, Numeric, Measured, Halves}
use Rattle.order.proofs.Ordered.{below_ordered, ascends_ordered}
use Rattle.order.proofs.Merging.{merged_ordered}

module _ (ds : List Float) (ok : Numeric ds) (lo m k : ℕ) {a b : List ℕ} (first : a ≡ ordered ds lo m) (second : b ≡ ordered ds (lo + m) k) where
  pub merged_halves : merged ds a b ≡ ordered ds lo (m + k)
  merged_halves = rw (first, second) (merged_ordered ds ok lo m k)

  pub halves_length : length a + length b ≡ m + k
  halves_length = rw (first, second, ordered_length ds lo m, ordered_length ds (lo + m) k)

  pub halves : length ds ≤ 1024 → lo + m + k ≤ length ds → m ≤ k → k ≤ m + 1 → Halves ds a b
  halves few inside even odd =
      rw (first, second)
      (record {
        numbers = ok;
        even = rw (ordered_length ds lo m, ordered_length ds (lo + m) k) even;
        odd = rw (ordered_length ds lo m, ordered_length ds (lo + m) k) odd;
        first = run lo m (omega arith);
        second = run (lo + m) k inside;
        first_order = ascends_ordered ds ok lo m;
        second_order = ascends_ordered ds ok (lo + m) k;
      })
    where
      run : (lo k : ℕ) → lo + k ≤ length ds → Measured ds (ordered ds lo k)
      run lo k h = record { few = few; size = omega (arith, ordered_length ds lo k); rows = below_ordered ds (length ds) lo k h }
