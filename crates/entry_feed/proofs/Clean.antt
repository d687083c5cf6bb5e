-- What holds where an opening is not refused, and where a lot is not. Assumes nothing.
use mathlib.Core.Path.{◌≡◌}
use mathlib.Core.List.{List}
use Prim.Native.Nat.{ℕ, ◌+◌, ◌*◌, ◌≤◌}
use native.Mathlib.Nat.{add-mul}
use native.Mathlib.Omega.{arith}
use borrow.Author.Tests.{ltb-false}
use lib.Ieee.{Float}
use lib.ListN.{length}
use Rattle.scope.specs.Refusals.{most_rows}
use Rattle.scope.specs.Feed.{State, OpenAsked, open_tests, open_refusal, cells_in, sums_in, feed_tests, feed_refusal}
use Rattle.control.proofs.Clean.{passed}
use Rattle.control.proofs.Sizes.{sizes, product_small}

pub open_fits : (a : OpenAsked) → open_refusal a ≡ 0 → a.d ≤ a.room
unfolding open_refusal
open_fits a e = let p = passed (open_tests a) tt e in omega (arith, ltb-false a.room ((a.n + 1) * a.d) p.1.0, add-mul a.n 1 a.d)

-- the lot's cells, behind those before, are within the run's, and so are their sums; all these numbers are small
pub record FeedClean (s : State) (lot : List Float) (room : ℕ) : Type 0 where
  pub few : s.count + length lot ≤ 262208
  pub fits : s.d + s.count + length lot ≤ room

pub feed_clean : (s : State) (lot : List Float) (room : ℕ) → feed_refusal s lot room ≡ 0 → FeedClean s lot room
unfolding feed_refusal
feed_clean s lot room e =
    let p = passed (feed_tests s lot room) tt e in
    let w = sizes most_rows s.n s.d p.0 in
    let fits = ltb-false room (sums_in s) p.1.1.0 in
    let few = ltb-false (cells_in s) (s.count + length lot) p.1.1.1.0 in
    record {
      few = omega (arith, few, product_small s.n s.d (omega (arith, w.rows)) w.columns.1);
      fits = omega (arith, few, fits, add-mul s.n 1 s.d);
    }
