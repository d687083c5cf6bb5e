-- What the loop of `predict` keeps.
use mathlib.Core.Path.{◌≡◌}
use mathlib.Core.List.{List, ◌++◌}
use Prim.Native.Nat.{ℕ, ◌-◌, ◌≤◌}
use lib.Ieee.{Float}
use lib.ListN.{length, drop}
use Rattle.scope.specs.Rounding.{whole_root}
use Rattle.scope.specs.Neighbours.{predictions}
use Rattle.knn.proofs.predict.Given as goal

-- k is the root of the segment's length, and out₀ as long as the segment
pub record State (cells : List Float) (n d start stop split k : ℕ) (out₀ out : List Float) (i : ℕ) : Type 0 where
  pub root : k ≡ whole_root (stop - start)
  pub few : k ≤ stop - start
  pub size : length out₀ ≡ stop - start
  pub held : out ≡ predictions cells n d start stop split i ++ drop i out₀

abbrev pub invariant-loop-i : goal.invariant-loop-i
invariant-loop-i l = State l.matrix.cells.now l.matrix.n l.matrix.d l.segment.start.0 l.segment.stop.0 l.split.0 l.k l.initial.prediction-items l.prediction-items l.i
