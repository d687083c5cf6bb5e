-- What the loop of `insert_row` keeps.
use mathlib.Core.Path.{◌≡◌}
use mathlib.Core.List.{List, ◌++◌}
use Prim.Native.Nat.{ℕ, ◌+◌, ◌<◌}
use lib.Ieee.{Float}
use lib.ListN.{length, take, drop}
use Rattle.scope.specs.Neighbours.{insert}
use Rattle.order.specs.Rows.{Below}
use Rattle.order.proofs.insert_row.Given as goal

-- what holds once the hole has come to a place
pub record State (ds : List Float) (row : ℕ) (out₀ out : List ℕ) (hole : ℕ) : Type 0 where
  pub within : hole < length out₀
  pub long : length out ≡ length out₀
  pub rows : Below (length ds) (drop (hole + 1) out)
  pub held : take hole out ++ insert ds row (drop (hole + 1) out) ≡ insert ds row (drop 1 out₀)

abbrev pub invariant-loop-next : goal.invariant-loop-next
invariant-loop-next l = (l.next ≡ l.hole + 1) × State l.ds l.row l.initial.out l.out l.hole
