-- What the loop of `sort_few` keeps.
use mathlib.Core.Path.{◌≡◌}
use mathlib.Core.List.{List}
use Prim.Native.Nat.{ℕ, ◌+◌, ◌-◌, ◌≤◌}
use lib.Ieee.{Float}
use lib.ListN.{length, drop}
use Rattle.scope.specs.Neighbours.{ordered}
use Rattle.order.proofs.sort_few.Given as goal

pub record State (ds : List Float) (lo : ℕ) (out₀ out : List ℕ) (k : ℕ) : Type 0 where
  pub within : k ≤ length out₀
  pub long : length out ≡ length out₀
  pub held : drop k out ≡ ordered ds (lo + k) (length out₀ - k)

abbrev pub invariant-loop-k : goal.invariant-loop-k
invariant-loop-k l = State l.ds l.lo l.initial.out l.out l.k
