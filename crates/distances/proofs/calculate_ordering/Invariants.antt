-- What the loop of `calculate_ordering` keeps.
use mathlib.Core.Path.{◌≡◌}
use mathlib.Core.List.{List, ◌++◌}
use Prim.Native.Nat.{ℕ, suc, ◌*◌, ◌≤◌}
use lib.Ieee.{Float}
use lib.ListN.{length, take, drop}
use Rattle.scope.specs.Neighbours.{distances, orders}
use Rattle.distances.specs.Matrix.{Orderable}
use Rattle.distances.proofs.calculate_ordering.Given as goal

pub record State (cells : List Float) (n d : ℕ) (ordering₀ ordering : List ℕ) (ds₀ ds : List Float) (i : ℕ) : Type 0 where
  pub matrix : Orderable cells n d
  pub room : n * n ≤ length ordering₀
  pub width : n ≤ length ds₀
  pub turns : i ≤ n
  pub long : length ordering ≡ length ordering₀
  pub wide : length ds ≡ length ds₀
  pub held : ordering ≡ orders cells n d i ++ drop (i * n) ordering₀
  pub last : (k : ℕ) → i ≡ suc k → take n ds ≡ distances cells d k n
  pub kept : drop n ds ≡ drop n ds₀

abbrev pub invariant-loop-i : goal.invariant-loop-i
invariant-loop-i l = State l.matrix.cells.now l.matrix.n l.matrix.d l.initial.ordering l.ordering l.initial.distances l.distances l.i
