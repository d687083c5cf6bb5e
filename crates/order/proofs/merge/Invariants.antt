-- What the loop of `merge` keeps.
use mathlib.Core.Path.{◌≡◌}
use mathlib.Core.List.{List, ◌++◌}
use Prim.Native.Nat.{ℕ, ◌+◌, ◌-◌, ◌≤◌}
use lib.Ieee.{Float}
use lib.ListN.{length, take, drop}
use Rattle.order.specs.Rows.{merged}
use Rattle.order.proofs.merge.Given as goal

pub record State (ds : List Float) (a b : List ℕ) (n : ℕ) (out : List ℕ) (taken left k : ℕ) : Type 0 where
  pub turns : k ≤ length a
  pub firsts : taken ≤ k
  pub lasts : left ≤ length a
  pub behind : length a ≤ left + k
  pub long : length out ≡ n
  pub front : take k out ++ merged ds (drop taken a) (drop (k - taken) b) ≡ merged ds a b
  pub back : merged ds (take left a) (take (n - k - left) b) ++ drop (n - k) out ≡ merged ds a b

abbrev pub invariant-loop-k : goal.invariant-loop-k
invariant-loop-k l = State l.ds l.a l.b (length l.initial.out) l.out l.taken l.left l.k
