-- `node_room` is room for the nodes of any run: with it, the nodes never cause a refusal. Assumes nothing.
use mathlib.Core.Path.{◌≡◌, refl, sym, ◌∙◌, ap}
use mathlib.Core.Bool.{Bool, true, false}
use mathlib.Core.List.{List, [], ◌∷◌, ◌++◌}
use Prim.Native.Nat.{ℕ, ◌+◌, ◌-◌, ◌/◌, ◌≤◌}
use native.Mathlib.Nat.{div-le_self}
use native.Mathlib.Omega.{arith}
use borrow.Author.Tests.{le-ltb}
use lib.Dec.{ltb}
use Rattle.scope.specs.Asked.{Matrix, Shortest, one_more, end_of, Settings}
use Rattle.scope.specs.Refusals.{Test, test, first_of, wrong_matrix, most_rows, no2, no3, no4, no5, no7}
use Rattle.scope.specs.Draws.{most_stored, source_tests, no8_draws}
use Rattle.scope.specs.Tree.{most_nodes}
use Rattle.scope.specs.Calls.{sums_room, TreeAsked, tree_refusal}
use Rattle.scope.proofs.Candidates.{one_at_most}
use Rattle.control.proofs.Sizes.{matrix}
use Rattle.entry_tree.specs.Answers.{node_room}

pub room_is : node_room ≡ 8191
unfolding one_more
room_is = refl

enough : (n : ℕ) (short : Shortest) → n ≤ most_rows → most_nodes n short ≤ node_room
enough n short h = omega (arith, room_is, div-le_self (end_of short n - 1) short.m, one_at_most short)

-- the same number is given as with room for exactly the run's nodes
module _ (x : Matrix) (s : Settings) (sums records cuts : ℕ) where
  abbrev most : ℕ
  most = most_nodes x.n s.shortest

  abbrev with : ℕ → TreeAsked
  with nodes = record { matrix = x; settings = s; room = record { sums = sums; records = records; nodes = nodes; cuts = cuts } }

  abbrev others : Bool → List Test
  others b =
      no2 s.shortest ∷ no3 s.threshold ∷ no4 x.cells ∷ no5 s.forbidden ∷ source_tests s.source
      ++ (no7 (sums_room x) sums ∷ no7 (most_stored s.source + most) records ∷ test b 7 ∷ no7 ((most - 1) / 2) cuts ∷ no8_draws x.n s.source ∷ [])

  pub nodes_fit : tree_refusal (with node_room) ≡ tree_refusal (with most)
  unfolding tree_refusal
  nodes_fit = go (wrong_matrix most_rows x.cells x.n x.d) refl
    where
      go : (z : Bool) → wrong_matrix most_rows x.cells x.n x.d ≡ z → first_of (test z 1 ∷ others (ltb node_room most)) ≡ first_of (test z 1 ∷ others (ltb most most))
      go true e = refl
      go false e = ap (λ (b : Bool). first_of (others b)) (le-ltb node_room most (enough x.n s.shortest (matrix most_rows x.cells x.n x.d e).rows.1) ∙ sym (le-ltb most most (omega arith)))
