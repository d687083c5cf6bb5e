-- The tree that the stored segments' records alone give, as a rule with no fuel: each choice is among the direct record and those. Assumes nothing.
use Rattle.std.specs.Prelude.{◌≡◌, List, ◌++◌, ℕ}
use Rattle.std.proofs.Math.Option.{Option}
use Rattle.scope.specs.Grid.{Record}
use Rattle.scope.specs.Layers.{one}
use Rattle.scope.specs.Tree.{Run, direct, uncut, cut, Tree, leaf, node}
use Rattle.demand.specs.Reached.{ruling}

-- [start, stop) grows to a tree: uncut it is a leaf with its choice, if any; cut it is a node with its chosen record and the trees of both parts
pub data Grows (q : Run) : ℕ → ℕ → Tree → Type 0 where
  as_leaf : {start stop : ℕ} {o : Option Record} → ruling q start stop ≡ uncut o → Grows q start stop (leaf start stop o)
  as_node : {start stop : ℕ} {r : Record} {s t : Tree}
      → ruling q start stop ≡ cut r
      → Grows q start r.split s
      → Grows q r.split stop t
      → Grows q start stop (node start stop r s t)

-- the direct records of a tree's segments, in preorder
unfoldable pub directs : Run → Tree → List Record
directs q (leaf start stop o) = one (direct q start stop)
directs q (node start stop r s t) = one (direct q start stop) ++ (directs q s ++ directs q t)
