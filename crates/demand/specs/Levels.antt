-- The levels of a tree. Growth makes one call for each node, inside the call for the node above it: so this is how deep its calls go. Assumes nothing.
use Rattle.std.specs.Prelude.{ℕ, suc, ◌-◌, ◌/◌, max}
use Rattle.scope.specs.Asked.{Shortest, end_of}
use Rattle.scope.specs.Tree.{Tree, leaf, node}

-- a leaf has one; a node one more than the greater of its parts'
unfoldable pub levels : Tree → ℕ
levels (leaf start stop o) = 1
levels (node start stop c l r) = suc (max (levels l) (levels r))

-- the most that the tree of n rows has: max(1, floor((n-1)/m)), with the closed end max(1, floor(n/m))
abbrev pub most_levels : ℕ → Shortest → ℕ
most_levels n s = max 1 ((end_of s n - 1) / s.m)
