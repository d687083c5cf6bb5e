-- What is answered with, as the definitions' counts; the room for nodes that is always enough.
use Rattle.std.specs.Prelude.{ℕ}
use Rattle.scope.specs.Asked.{on}
use Rattle.scope.specs.Refusals.{most_rows}
use Rattle.scope.specs.Tree.{most_nodes}
use Rattle.scope.specs.Calls.{Counts}
use Rattle.entry_tree.specs.declared.Grown.{Grown}

abbrev pub to_counts : Grown → Counts
to_counts g = record { nodes = g.counts.nodes; records = g.counts.records; cuts = g.counts.cuts; stored = g.stored }

-- room for the nodes of any run: those of the most rows at m = 1, with the closed end
abbrev pub node_room : ℕ
node_room = most_nodes most_rows (on 1)
