-- What a call for the tree leaves: its answer, and what each lent slice holds; and of a run that is not refused, the demand on its tree and its sheet.
use Rattle.std.specs.Prelude.{◌≡◌, List, map, ℕ, Float, length, Result, Ok}
use Rattle.scope.specs.Lists.{holding}
use Rattle.scope.specs.Asked.{Matrix, Settings}
use Rattle.scope.specs.Tree.{Run}
use Rattle.scope.specs.Calls.{TreeTold, run_of, tree_call}
use Rattle.scope.specs.Feed.{State, FedAsked, fed_run, fed_call}
use Rattle.control.specs.declared.refusal.Refusal.{Refusal}
use Rattle.control.specs.Refused.{told}
use Rattle.demand.specs.Demand.{Demand}
use Rattle.stored.specs.Flat.{record_room}
use Rattle.segmentation.specs.Segments.{Slices as RecordSlices, Held}
use Rattle.node.specs.declared.Node.{Node}
use Rattle.node.specs.Nodes.{to_node}
use Rattle.prepared.specs.Answers.{tree_asked}
use Rattle.entry_tree.specs.declared.Grown.{Grown}
use Rattle.entry_tree.specs.Answers.{to_counts, node_room}

-- the lent slices: sums, records flat, nodes, cuts
pub record Slices : Type 0 where
  pub sums : List Float
  pub rows : List ℕ
  pub gains : List Float
  pub nodes : List Node
  pub cuts : List ℕ

abbrev pub record_slices : Slices → RecordSlices
record_slices l = record { sums = l.sums; rows = l.rows; gains = l.gains }

-- what was told of the run q: the tree's nodes, its records, its cuts, and the prefix sums
pub record RunLeft (what : TreeTold) (q : Run) (r : Result Grown Refusal) (before after : Slices) : Type 0 where
  pub answer : told to_counts r ≡ what.answer
  pub held : Held what.sums what.records (record_slices before) (record_slices after)
  pub nodes : after.nodes ≡ holding (map to_node what.nodes) before.nodes
  pub cuts : after.cuts ≡ holding what.cuts before.cuts
  pub demand : (g : Grown) → r ≡ Ok g → Demand q

-- ---- from a matrix: what follows where these are lent
abbrev pub tree_told : Matrix → Settings → Slices → TreeTold
tree_told x s lent = tree_call (tree_asked x s (record_slices lent) (length lent.nodes) (length lent.cuts))

abbrev pub TreeLeft : Matrix → Settings → Result Grown Refusal → Slices → Slices → Type 0
TreeLeft x s r before after = RunLeft (tree_told x s before) (run_of x s) r before after

-- ---- from the sums of a fed run, which stay
abbrev pub fed_asked : State → Settings → Slices → FedAsked
fed_asked st s lent =
    record { state = st; settings = s; sums = lent.sums; records = record_room lent.rows lent.gains; nodes = length lent.nodes; cuts = length lent.cuts }

abbrev pub FedLeft : State → Settings → Result Grown Refusal → Slices → Slices → Type 0
FedLeft st s r before after = RunLeft (fed_call (fed_asked st s before)) (fed_run st s before.sums) r before after

-- ---- for a caller with no use for the nodes: their room is that of any run's
abbrev pub points_told : Matrix → Settings → RecordSlices → List ℕ → TreeTold
points_told x s lent cuts = tree_call (tree_asked x s lent node_room (length cuts))

-- the tree's records, its cuts, and the prefix sums
pub record PointsLeft (x : Matrix) (s : Settings) (r : Result Grown Refusal) (before after : RecordSlices) (cuts₀ cuts₁ : List ℕ) : Type 0 where
  pub answer : told to_counts r ≡ (points_told x s before cuts₀).answer
  pub held : Held (points_told x s before cuts₀).sums (points_told x s before cuts₀).records before after
  pub cuts : cuts₁ ≡ holding (points_told x s before cuts₀).cuts cuts₀
  pub demand : (g : Grown) → r ≡ Ok g → Demand (run_of x s)
