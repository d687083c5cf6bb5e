-- What a node list tells of the segments: each with its choice and the places of its parts. Assumes nothing.
use Rattle.std.specs.Prelude.{◌≡◌, false, List, ℕ, get_or}
use Rattle.scope.specs.Grid.{Record}
use Rattle.scope.specs.Layers.{Segment}
use Rattle.scope.specs.Tree.{Run, stored_records, choice, cut, Node}
use Rattle.demand.specs.Reached.{ruling, is_cut}

-- a node's segment
abbrev pub segment_of : Node → Segment
segment_of d = record { start = d.start; stop = d.stop }

-- s stands at the place k of the list: there is something there, so that what would be read past the end does not matter
abbrev pub Placed : List Segment → ℕ → Segment → Type 0
Placed ss k s = (past : Segment) → get_or ss k past ≡ s

-- what the node d tells, ss being the segments of the node list: its segment's choice, if any; whether that is cut; and the places of both parts,
-- 0 and 0 for a leaf
pub record Told (q : Run) (ss : List Segment) (d : Node) : Type 0 where
  pub choice_is : d.choice ≡ choice q (stored_records q) d.start d.stop
  pub significant_is : d.significant ≡ is_cut (ruling q d.start d.stop)
  pub left_is : (r : Record) → ruling q d.start d.stop ≡ cut r → Placed ss d.left (record { start = d.start; stop = r.split })
  pub right_is : (r : Record) → ruling q d.start d.stop ≡ cut r → Placed ss d.right (record { start = r.split; stop = d.stop })
  pub leaf_is : is_cut (ruling q d.start d.stop) ≡ false → (d.left ≡ 0) × (d.right ≡ 0)
