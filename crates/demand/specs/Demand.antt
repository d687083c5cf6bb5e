-- The demand on the tree and its sheet of a run q, clause by clause. proofs/Demand.antt has it for every run with m and n at least 1: any threshold,
-- forbidden list, stored segments and gain. ("Demand 3 then reads stored segments for seeded ones.") Assumes nothing.
use Rattle.std.specs.Prelude.{◌≡◌, ◌↔◌, true, false, List, map, ℕ, ◌+◌, ◌-◌, ◌/◌, ◌≤◌, ◌<◌, Float, length}
use Rattle.std.proofs.Math.Option.{none, some}
use Rattle.std.specs.Float.Ieee.{lt}
use Rattle.scope.specs.Lists.{◌∈◌, Distinct}
use Rattle.scope.specs.Allowed.{Pair, Ascending}
use Rattle.scope.specs.Greatest.{numeric, FirstGreatest}
use Rattle.scope.specs.Grid.{Record}
use Rattle.scope.specs.Layers.{Segment}
use Rattle.scope.specs.Tree.{Run, direct, stored_records, inside, choice, cut, Tree, grown, tree_of, records_of, Node, nodes, node_count, cuts, sheet, most_nodes}
use Rattle.demand.specs.Reached.{ruling, is_cut, Reached, Chosen, CutAt, CutBy, CameFrom}
use Rattle.demand.specs.Grows.{Grows, directs}
use Rattle.demand.specs.Offered.{Offered, Greatest}
use Rattle.demand.specs.Spaced.{Spaced, last_gap}
use Rattle.demand.specs.Told.{segment_of, Told}
use Rattle.demand.specs.AllZero.{AllZero}
use Rattle.demand.specs.Levels.{levels, most_levels}

pub record Demand (q : Run) : Type 0 where
  -- ---- the sheet
  -- a row is on the sheet exactly if some reached segment is cut there
  pub exact : (x : ℕ) → x ∈ sheet (tree_of q) ↔ CutAt q x
  -- and its record is the chosen one
  pub exact_record : (r : Record) → r ∈ cuts (tree_of q) ↔ Chosen q r
  -- strictly ascending, so each once
  pub ascending : Ascending 0 (sheet (tree_of q))
  -- no cut lies in a forbidden (a, b]
  pub free : (x : ℕ) → x ∈ sheet (tree_of q) → (a b : ℕ) → Pair a b q.forbidden → a < x → x ≤ b → ⊥
  -- with cuts, every gap, the run's ends included, is at least m, and the last more than m, with the closed end at least m
  pub gaps : 0 < length (sheet (tree_of q)) → Spaced q.shortest.m (last_gap q.shortest) 0 (sheet (tree_of q)) q.n
  -- ---- when a segment is cut
  -- a segment is cut exactly when the greatest of the numeric gains, over its own allowed rows and those of the stored segments inside it, exceeds the threshold
  pub when : (start stop : ℕ) → (is_cut (ruling q start stop) ≡ true) ↔ ((g : Float) × Greatest q start stop g × (lt q.threshold g ≡ true))
  -- where one of those gains is numeric, there is a greatest
  pub some_numeric : (start stop : ℕ) (h : Float) → Offered q start stop h → numeric h ≡ true → (g : Float) × Greatest q start stop g
  -- where none is, the segment is never cut, at any threshold, minus infinity included
  pub none_numeric : (start stop : ℕ) → ((h : Float) → Offered q start stop h → numeric h ≡ false) → is_cut (ruling q start stop) ≡ false
  -- the chosen record of a cut: inside the segment, its split an allowed row of its own ends, its gain the gain there, and above the threshold
  pub by : (start stop : ℕ) (r : Record) → ruling q start stop ≡ cut r → CutBy q start stop r
  -- ---- the choice, among any stored records
  -- the direct record, unless a stored record inside is strictly greater; then the earliest with the greatest
  pub first : (rs : List Record) (start stop : ℕ) (d : Record) → direct q start stop ≡ some d → (c : Record) × (choice q rs start stop ≡ some c) × FirstGreatest d (inside start stop rs) c
  -- and none where there is no direct record
  pub no_direct : (rs : List Record) (start stop : ℕ) → direct q start stop ≡ none → choice q rs start stop ≡ none
  -- the choice's origin tells where it comes from
  pub from : (start stop : ℕ) (r : Record) → choice q (stored_records q) start stop ≡ some r → CameFrom q start stop r
  -- ---- the records made while the tree grows
  -- they change no choice: the tree is the one that the stored segments' records alone give
  pub unmoved : Grows q 0 q.n (tree_of q)
  -- and there is no other such tree
  pub only : (t : Tree) → Grows q 0 q.n t → t ≡ tree_of q
  -- they are the direct records of its segments, in preorder
  pub made : (grown q).made ≡ directs q (tree_of q)
  -- ---- the node list
  -- the nodes are the reached segments
  pub shown : (s : Segment) → s ∈ map segment_of (nodes 0 (tree_of q)) ↔ Reached q s.start s.stop
  -- each once
  pub once : Distinct (map segment_of (nodes 0 (tree_of q)))
  -- each with its choice, significant exactly if it is cut, and the places of both parts, 0 and 0 for a leaf
  pub told : (d : Node) → d ∈ nodes 0 (tree_of q) → Told q (map segment_of (nodes 0 (tree_of q))) d
  -- ---- how many
  -- the number of nodes is the preorder's length
  pub counted : (p : ℕ) → node_count (tree_of q) ≡ length (nodes p (tree_of q))
  -- it is at most B = max(1, 2*floor((n-1)/m)-1), with the closed end max(1, 2*floor(n/m)-1)
  pub few_nodes : node_count (tree_of q) ≤ most_nodes q.n q.shortest
  -- all-zero readings reach that bound, at a threshold below 0 and with nothing forbidden
  pub most_nodes_lem : (cells : List Float) (d : ℕ) → AllZero q cells d → node_count (tree_of q) ≡ most_nodes q.n q.shortest
  -- at most max(1, floor((n-1)/m)) levels, with the closed end max(1, floor(n/m)), which is how deep growth calls itself
  pub few_levels : levels (tree_of q) ≤ most_levels q.n q.shortest
  -- all-zero readings reach that bound too
  pub most_levels_lem : (cells : List Float) (d : ℕ) → AllZero q cells d → levels (tree_of q) ≡ most_levels q.n q.shortest
  -- at most (B-1)/2 cuts
  pub few_cuts : length (sheet (tree_of q)) ≤ (most_nodes q.n q.shortest - 1) / 2
  -- at most a record for each stored segment, and B more
  pub few_records : length (records_of q) ≤ length q.segments + most_nodes q.n q.shortest
