-- What growing leaves in lent memory: records, nodes and cuts, each appended to those before. Assumes nothing.
use Rattle.std.specs.Prelude.{◌≡◌, true, List, map, ℕ, ◌+◌, ◌-◌, ◌*◌, ◌/◌, ◌≤◌, ◌<◌, Float, length}
use Rattle.std.specs.Float.Ieee.{lt}
use Rattle.std.proofs.lemmas.List.Edits.{sets}
use Rattle.scope.specs.Lists.{◌∈◌, holding}
use Rattle.scope.specs.Asked.{Shortest}
use Rattle.scope.specs.Grid.{Record}
use Rattle.scope.specs.Layers.{StoredSegment, one}
use Rattle.scope.specs.Tree.{Run, direct, stored_records, Verdict, uncut, cut, verdict, Grown, grow, tree_of, records_of, nodes, node_count, sheet, most_nodes}
use Rattle.control.specs.Settings.{shortest_of}
use Rattle.optimizer.specs.Records.{from_record}
use Rattle.stored.specs.Flat.{flat_rows, gains_of, records_in, Put, Standing}
use Rattle.node.specs.declared.Node.{Node as NodeStruct}
use Rattle.verdict.specs.declared.Asked.{Asked}
use Rattle.verdict.specs.Rules.{run_over}
use Rattle.binary_segmentation.specs.declared.tree.Counts.{Counts}
use Rattle.binary_segmentation.specs.declared.tree.Lent.{Lent as LentStruct}
use Rattle.binary_segmentation.specs.declared.tree.Judged.{Judged}
use Rattle.binary_segmentation.specs.declared.tree.Judged.TheVariants.{Uncut, Cut}
use Rattle.node.specs.Nodes.{to_node, leaf_of}

-- the lent slices
pub record Lent : Type 0 where
  pub rows : List ℕ
  pub gains : List Float
  pub nodes : List NodeStruct
  pub cuts : List ℕ

-- those that the struct stands for
abbrev pub lent_of : LentStruct → Lent
lent_of l = record { rows = l.rows.now; gains = l.gains.now; nodes = l.nodes.now; cuts = l.cuts.now }

-- and that it lends the same slices
pub record SameSlices (l l' : LentStruct) : Type 0 where
  pub rows : l'.rows.ghost_name ≡ l.rows.ghost_name
  pub gains : l'.gains.ghost_name ≡ l.gains.ghost_name
  pub nodes : l'.nodes.ghost_name ≡ l.nodes.ghost_name
  pub cuts : l'.cuts.ghost_name ≡ l.cuts.ghost_name

-- the first k stored records
abbrev pub stored : Lent → ℕ → List Record
stored l k = records_in l.rows l.gains k

-- ---- one segment: the code's verdict, with the counts behind the node and the record
abbrev pub judged_of : ℕ → ℕ → Counts → Verdict → Judged
judged_of start stop next (uncut o) = Uncut (to_node (leaf_of start stop o)) next
judged_of start stop next (cut c) = Cut (from_record c) next

abbrev pub behind : Counts → ℕ → Counts
behind at made = record { nodes = at.nodes + 1; records = at.records + made; cuts = at.cuts }

abbrev pub behind_cut : Counts → Counts
behind_cut at = record { nodes = at.nodes; records = at.records; cuts = at.cuts + 1 }

-- the segment [start, stop) is judged after the stored records, and its direct record, if any, appended
pub record Judging (q : Run) (start stop : ℕ) (at : Counts) (rows : List ℕ) (gains : List Float) (rows' : List ℕ) (gains' : List Float) (v : Judged) : Type 0 where
  pub put : Put (one (direct q start stop)) at.records rows gains rows' gains' (at.records + length (one (direct q start stop)))
  pub is : v ≡ judged_of start stop (behind at (length (one (direct q start stop)))) (verdict q (records_in rows gains at.records) start stop)

-- ---- a whole segment, by fuel
-- g's records, nodes and cuts stand from the counts `at` on, and the rest is as it was
pub record Written (g : Grown) (at : Counts) (l l' : Lent) (next : Counts) : Type 0 where
  pub records : Put g.made at.records l.rows l.gains l'.rows l'.gains next.records
  pub nodes : l'.nodes ≡ sets l.nodes at.nodes (map to_node (nodes at.nodes g.tree))
  pub cuts : l'.cuts ≡ sets l.cuts at.cuts (sheet g.tree)
  pub next_node : next.nodes ≡ at.nodes + node_count g.tree
  pub next_cut : next.cuts ≡ at.cuts + length (sheet g.tree)

-- at every fuel that is enough
pub record Growing (q : Run) (start stop : ℕ) (at : Counts) (l l' : Lent) (next : Counts) : Type 0 where
  pub by : (k : ℕ) → stop - start ≤ k → Written (grow q k (stored l at.records) start stop) at l l' next

-- a record whose gain is above anything splits its segment m or more from both ends
abbrev pub Sound : Shortest → List Record → Type 0
Sound short rs = (r : Record) → r ∈ rs → (t : Float) → lt t r.gain ≡ true → (r.start + short.m ≤ r.split) × (r.split + short.m ≤ r.stop)

-- there is room at some fuel that is enough: a node and a record for each segment
pub record Fits (q : Run) (start stop : ℕ) (at : Counts) (l : Lent) : Type 0 where
  pub least : 1 ≤ q.shortest.m
  pub nonempty : start < stop
  pub sound : Sound q.shortest (stored l at.records)
  pub fuel : ℕ
  pub enough : stop - start ≤ fuel
  pub room_rows : 5 * (at.records + node_count (grow q fuel (stored l at.records) start stop).tree) ≤ length l.rows
  pub room_gains : at.records + node_count (grow q fuel (stored l at.records) start stop).tree ≤ length l.gains
  pub room_nodes : at.nodes + node_count (grow q fuel (stored l at.records) start stop).tree ≤ length l.nodes
  pub room_cuts : at.cuts + length (sheet (grow q fuel (stored l at.records) start stop).tree) ≤ length l.cuts

-- ---- the whole run [0, n)
-- there is room for it, and the first `count` records are those of some segments
pub record Ready (s : Asked) (n count : ℕ) (l : Lent) : Type 0 where
  pub least : 1 ≤ s.settings.allowed.shortest.m
  pub nonempty : 1 ≤ n
  pub segments : List StoredSegment
  pub stand : Standing (stored_records (run_over s n segments)) l.rows l.gains count
  pub room_rows : 5 * (count + most_nodes n (shortest_of s.settings.allowed.shortest)) ≤ length l.rows
  pub room_gains : count + most_nodes n (shortest_of s.settings.allowed.shortest) ≤ length l.gains
  pub room_nodes : most_nodes n (shortest_of s.settings.allowed.shortest) ≤ length l.nodes
  pub room_cuts : (most_nodes n (shortest_of s.settings.allowed.shortest) - 1) / 2 ≤ length l.cuts

-- the slices hold what the definitions tell of the run q, and the rest is as it was
pub record Holds (q : Run) (l l' : Lent) (next : Counts) : Type 0 where
  pub rows : l'.rows ≡ holding (flat_rows (records_of q)) l.rows
  pub gains : l'.gains ≡ holding (gains_of (records_of q)) l.gains
  pub nodes : l'.nodes ≡ holding (map to_node (nodes 0 (tree_of q))) l.nodes
  pub cuts : l'.cuts ≡ holding (sheet (tree_of q)) l.cuts
  pub counts : next ≡ record { nodes = node_count (tree_of q); records = length (records_of q); cuts = length (sheet (tree_of q)) }

-- of each run whose stored segments have these records
pub record Segmented (s : Asked) (n count : ℕ) (l l' : Lent) (next : Counts) : Type 0 where
  pub by : (segments : List StoredSegment) → Standing (stored_records (run_over s n segments)) l.rows l.gains count → Holds (run_over s n segments) l l' next
