-- "The choice itself may not depend on it; drop the field and every answer is what it was": what is made of a run without its origins is what the definitions
-- without them (Before) make. And what the origin of a stored segment says, and that its text has room. proofs/Origins.antt has each record.
use Rattle.std.specs.Prelude.{◌≡◌, List, map, ℕ, suc, ◌^◌, ◌≤◌, ◌<◌, Float, length}
use Rattle.std.proofs.Math.Option.{Option, none, some}
use Rattle.scope.specs.Lists.{at, ◌∈◌}
use Rattle.scope.specs.Asked.{Matrix, Shortest, Source, Settings}
use Rattle.scope.specs.Refusals.{most_layers}
use Rattle.scope.specs.Origin.{Origin, direct, layer, draw, origin_text, origin_room}
use Rattle.scope.specs.Grid.{Record, search}
use Rattle.scope.specs.Layers.{Segment, StoredSegment, of_origin, ends_of, layer_count, layer_segments, seeded}
use Rattle.scope.specs.Draws.{drawn, stored_segments, PairAt}
use Rattle.scope.specs.Tree.{Run, stored_records, choice, Verdict, uncut, verdict, Tree, leaf, node, tree_of, records_of, Node, node_count, nodes, cuts, sheet}
use Rattle.scope.specs.Calls.{StoredAsked, StoredTold, stored_call, run_of, TreeAsked, TreeTold, tree_call, counted_call}
use Rattle.scope.specs.Why.{Why, too_near, barred, no_number, not_above, why_of}
use Rattle.scope.specs.Before as before

-- ---- "drop the field": a value of today's types without its origins
abbrev pub bare_record : Record → before.Record
bare_record r = record { start = r.start; stop = r.stop; split = r.split; gain = r.gain }

abbrev pub bare_records : List Record → List before.Record
bare_records rs = map bare_record rs

abbrev pub bare_option : Option Record → Option before.Record
bare_option none = none
bare_option (some r) = some (bare_record r)

abbrev pub bare_segments : List StoredSegment → List Segment
bare_segments ss = map ends_of ss

abbrev pub bare_run : Run → before.Run
bare_run q =
    record {
      n = q.n;
      shortest = q.shortest;
      threshold = q.threshold;
      forbidden = q.forbidden;
      segments = bare_segments q.segments;
      gain = q.gain;
    }

abbrev pub bare_verdict : Verdict → before.Verdict
bare_verdict (uncut o) = before.uncut (bare_option o)
bare_verdict (Verdict.cut r) = before.Verdict.cut (bare_record r)

unfoldable pub bare_tree : Tree → before.Tree
bare_tree (leaf start stop o) = before.leaf start stop (bare_option o)
bare_tree (node start stop c l r) = before.node start stop (bare_record c) (bare_tree l) (bare_tree r)

abbrev pub bare_node : Node → before.Node
bare_node d =
    record { start = d.start; stop = d.stop; significant = d.significant; choice = bare_option d.choice; left = d.left; right = d.right }

abbrev pub bare_stored : StoredTold → before.StoredTold
bare_stored t = record { answer = t.answer; sums = t.sums; records = bare_records t.records }

abbrev pub bare_told : TreeTold → before.TreeTold
bare_told t = record { answer = t.answer; sums = t.sums; records = bare_records t.records; nodes = map bare_node t.nodes; cuts = t.cuts }

abbrev pub bare_why : Why → before.Why
bare_why (Why.cut g o) = before.Why.cut g
bare_why (too_near g) = before.too_near g
bare_why (barred a b g) = before.barred a b g
bare_why (no_number g) = before.no_number g
bare_why (not_above gain g) = before.not_above gain g

-- ---- "and every answer is what it was"
pub record Dropped : Type 0 where
  -- ---- a search, whatever the gains
  pub search : (gain : ℕ → ℕ → ℕ → Float) (s : Shortest) (forbidden : List ℕ) (start stop : ℕ)
      → bare_option (search gain s forbidden start stop) ≡ before.search gain s forbidden start stop
  -- ---- the stored segments: of layers, of draws whatever their search finds, of a source, of a run
  pub seeded : (n : ℕ) (layers : List Float) → bare_segments (seeded n layers) ≡ before.seeded n layers
  pub drawn : (find : ℕ → ℕ → Option Record) (draws : List ℕ) (W : ℕ) → bare_segments (drawn find draws W) ≡ before.drawn (λ a b. bare_option (find a b)) draws W
  pub segments : (find : ℕ → ℕ → Option Record) (n : ℕ) (source : Source)
      → bare_segments (stored_segments find n source) ≡ before.stored_segments (λ a b. bare_option (find a b)) n source
  pub run : (x : Matrix) (s : Settings) → bare_run (run_of x s) ≡ before.run_of x s
  -- ---- of every run: a segment's choice and verdict after any records
  pub choice : (q : Run) (rs : List Record) (start stop : ℕ) → bare_option (choice q rs start stop) ≡ before.choice (bare_run q) (bare_records rs) start stop
  pub verdict : (q : Run) (rs : List Record) (start stop : ℕ) → bare_verdict (verdict q rs start stop) ≡ before.verdict (bare_run q) (bare_records rs) start stop
  -- the stored records, the tree, and the records afterwards
  pub stored : (q : Run) → bare_records (stored_records q) ≡ before.stored_records (bare_run q)
  pub tree : (q : Run) → bare_tree (tree_of q) ≡ before.tree_of (bare_run q)
  pub records : (q : Run) → bare_records (records_of q) ≡ before.records_of (bare_run q)
  -- the node list from any place on, and how many nodes
  pub nodes : (q : Run) (p : ℕ) → map bare_node (nodes p (tree_of q)) ≡ before.nodes p (before.tree_of (bare_run q))
  pub node_count_lem : (q : Run) → node_count (tree_of q) ≡ before.node_count (before.tree_of (bare_run q))
  -- the chosen records of the segments that are cut, and the sheet
  pub cuts : (q : Run) → bare_records (cuts (tree_of q)) ≡ before.cuts (before.tree_of (bare_run q))
  pub sheet : (q : Run) → sheet (tree_of q) ≡ before.sheet (before.tree_of (bare_run q))
  -- what is told of each row
  pub why : (q : Run) (x : ℕ) → bare_why (why_of q x) ≡ before.why_of (bare_run q) x
  -- ---- of the calls for the stored records and for the tree, a host's too: the answer, a refusal too, and what each lent slice is told
  pub stored_call_lem : (a : StoredAsked) → bare_stored (stored_call a) ≡ before.stored_call a
  pub tree_call_lem : (a : TreeAsked) → bare_told (tree_call a) ≡ before.tree_call a
  pub counted_call_lem : (a : TreeAsked) (counts : ℕ) → bare_told (counted_call a counts) ≡ before.counted_call a counts

-- ---- the same with no second definition: whatever origins a run's stored segments are given

-- each stored segment s with the origin f s
abbrev pub relabelled : (StoredSegment → Origin) → Run → Run
relabelled f q =
    record {
      n = q.n;
      shortest = q.shortest;
      threshold = q.threshold;
      forbidden = q.forbidden;
      segments = map (λ s. of_origin (f s) (ends_of s)) q.segments;
      gain = q.gain;
    }

pub record Relabelled : Type 0 where
  -- the same once origins are dropped: the tree, the records, the node list, the chosen records of the sheet, and what is told of each row
  pub tree : (f : StoredSegment → Origin) (q : Run) → bare_tree (tree_of (relabelled f q)) ≡ bare_tree (tree_of q)
  pub records : (f : StoredSegment → Origin) (q : Run) → bare_records (records_of (relabelled f q)) ≡ bare_records (records_of q)
  pub nodes : (f : StoredSegment → Origin) (q : Run) (p : ℕ) → map bare_node (nodes p (tree_of (relabelled f q))) ≡ map bare_node (nodes p (tree_of q))
  pub cuts : (f : StoredSegment → Origin) (q : Run) → bare_records (cuts (tree_of (relabelled f q))) ≡ bare_records (cuts (tree_of q))
  pub why : (f : StoredSegment → Origin) (q : Run) (x : ℕ) → bare_why (why_of (relabelled f q) x) ≡ bare_why (why_of q x)
  -- the same as they stand: the sheet, and how many nodes
  pub sheet : (f : StoredSegment → Origin) (q : Run) → sheet (tree_of (relabelled f q)) ≡ sheet (tree_of q)
  pub node_count_lem : (f : StoredSegment → Origin) (q : Run) → node_count (tree_of (relabelled f q)) ≡ node_count (tree_of q)

-- ---- what the origin of a stored segment says: "layer number from 1, or place in the draw list from 0"
pub data SourceOf (n : ℕ) (source : Source) (s : StoredSegment) : Type 0 where
  -- the layer k from 0 is number k + 1, and the segment is one of its segments
  of_layer : (k : ℕ)
      → k < length source.layers
      → s.origin ≡ layer (suc k)
      → ends_of s ∈ layer_segments n (at source.layers k) (layer_count (at source.layers k))
      → SourceOf n source s
  -- the segment is the pair at that place
  of_draw : PairAt source.draws s.origin (ends_of s) → SourceOf n source s

pub record StoredOrigins : Type 0 where
  -- each stored segment comes from where its origin says, whatever the search finds
  pub are : (find : ℕ → ℕ → Option Record) (n : ℕ) (source : Source) (s : StoredSegment) → s ∈ stored_segments find n source → SourceOf n source s

-- ---- "in 25 lent bytes or more": the origins of "at most 64 layers", and of draws that a 64-bit machine counts
abbrev pub Fits : Origin → Type 0
Fits direct = Unit {0}
Fits (layer k) = k ≤ most_layers
Fits (draw k) = k < 2 ^ 64

pub record TextFits : Type 0 where
  -- the text of each has room
  pub text : (o : Origin) → Fits o → length (origin_text o) ≤ origin_room
  -- and every stored segment's origin is one of them
  pub source : (n : ℕ) (source : Source) (s : StoredSegment) → length source.layers ≤ most_layers → length source.draws ≤ 2 ^ 64 → SourceOf n source s → Fits s.origin
