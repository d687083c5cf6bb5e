-- Tree and sheet.
use Rattle.std.specs.Prelude.{Bool, true, false, cond, ◌&&◌, List, [], ◌∷◌, ◌++◌, map, ℕ, zero, suc, ◌+◌, ◌-◌, ◌*◌, ◌/◌, max, leb, Float}
use Rattle.std.proofs.Math.Option.{Option, none, some}
use Rattle.std.specs.Float.Ieee.{lt}
use Rattle.scope.specs.Lists.{keep}
use Rattle.scope.specs.Asked.{Shortest, end_of}
use Rattle.scope.specs.Grid.{Record, best, search}
use Rattle.scope.specs.Layers.{StoredSegment, one, stored}

-- a run: its rows, the settings, the stored segments, which were searched beforehand, whatever made them, and the gain of a split x of [start, stop)
pub record Run : Type 0 where
  pub n : ℕ
  pub shortest : Shortest
  pub threshold : Float
  pub forbidden : List ℕ
  pub segments : List StoredSegment
  pub gain : ℕ → ℕ → ℕ → Float

-- a segment's own search
abbrev pub direct : Run → ℕ → ℕ → Option Record
direct q start stop = search q.gain q.shortest q.forbidden start stop

-- the records of the stored segments, in their order
unfoldable pub stored_records : Run → List Record
stored_records q = stored (direct q) q.segments

-- ---- "A segment's choice: its direct record, unless a stored record lying inside it has strictly greater gain; then the earliest with the greatest."

-- the records that lie inside [start, stop)
unfoldable pub inside : ℕ → ℕ → List Record → List Record
inside start stop [] = []
inside start stop (r ∷ rs) = keep (leb start r.start && leb r.stop stop) r (inside start stop rs)

abbrev pub chosen : Option Record → List Record → Option Record
chosen none rs = none
chosen (some d) rs = some (best d rs)

unfoldable pub choice : Run → List Record → ℕ → ℕ → Option Record
choice q rs start stop = chosen (direct q start stop) (inside start stop rs)

-- ---- "It is cut if the choice's gain exceeds the threshold."

-- what becomes of a segment: it stays uncut, with its choice if any, or it is cut
pub data Verdict : Type 0 where
  uncut : Option Record → Verdict
  cut : Record → Verdict

abbrev pub judged : Float → Option Record → Verdict
judged threshold none = uncut none
judged threshold (some r) = cond (lt threshold r.gain) (cut r) (uncut (some r))

unfoldable pub verdict : Run → List Record → ℕ → ℕ → Verdict
verdict q rs start stop = judged q.threshold (choice q rs start stop)

-- ---- the tree: a leaf has its choice, if any; a node its chosen record and both parts
pub data Tree : Type 0 where
  leaf : ℕ → ℕ → Option Record → Tree
  node : ℕ → ℕ → Record → Tree → Tree → Tree

-- "The direct record is appended afterwards": the tree, and the direct records that growing it appends, in the order made
pub record Grown : Type 0 where
  pub tree : Tree
  pub made : List Record

-- "Left part first, then right": right is handed what left made
abbrev pub parted : ℕ → ℕ → List Record → Verdict → (ℕ → Grown) → (ℕ → List Record → Grown) → Grown
parted start stop d (uncut o) left right = record { tree = leaf start stop o; made = d }
parted start stop d (cut c) left right =
    let l = left c.split in
    let r = right c.split l.made in
    record { tree = node start stop c l.tree r.tree; made = d ++ (l.made ++ r.made) }

-- "a part shorter than the whole is grown by the same rule": [start, stop) after the records rs; the first number is fuel, and stop - start is enough
unfoldable pub grow : Run → ℕ → List Record → ℕ → ℕ → Grown
grow q zero rs start stop = record { tree = leaf start stop none; made = [] }
grow q (suc k) rs start stop =
    let d = one (direct q start stop) in
    parted start stop d (verdict q rs start stop) (λ c. grow q k (rs ++ d) start c) (λ c more. grow q k ((rs ++ d) ++ more) c stop)

-- the whole run, after the stored segments' records
unfoldable pub grown : Run → Grown
grown q = grow q q.n (stored_records q) 0 q.n

abbrev pub tree_of : Run → Tree
tree_of q = (grown q).tree

-- the records afterwards: the stored ones, then the direct ones in the order made
unfoldable pub records_of : Run → List Record
records_of q = stored_records q ++ (grown q).made

-- ---- the node list, "in preorder: start, stop, significant or not, choice if any, places of both parts (0 and 0 for a leaf)"
pub record Node : Type 0 where
  pub start : ℕ
  pub stop : ℕ
  pub significant : Bool
  pub choice : Option Record
  pub left : ℕ
  pub right : ℕ

-- how many nodes
unfoldable pub node_count : Tree → ℕ
node_count (leaf start stop o) = 1
node_count (node start stop c l r) = suc (node_count l + node_count r)

-- the tree's own node stands at the place p
unfoldable pub nodes : ℕ → Tree → List Node
nodes p (leaf start stop o) = record { start = start; stop = stop; significant = false; choice = o; left = 0; right = 0 } ∷ []
nodes p (node start stop c l r) =
    record { start = start; stop = stop; significant = true; choice = some c; left = p + 1; right = p + 1 + node_count l } ∷ (nodes (p + 1) l ++ nodes (p + 1 + node_count l) r)

-- ---- the sheet: the chosen records of the segments that are cut, left to right, and their splits
unfoldable pub cuts : Tree → List Record
cuts (leaf start stop o) = []
cuts (node start stop c l r) = cuts l ++ (c ∷ cuts r)

unfoldable pub sheet : Tree → List ℕ
sheet t = map (λ (r : Record). r.split) (cuts t)

-- "B = max(1, 2*floor((n-1)/m)-1)", with the closed end "max(1, 2*floor(n/m)-1)"
abbrev pub most_nodes : ℕ → Shortest → ℕ
most_nodes n s = max 1 (2 * ((end_of s n - 1) / s.m) - 1)
