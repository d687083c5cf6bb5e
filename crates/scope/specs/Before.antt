-- The definitions without the origin, as document 01 has them: the record, the bare stored segments, and all that is made of them. Word for word what they were
-- before a record carried its origin, under the same names; what did not change is imported. Nothing uses them but the law beside (Origins).
use Rattle.std.specs.Prelude.{Bool, true, false, cond, ◌&&◌, List, [], ◌∷◌, ◌++◌, map, ℕ, zero, suc, ◌+◌, ltb, leb, eqb, Float, length, take}
use Rattle.std.proofs.Math.Option.{Option, none, some}
use Rattle.std.specs.Float.Ieee.{lt, is_nan}
use Rattle.scope.specs.Floats.{lowest}
use Rattle.scope.specs.Lists.{keep, select}
use Rattle.scope.specs.Asked.{Matrix, Shortest, Source, Settings}
use Rattle.scope.specs.Refusals.{Answer, unless, told_unless}
use Rattle.scope.specs.Candidates.{candidates}
use Rattle.scope.specs.Layers.{Segment, layer_count, layer_segments}
use Rattle.scope.specs.Draws.{pairs_of, is_searched, by_draws}
use Rattle.scope.specs.Calls.{sums_of, gain_in, StoredAsked, stored_refusal, TreeAsked, tree_refusal, counted_refusal, Counts}
use Rattle.scope.specs.Why.{is_near, Barring, by, free, first_barring}

-- ---- Grid: "The record holds start, stop, best split and its max gain"
pub record Record : Type 0 where
  pub start : ℕ
  pub stop : ℕ
  pub split : ℕ
  pub gain : Float

unfoldable pub better : Record → Record → Record
better b r = cond (lt b.gain r.gain) r b

unfoldable pub best : Record → List Record → Record
best b [] = b
best b (r ∷ rs) = best (better b r) rs

abbrev pub blank : ℕ → ℕ → Record
blank start stop = record { start = start; stop = stop; split = 0; gain = lowest }

abbrev pub trial : (ℕ → ℕ → ℕ → Float) → ℕ → ℕ → ℕ → Record
trial gain start stop x = record { start = start; stop = stop; split = x; gain = gain start stop x }

unfoldable pub trials : (ℕ → ℕ → ℕ → Float) → Shortest → List ℕ → ℕ → ℕ → List Record
trials gain s forbidden start stop = map (trial gain start stop) (candidates s forbidden start stop)

abbrev pub of_some : Record → List Record → Option Record
of_some b [] = none
of_some b (r ∷ rs) = some (best b (r ∷ rs))

unfoldable pub search : (ℕ → ℕ → ℕ → Float) → Shortest → List ℕ → ℕ → ℕ → Option Record
search gain s forbidden start stop = of_some (blank start stop) (trials gain s forbidden start stop)

-- ---- Layers: "No layers means BS."; "A segment that a single search would refuse leaves no record."
unfoldable pub seeded : ℕ → List Float → List Segment
seeded n [] = []
seeded n (v ∷ vs) = layer_segments n v (layer_count v) ++ seeded n vs

abbrev pub one : Option Record → List Record
one none = []
one (some r) = r ∷ []

unfoldable pub stored : (ℕ → ℕ → Option Record) → List Segment → List Record
stored find [] = []
stored find (s ∷ ss) = one (find s.start s.stop) ++ stored find ss

-- ---- Draws: "the others are searched in order, and those that answer are stored, until W records stand or the list ends"
abbrev pub is_found : Option Record → Bool
is_found none = false
is_found (some r) = true

unfoldable pub drawn : (ℕ → ℕ → Option Record) → List ℕ → ℕ → List Segment
drawn find draws W = take W (select (λ s. is_searched s && is_found (find s.start s.stop)) (pairs_of draws))

abbrev pub stored_segments : (ℕ → ℕ → Option Record) → ℕ → Source → List Segment
stored_segments find n s = by_draws s.draws (seeded n s.layers) (drawn find s.draws s.W)

-- ---- Tree and sheet: "its direct record, unless a stored record lying inside it has strictly greater gain; then the earliest with the greatest"
pub record Run : Type 0 where
  pub n : ℕ
  pub shortest : Shortest
  pub threshold : Float
  pub forbidden : List ℕ
  pub segments : List Segment
  pub gain : ℕ → ℕ → ℕ → Float

abbrev pub direct : Run → ℕ → ℕ → Option Record
direct q start stop = search q.gain q.shortest q.forbidden start stop

unfoldable pub stored_records : Run → List Record
stored_records q = stored (direct q) q.segments

unfoldable pub inside : ℕ → ℕ → List Record → List Record
inside start stop [] = []
inside start stop (r ∷ rs) = keep (leb start r.start && leb r.stop stop) r (inside start stop rs)

abbrev pub chosen : Option Record → List Record → Option Record
chosen none rs = none
chosen (some d) rs = some (best d rs)

unfoldable pub choice : Run → List Record → ℕ → ℕ → Option Record
choice q rs start stop = chosen (direct q start stop) (inside start stop rs)

-- "It is cut if the choice's gain exceeds the threshold."
pub data Verdict : Type 0 where
  uncut : Option Record → Verdict
  cut : Record → Verdict

abbrev pub judged : Float → Option Record → Verdict
judged threshold none = uncut none
judged threshold (some r) = cond (lt threshold r.gain) (cut r) (uncut (some r))

unfoldable pub verdict : Run → List Record → ℕ → ℕ → Verdict
verdict q rs start stop = judged q.threshold (choice q rs start stop)

-- "a part shorter than the whole is grown by the same rule"; "Left part first, then right"; "The direct record is appended afterwards"
pub data Tree : Type 0 where
  leaf : ℕ → ℕ → Option Record → Tree
  node : ℕ → ℕ → Record → Tree → Tree → Tree

pub record Grown : Type 0 where
  pub tree : Tree
  pub made : List Record

abbrev pub parted : ℕ → ℕ → List Record → Verdict → (ℕ → Grown) → (ℕ → List Record → Grown) → Grown
parted start stop d (uncut o) left right = record { tree = leaf start stop o; made = d }
parted start stop d (cut c) left right =
    let l = left c.split in
    let r = right c.split l.made in
    record { tree = node start stop c l.tree r.tree; made = d ++ (l.made ++ r.made) }

unfoldable pub grow : Run → ℕ → List Record → ℕ → ℕ → Grown
grow q zero rs start stop = record { tree = leaf start stop none; made = [] }
grow q (suc k) rs start stop =
    let d = one (direct q start stop) in
    parted start stop d (verdict q rs start stop) (λ c. grow q k (rs ++ d) start c) (λ c more. grow q k ((rs ++ d) ++ more) c stop)

unfoldable pub grown : Run → Grown
grown q = grow q q.n (stored_records q) 0 q.n

abbrev pub tree_of : Run → Tree
tree_of q = (grown q).tree

unfoldable pub records_of : Run → List Record
records_of q = stored_records q ++ (grown q).made

-- "in preorder: start, stop, significant or not, choice if any, places of both parts (0 and 0 for a leaf)"
pub record Node : Type 0 where
  pub start : ℕ
  pub stop : ℕ
  pub significant : Bool
  pub choice : Option Record
  pub left : ℕ
  pub right : ℕ

unfoldable pub node_count : Tree → ℕ
node_count (leaf start stop o) = 1
node_count (node start stop c l r) = suc (node_count l + node_count r)

unfoldable pub nodes : ℕ → Tree → List Node
nodes p (leaf start stop o) = record { start = start; stop = stop; significant = false; choice = o; left = 0; right = 0 } ∷ []
nodes p (node start stop c l r) =
    record { start = start; stop = stop; significant = true; choice = some c; left = p + 1; right = p + 1 + node_count l } ∷ (nodes (p + 1) l ++ nodes (p + 1 + node_count l) r)

-- the chosen records of the segments that are cut, left to right, and their splits
unfoldable pub cuts : Tree → List Record
cuts (leaf start stop o) = []
cuts (node start stop c l r) = cuts l ++ (c ∷ cuts r)

unfoldable pub sheet : Tree → List ℕ
sheet t = map (λ (r : Record). r.split) (cuts t)

-- ---- Calls: the stored records alone
abbrev pub search_in : Matrix → Shortest → List ℕ → ℕ → ℕ → Option Record
search_in x short forbidden start stop = search (gain_in x) short forbidden start stop

abbrev pub segments_of : Matrix → Shortest → List ℕ → Source → List Segment
segments_of x short forbidden source = stored_segments (search_in x short forbidden) x.n source

abbrev pub stored_of : StoredAsked → List Record
stored_of a = stored (search_in a.matrix a.shortest a.forbidden) (segments_of a.matrix a.shortest a.forbidden a.source)

pub record StoredTold : Type 0 where
  pub answer : Answer ℕ
  pub sums : List Float
  pub records : List Record

unfoldable pub stored_call : StoredAsked → StoredTold
stored_call a =
    let no = stored_refusal a in
    record { answer = unless no (length (stored_of a)); sums = told_unless no (sums_of a.matrix); records = told_unless no (stored_of a) }

-- the tree
abbrev pub run_of : Matrix → Settings → Run
run_of x s =
    record {
      n = x.n;
      shortest = s.shortest;
      threshold = s.threshold;
      forbidden = s.forbidden;
      segments = segments_of x s.shortest s.forbidden s.source;
      gain = gain_in x;
    }

abbrev pub counts_of : Run → Counts
counts_of q =
    record { nodes = node_count (tree_of q); records = length (records_of q); cuts = length (sheet (tree_of q)); stored = length (stored_records q) }

pub record TreeTold : Type 0 where
  pub answer : Answer Counts
  pub sums : List Float
  pub records : List Record
  pub nodes : List Node
  pub cuts : List ℕ

abbrev pub tree_follows : TreeAsked → ℕ → TreeTold
tree_follows a number =
    let q = run_of a.matrix a.settings in
    record {
      answer = unless number (counts_of q);
      sums = told_unless number (sums_of a.matrix);
      records = told_unless number (records_of q);
      nodes = told_unless number (nodes 0 (tree_of q));
      cuts = told_unless number (sheet (tree_of q));
    }

unfoldable pub tree_call : TreeAsked → TreeTold
tree_call a = tree_follows a (tree_refusal a)

unfoldable pub counted_call : TreeAsked → ℕ → TreeTold
counted_call a counts = tree_follows a (counted_refusal a counts)

-- ---- Why: "it is a cut, and of which reached segment; or, within the uncut segment that holds it, the first that applies"
pub data Place : Type 0 where
  at_cut : Segment → Place
  uncut_in : Segment → Place

unfoldable pub place_of : ℕ → Tree → Place
place_of x (leaf start stop o) = uncut_in (record { start = start; stop = stop })
place_of x (node start stop c l r) =
    cond (eqb x c.split) (at_cut (record { start = start; stop = stop })) (cond (ltb x c.split) (place_of x l) (place_of x r))

pub data Why : Type 0 where
  cut : Segment → Why
  too_near : Segment → Why
  barred : ℕ → ℕ → Segment → Why
  no_number : Segment → Why
  not_above : Float → Segment → Why

abbrev pub by_gain : Float → Segment → Why
by_gain gain g = cond (is_nan gain) (no_number g) (not_above gain g)

abbrev pub first_reason : Bool → Barring → Float → Segment → Why
first_reason true barring gain g = too_near g
first_reason false (by a b) gain g = barred a b g
first_reason false free gain g = by_gain gain g

abbrev pub reason_in : Run → ℕ → Segment → Why
reason_in q x g = first_reason (is_near q.shortest g x) (first_barring q.forbidden x) (q.gain g.start g.stop x) g

abbrev pub by_place : Run → ℕ → Place → Why
by_place q x (at_cut g) = cut g
by_place q x (uncut_in g) = reason_in q x g

unfoldable pub why_of : Run → ℕ → Why
why_of q x = by_place q x (place_of x (tree_of q))
