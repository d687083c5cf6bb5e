-- For each entry point: what it is asked, its refusals in number order, and what follows for every input: its answer, and what it tells to each
-- lent slice. What a slice holds afterwards is `holding told before` (Lists): nothing is told by a refusal, so the slice is as it was.
use Rattle.std.specs.Prelude.{Bool, not, ◌||◌, ℕ, ◌+◌, ◌-◌, ◌*◌, ◌/◌, eqb, Float, length, take}
use mathlib.Core.List.{List, [], ◌∷◌, ◌++◌, flatten}
use Rattle.std.proofs.Math.Option.{Option, none, some}
use Rattle.scope.specs.Lists.{every}
use Rattle.scope.specs.Asked.{Matrix, Shortest, Source, Settings}
use Rattle.scope.specs.Refusals.{Test, test, first_of, Answer, refused, given, unless, told_unless, outside, most_rows, most_neighbours, most_curves, most_length, no1, no1_rows, no2, no2_relative, no3, no3_alpha, no4, no5, no7, no8, no8_split, no8_empty, no9}
use Rattle.scope.specs.Rounding.{minimal_length}
use Rattle.scope.specs.Candidates.{candidates, range_size, no10}
use Rattle.scope.specs.Sums.{prefix_sums}
use Rattle.scope.specs.Gain.{gain_of}
use Rattle.scope.specs.Grid.{Record, blank, best, trials, search}
use Rattle.scope.specs.Layers.{StoredSegment, stored}
use Rattle.scope.specs.Draws.{stored_segments, most_stored, source_tests, no8_draws}
use Rattle.scope.specs.Tree.{Run, stored_records, tree_of, records_of, Node, nodes, node_count, sheet, most_nodes}
use Rattle.scope.specs.Neighbours.{orders, distances, predictions}
use Rattle.scope.specs.Curves.{curve, picked, is_member, guesses}
use Rattle.scope.specs.Permutations.{no11, counter, p_value, is_significant}

-- "A search answers with a split and its gain"
pub record Split : Type 0 where
  pub split : ℕ
  pub gain : Float

abbrev pub split_of : Record → Split
split_of r = record { split = r.split; gain = r.gain }

-- the prefix sums of a matrix, and their room: "They need (n+1)*d f64"
abbrev pub sums_of : Matrix → List Float
sums_of x = prefix_sums x.cells x.n x.d

abbrev pub sums_room : Matrix → ℕ
sums_room x = (x.n + 1) * x.d

-- the gain of a run's splits: prefix sums "start at row 0"
abbrev pub gain_in : Matrix → ℕ → ℕ → ℕ → Float
gain_in x start stop split = gain_of (sums_of x) x.d start stop split

-- ---- minimal_segment_length: a relative length and n
abbrev pub length_tests : Float → ℕ → List Test
length_tests r n = no1_rows n ∷ no2_relative r ∷ []

unfoldable pub length_answer : Float → ℕ → Answer ℕ
length_answer r n = unless (first_of (length_tests r n)) (minimal_length r n)

-- ---- split_candidates: the list "written ascending, its length told, into a lent slice of at least stop-start-2m entries", with the closed end one more
pub record CandidatesAsked : Type 0 where
  pub n : ℕ
  pub shortest : Shortest
  pub forbidden : List ℕ
  pub start : ℕ
  pub stop : ℕ
  pub room : ℕ

abbrev pub candidates_tests : CandidatesAsked → List Test
candidates_tests a =
    no1_rows a.n
    ∷ no2 a.shortest
    ∷ no5 a.forbidden
    ∷ no7 (range_size a.shortest a.start a.stop) a.room
    ∷ no8 a.n a.start a.stop
    ∷ no9 a.shortest a.start a.stop
    ∷ no10 a.shortest a.forbidden a.start a.stop
    ∷ []

unfoldable pub candidates_refusal : CandidatesAsked → ℕ
candidates_refusal a = first_of (candidates_tests a)

pub record CandidatesTold : Type 0 where
  pub answer : Answer ℕ
  pub rows : List ℕ

unfoldable pub candidates_call : CandidatesAsked → CandidatesTold
candidates_call a =
    let no = candidates_refusal a in
    let rows = candidates a.shortest a.forbidden a.start a.stop in
    record { answer = unless no (length rows); rows = told_unless no rows }

-- ---- gain
pub record GainAsked : Type 0 where
  pub matrix : Matrix
  pub start : ℕ
  pub stop : ℕ
  pub split : ℕ
  pub room : ℕ

abbrev pub gain_tests : GainAsked → List Test
gain_tests a =
    no1 most_rows a.matrix
    ∷ no4 a.matrix.cells
    ∷ no7 (sums_room a.matrix) a.room
    ∷ no8 a.matrix.n a.start a.stop
    ∷ no8_split a.start a.stop a.split
    ∷ []

unfoldable pub gain_refusal : GainAsked → ℕ
gain_refusal a = first_of (gain_tests a)

pub record GainTold : Type 0 where
  pub answer : Answer Float
  pub sums : List Float

unfoldable pub gain_call : GainAsked → GainTold
gain_call a =
    let no = gain_refusal a in
    record { answer = unless no (gain_in a.matrix a.start a.stop a.split); sums = told_unless no (sums_of a.matrix) }

-- ---- find_best_split
pub record SearchAsked : Type 0 where
  pub matrix : Matrix
  pub shortest : Shortest
  pub forbidden : List ℕ
  pub start : ℕ
  pub stop : ℕ
  pub room : ℕ

abbrev pub search_tests : SearchAsked → List Test
search_tests a =
    no1 most_rows a.matrix
    ∷ no2 a.shortest
    ∷ no4 a.matrix.cells
    ∷ no5 a.forbidden
    ∷ no7 (sums_room a.matrix) a.room
    ∷ no8 a.matrix.n a.start a.stop
    ∷ no9 a.shortest a.start a.stop
    ∷ no10 a.shortest a.forbidden a.start a.stop
    ∷ []

unfoldable pub search_refusal : SearchAsked → ℕ
search_refusal a = first_of (search_tests a)

pub record SearchTold : Type 0 where
  pub answer : Answer Split
  pub sums : List Float

unfoldable pub search_call : SearchAsked → SearchTold
search_call a =
    let no = search_refusal a in
    let found = best (blank a.start a.stop) (trials (gain_in a.matrix) a.shortest a.forbidden a.start a.stop) in
    record { answer = unless no (split_of found); sums = told_unless no (sums_of a.matrix) }

-- ---- stored_segments: the stored records alone, in room for sums and records. T records of room
pub record StoredAsked : Type 0 where
  pub matrix : Matrix
  pub shortest : Shortest
  pub forbidden : List ℕ
  pub source : Source
  pub sums : ℕ
  pub records : ℕ

abbrev pub stored_tests : StoredAsked → List Test
stored_tests a =
    no1 most_rows a.matrix
    ∷ no2 a.shortest
    ∷ no4 a.matrix.cells
    ∷ no5 a.forbidden
    ∷ source_tests a.source
    ++ (no7 (sums_room a.matrix) a.sums ∷ no7 (most_stored a.source) a.records ∷ no8_draws a.matrix.n a.source ∷ [])

unfoldable pub stored_refusal : StoredAsked → ℕ
stored_refusal a = first_of (stored_tests a)

-- the search of a segment of a run, and the run's stored segments: no threshold enters
abbrev pub search_in : Matrix → Shortest → List ℕ → ℕ → ℕ → Option Record
search_in x short forbidden start stop = search (gain_in x) short forbidden start stop

abbrev pub segments_of : Matrix → Shortest → List ℕ → Source → List StoredSegment
segments_of x short forbidden source = stored_segments (search_in x short forbidden) x.n source

-- their records
abbrev pub stored_of : StoredAsked → List Record
stored_of a = stored (search_in a.matrix a.shortest a.forbidden) (segments_of a.matrix a.shortest a.forbidden a.source)

-- the answer is how many
pub record StoredTold : Type 0 where
  pub answer : Answer ℕ
  pub sums : List Float
  pub records : List Record

unfoldable pub stored_call : StoredAsked → StoredTold
stored_call a =
    let no = stored_refusal a in
    record { answer = unless no (length (stored_of a)); sums = told_unless no (sums_of a.matrix); records = told_unless no (stored_of a) }

-- ---- the tree: "Room needed: B nodes, T+B records, (B-1)/2 cuts; less is refusal 7", in the order sums, records, nodes, cuts

-- the lengths of the lent slices
pub record Room : Type 0 where
  pub sums : ℕ
  pub records : ℕ
  pub nodes : ℕ
  pub cuts : ℕ

pub record TreeAsked : Type 0 where
  pub matrix : Matrix
  pub settings : Settings
  pub room : Room

-- what is refused of a run, up to 6
abbrev pub run_tests : Matrix → Settings → List Test
run_tests x s = no1 most_rows x ∷ no2 s.shortest ∷ no3 s.threshold ∷ no4 x.cells ∷ no5 s.forbidden ∷ source_tests s.source

-- 7: the room of n rows of d columns
abbrev pub room_tests : ℕ → ℕ → Shortest → Source → Room → List Test
room_tests n d short source room =
    let most = most_nodes n short in
    no7 ((n + 1) * d) room.sums ∷ no7 (most_stored source + most) room.records ∷ no7 most room.nodes ∷ no7 ((most - 1) / 2) room.cuts ∷ []

-- up to 7
abbrev pub tree_room_tests : TreeAsked → List Test
tree_room_tests a = run_tests a.matrix a.settings ++ room_tests a.matrix.n a.matrix.d a.settings.shortest a.settings.source a.room

abbrev pub tree_tests : TreeAsked → List Test
tree_tests a = tree_room_tests a ++ (no8_draws a.matrix.n a.settings.source ∷ [])

unfoldable pub tree_refusal : TreeAsked → ℕ
tree_refusal a = first_of (tree_tests a)

-- a run of n rows over the prefix sums of their d columns
abbrev pub run_on : List Float → ℕ → ℕ → Settings → Run
run_on sums n d s =
    record {
      n = n;
      shortest = s.shortest;
      threshold = s.threshold;
      forbidden = s.forbidden;
      segments = stored_segments (search (gain_of sums d) s.shortest s.forbidden) n s.source;
      gain = gain_of sums d;
    }

-- the run that is asked for
abbrev pub run_of : Matrix → Settings → Run
run_of x s = run_on (sums_of x) x.n x.d s

-- how many nodes, records and cuts; "Report the number stored": how many of the records were stored before the tree was grown
pub record Counts : Type 0 where
  pub nodes : ℕ
  pub records : ℕ
  pub cuts : ℕ
  pub stored : ℕ

abbrev pub counts_of : Run → Counts
counts_of q =
    record { nodes = node_count (tree_of q); records = length (records_of q); cuts = length (sheet (tree_of q)); stored = length (stored_records q) }

pub record TreeTold : Type 0 where
  pub answer : Answer Counts
  pub sums : List Float
  pub records : List Record
  pub nodes : List Node
  pub cuts : List ℕ

-- what follows of a run, with the prefix sums that are told, where this number applies, or 0
abbrev pub run_follows : Run → List Float → ℕ → TreeTold
run_follows q sums number =
    record {
      answer = unless number (counts_of q);
      sums = told_unless number sums;
      records = told_unless number (records_of q);
      nodes = told_unless number (nodes 0 (tree_of q));
      cuts = told_unless number (sheet (tree_of q));
    }

abbrev pub tree_follows : TreeAsked → ℕ → TreeTold
tree_follows a number = run_follows (run_of a.matrix a.settings) (sums_of a.matrix) number

unfoldable pub tree_call : TreeAsked → TreeTold
tree_call a = tree_follows a (tree_refusal a)

-- ---- the tree for a host, which lends a slice for the four counts too
abbrev pub counted_tests : TreeAsked → ℕ → List Test
counted_tests a counts = tree_room_tests a ++ (no7 4 counts ∷ no8_draws a.matrix.n a.settings.source ∷ [])

unfoldable pub counted_refusal : TreeAsked → ℕ → ℕ
counted_refusal a counts = first_of (counted_tests a counts)

unfoldable pub counted_call : TreeAsked → ℕ → TreeTold
counted_call a counts = tree_follows a (counted_refusal a counts)

-- what that slice is told: how many nodes, records and cuts, and how many stored
abbrev pub counts_told : Answer Counts → List ℕ
counts_told (refused k) = []
counts_told (given c) = c.nodes ∷ c.records ∷ c.cuts ∷ c.stored ∷ []

-- ---- ordering: "Needs n*n u32 and n f64 of room; afterwards the n f64 hold the last row's distances."
pub record OrderingAsked : Type 0 where
  pub matrix : Matrix
  pub ordering : ℕ
  pub distances : ℕ

abbrev pub ordering_tests : OrderingAsked → List Test
ordering_tests a =
    no1 most_neighbours a.matrix ∷ no4 a.matrix.cells ∷ no7 (a.matrix.n * a.matrix.n) a.ordering ∷ no7 a.matrix.n a.distances ∷ []

unfoldable pub ordering_refusal : OrderingAsked → ℕ
ordering_refusal a = first_of (ordering_tests a)

-- each row's order, row after row, and the last row's distances
abbrev pub orders_of : Matrix → List ℕ
orders_of x = orders x.cells x.n x.d x.n

abbrev pub last_distances : Matrix → List Float
last_distances x = distances x.cells x.d (x.n - 1) x.n

-- the answer is 0 or the number
pub record OrderingTold : Type 0 where
  pub answer : ℕ
  pub ordering : List ℕ
  pub distances : List Float

unfoldable pub ordering_call : OrderingAsked → OrderingTold
ordering_call a =
    let no = ordering_refusal a in
    record { answer = no; ordering = told_unless no (orders_of a.matrix); distances = told_unless no (last_distances a.matrix) }

-- ---- predict: "Output L f64 (0 if start > stop); less is 7. The call takes the matrix and the ordering's room, filled first."
pub record PredictAsked : Type 0 where
  pub order : OrderingAsked
  pub start : ℕ
  pub stop : ℕ
  pub split : ℕ
  pub room : ℕ

abbrev pub predict_tests : PredictAsked → List Test
predict_tests a =
    ordering_tests a.order
    ++ (no7 (a.stop - a.start) a.room ∷ no8 a.order.matrix.n a.start a.stop ∷ no8_split a.start a.stop a.split ∷ no8_empty a.start a.stop ∷ [])

unfoldable pub predict_refusal : PredictAsked → ℕ
predict_refusal a = first_of (predict_tests a)

abbrev pub predictions_of : PredictAsked → List Float
predictions_of a =
    let x = a.order.matrix in
    predictions x.cells x.n x.d a.start a.stop a.split (a.stop - a.start)

pub record PredictTold : Type 0 where
  pub answer : ℕ
  pub ordering : List ℕ
  pub distances : List Float
  pub predictions : List Float

unfoldable pub predict_call : PredictAsked → PredictTold
predict_call a =
    let no = predict_refusal a in
    record {
      answer = no;
      ordering = told_unless no (orders_of a.order.matrix);
      distances = told_unless no (last_distances a.order.matrix);
      predictions = told_unless no (predictions_of a);
    }

-- ---- 12: "curve lengths differ, are 0 or above 4,096"; all lengths are held to the first
unfoldable pub wrong_lengths : ℕ → List (List Float) → Bool
wrong_lengths L curves = not (every (λ c. eqb (length c) L) curves) || outside most_length L

abbrev pub no12_lengths : ℕ → List (List Float) → Test
no12_lengths L curves = test (wrong_lengths L curves) 12

-- ---- gain_from_likelihoods: "From rows l0, l1 of length L (that of l0 where refusal 7 is judged)"
pub record CurveAsked : Type 0 where
  pub l0 : List Float
  pub l1 : List Float
  pub room : ℕ

abbrev pub curve_tests : CurveAsked → List Test
curve_tests a = no4 (a.l0 ++ a.l1) ∷ no7 (length a.l0) a.room ∷ no12_lengths (length a.l0) (a.l0 ∷ a.l1 ∷ []) ∷ []

unfoldable pub curve_refusal : CurveAsked → ℕ
curve_refusal a = first_of (curve_tests a)

pub record CurveTold : Type 0 where
  pub answer : ℕ
  pub curve : List Float

unfoldable pub curve_call : CurveAsked → CurveTold
curve_call a = let no = curve_refusal a in record { answer = no; curve = told_unless no (curve a.l0 a.l1 (length a.l0)) }

-- ---- the pick. 12: "a guess that is no candidate; for the pick, a curve length other than stop-start"
pub record PickAsked : Type 0 where
  pub n : ℕ
  pub shortest : Shortest
  pub forbidden : List ℕ
  pub start : ℕ
  pub stop : ℕ
  pub guess : ℕ
  pub curve : List Float

abbrev pub pick_tests : PickAsked → List Test
pick_tests a =
    no1_rows a.n
    ∷ no2 a.shortest
    ∷ no5 a.forbidden
    ∷ no8 a.n a.start a.stop
    ∷ no9 a.shortest a.start a.stop
    ∷ no10 a.shortest a.forbidden a.start a.stop
    ∷ test (not (is_member a.guess (candidates a.shortest a.forbidden a.start a.stop))) 12
    ∷ test (not (eqb (length a.curve) (a.stop - a.start))) 12
    ∷ []

unfoldable pub pick_answer : PickAsked → Answer Split
pick_answer a = unless (first_of (pick_tests a)) (split_of (picked a.shortest a.forbidden a.start a.stop a.guess a.curve))

-- ---- the guesses. A list that is not given is not looked at
abbrev pub listed : Option (List ℕ) → List ℕ
listed none = []
listed (some forbidden) = forbidden

pub record GuessesAsked : Type 0 where
  pub n : ℕ
  pub shortest : Shortest
  pub forbidden : Option (List ℕ)
  pub start : ℕ
  pub stop : ℕ

abbrev pub guesses_tests : GuessesAsked → List Test
guesses_tests a =
    no1_rows a.n
    ∷ no2 a.shortest
    ∷ no5 (listed a.forbidden)
    ∷ no8 a.n a.start a.stop
    ∷ no9 a.shortest a.start a.stop
    ∷ no10 a.shortest (listed a.forbidden) a.start a.stop
    ∷ []

unfoldable pub guesses_answer : GuessesAsked → Answer (List ℕ)
guesses_answer a = unless (first_of (guesses_tests a)) (guesses a.shortest a.forbidden a.start a.stop)

-- ---- the permutation test. The curves are lent with their count k; what lies beyond the count is not looked at
abbrev pub first_length : List (List Float) → ℕ
first_length [] = 0
first_length (c ∷ cs) = length c

pub record PermutationAsked : Type 0 where
  pub shortest : Shortest
  pub alpha : Float
  pub maximum : Float
  pub k : ℕ
  pub bases : List Float
  pub curves : List (List Float)
  pub P : ℕ
  pub permutations : List ℕ

-- bases and curves within the count
abbrev pub within : PermutationAsked → PermutationAsked
within a = record {
  shortest = a.shortest;
  alpha = a.alpha;
  maximum = a.maximum;
  k = a.k;
  bases = take a.k a.bases;
  curves = take a.k a.curves;
  P = a.P;
  permutations = a.permutations;
}

-- of those within the count
abbrev pub permutation_tests : PermutationAsked → List Test
permutation_tests a =
    let L = first_length a.curves in
    no2 a.shortest
    ∷ no3_alpha a.alpha
    ∷ no4 (a.maximum ∷ a.bases ++ flatten a.curves)
    ∷ no9 a.shortest 0 L
    ∷ no11 a.P L a.permutations
    ∷ test (outside most_curves a.k) 12
    ∷ no12_lengths L a.curves
    ∷ []

pub record Tested : Type 0 where
  pub counted : ℕ
  pub p : Float
  pub significant : Bool

abbrev pub tested_of : Float → ℕ → ℕ → Tested
tested_of alpha P counted = record { counted = counted; p = p_value counted P; significant = is_significant (p_value counted P) alpha }

abbrev pub counter_of : PermutationAsked → ℕ
counter_of a = counter a.shortest (first_length a.curves) a.bases a.curves a.maximum a.permutations a.P

unfoldable pub permutation_answer : PermutationAsked → Answer Tested
permutation_answer a = unless (first_of (permutation_tests (within a))) (tested_of a.alpha a.P (counter_of (within a)))
