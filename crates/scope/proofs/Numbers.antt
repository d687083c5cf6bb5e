-- No NaN is stored or answered, but for the gain that `gain` answers, the curve and the f32 nearest to a NaN. Assumes nothing.
use mathlib.Core.Path.{◌≡◌, refl, sym, ◌∙◌, ap}
use mathlib.Core.Bool.{Bool, true, false, cond, not, ◌||◌}
use mathlib.Core.List.Memᴰ
use mathlib.Core.List.{List}
use Prim.Native.Nat.{ℕ, zero, suc, ◌+◌, ◌-◌, ◌*◌, ◌^◌, ◌≤◌, ◌<◌}
use native.Mathlib.Nat.{add-mul}
use native.Mathlib.Omega.{arith}
use borrow.Author.Tests.{ltb-false, le-leb, eqb-true, eqb-false, not-false}
use lib.Dec.{ltb, leb, eqb}
use lib.Ieee.{Float, nan, binary64, fits}
use lib.ListN.{length, get_or, replicate}
use Rattle.scope.specs.Floats.{+0, lowest, is_finite}
use Rattle.scope.specs.Lists.{◌∈◌, at, every}
use Rattle.scope.specs.Asked.{Matrix}
use Rattle.scope.specs.Refusals.{Test, test, first_of, given, unless, told_unless, left_unless, most_rows, most_neighbours, most_columns, most_permutations, outside, wrong_matrix, wrong_segment}
use Rattle.scope.specs.Rounding.{whole_root}
use Rattle.scope.specs.Sums.{plus, flat_sums, prefix_sums}
use Rattle.scope.specs.Origin.{direct}
use Rattle.scope.specs.Grid.{Record, blank, best, trials}
use Rattle.scope.specs.Greatest.{numeric}
use Rattle.scope.specs.Neighbours.{distances, count_of, predictions}
use Rattle.scope.specs.Curves.{picked}
use Rattle.scope.specs.Permutations.{wrong_permutations}
use Rattle.scope.specs.Calls.{Split, split_of, sums_of, gain_in, gain_tests, gain_refusal, gain_call, search_tests, search_refusal, search_call, stored_tests, stored_refusal, search_in, segments_of, stored_of, stored_call, tree_tests, tree_refusal, run_of, tree_call, ordering_tests, ordering_refusal, last_distances, ordering_call, PredictAsked, predict_tests, predict_refusal, predictions_of, predict_call, PickAsked, pick_tests, pick_answer, Tested, PermutationAsked, within, permutation_tests, tested_of, counter_of, permutation_answer}
use Rattle.scope.specs.Feed.{cells_in, sums_in, open_refusal, open_call, fed_sums, FeedAsked, feed_tests, feed_refusal, feed_call, fed_run, fed_refusal, fed_room, fed_call}
use Rattle.scope.specs.Tree.{stored_records}
use Rattle.scope.specs.Tree as tree
use Rattle.scope.specs.Why.{not_above, why_of, why_tests, why_refusal, why_call}
use Rattle.scope.specs.Numbers.{AllNumeric, AllF64, NeverNaN}
use Rattle.scope.proofs.Members.{at_in, every_of}
use Rattle.scope.proofs.Every.{every_end, every_set}
use Rattle.scope.proofs.Lowest.{in_order, holds, not_held, given_is, all_in_order}
use Rattle.scope.proofs.Candidates.{or_false, not_outside}
use Rattle.scope.proofs.Sums.{length_flat}
use Rattle.scope.proofs.Feed.{length_fed}
use Rattle.scope.proofs.Signs.{add_numeric, quotient_numeric, distance_numeric}
use Rattle.scope.proofs.Finite.{zero_plus_finite}
use Rattle.scope.proofs.Why.{told_number}
use Rattle.scope.proofs.Chosen.{best_numeric, search_number, stored_numbers, records_numbers, nodes_numbers}

-- ---- what is told: nothing where the call is refused
told_every : {A : Type 0} (p : A → Bool) (k : ℕ) (l : List A) → (k ≡ 0 → every p l ≡ true) → every p (told_unless k l) ≡ true
unfolding every
told_every p zero l h = h refl
told_every p (suc k) l h = refl

told_in : {A : Type 0} (k : ℕ) (l : List A) (x : A) → x ∈ told_unless k l → x ∈ l
told_in zero l x i = i
told_in (suc k) l x i = absurd (Memᴰ.not-nil i)

-- ---- a matrix that 1 and 4 don't refuse
pub record Sized (x : Matrix) : Type 0 where
  some_rows : 1 ≤ x.n
  most_rows_lem : x.n ≤ most_rows
  some_columns : 1 ≤ x.d
  pub long : length x.cells ≡ x.n * x.d
  pub finite : every is_finite x.cells ≡ true

module _ (most : ℕ) (few : most ≤ most_rows) (x : Matrix) where
  sized : wrong_matrix most x.cells x.n x.d ≡ false → not (every is_finite x.cells) ≡ false → Sized x
  unfolding wrong_matrix
  sized h k =
      let (a, b) = or_false (outside most x.n || outside most_columns x.d) (not (eqb (length x.cells) (x.n * x.d))) h in
      let (i, j) = or_false (outside most x.n) (outside most_columns x.d) a in
      let rows = not_outside most x.n i in
      record {
        some_rows = rows.0;
        most_rows_lem = omega arith;
        some_columns = (not_outside most_columns x.d j).0;
        long = eqb-true (length x.cells) (x.n * x.d) (not-false _ b);
        finite = not-false _ k;
      }

  -- 1 is the first test of a call with a matrix, and 4 the test number i
  sized_by : (ts : List Test) → in_order 1 ts ≡ true → holds (get_or ts 0 (test false 0)) ≡ wrong_matrix most x.cells x.n x.d → (i : ℕ) → i < length ts → holds (get_or ts i (test false 0)) ≡ not (every is_finite x.cells)
      → first_of ts ≡ 0 → Sized x
  sized_by ts order first i l four z = sized (sym first ∙ not_held ts order z 0 (omega arith)) (sym four ∙ not_held ts order z i l)

-- ---- prefix sums: a finite cell, with 0 added to it, and a numeric sum
zeros : (k : ℕ) → every numeric (replicate k +0) ≡ true
unfolding every
zeros zero = refl
zeros (suc k) = zeros k

plus_numeric : (cells : List Float) → AllF64 cells → every is_finite cells ≡ true → (k : ℕ) → k < length cells → (sum : Float) → numeric sum ≡ true → numeric (plus (at cells k) sum) ≡ true
plus_numeric cells held finite k h sum n =
    let cell = at_in cells k nan h in
    add_numeric binary64 _ sum (zero_plus_finite binary64 _ (every_of (fits binary64) cells held _ cell) (every_of is_finite cells finite _ cell)) n

module _ (x : Matrix) (s : Sized x) (held : AllF64 x.cells) where
  all_sums : (k : ℕ) → k ≤ length x.cells → every numeric (flat_sums x.cells x.d k) ≡ true
  unfolding flat_sums
  all_sums zero h = zeros x.d
  all_sums (suc k) h =
      let before = all_sums k (omega arith) in
      let sum = at_in (flat_sums x.cells x.d k) k nan (omega (arith, length_flat x.cells x.d k, s.some_columns)) in
      every_end numeric (flat_sums x.cells x.d k) _ before (plus_numeric x.cells held s.finite k (omega arith) _ (every_of numeric _ before _ sum))

  sums_numeric : AllNumeric (sums_of x)
  unfolding prefix_sums
  sums_numeric = all_sums (x.n * x.d) (omega (arith, s.long))

sums_told : (x : Matrix) (k : ℕ) → (k ≡ 0 → Sized x) → AllF64 x.cells → AllNumeric (told_unless k (sums_of x))
sums_told x k s held = told_every numeric k (sums_of x) (λ z. sums_numeric x (s z) held)

-- of a lot, behind numeric ones
module _ (a : FeedAsked) (held : AllF64 a.lot) (stood : AllNumeric a.sums) where
  abbrev left : ℕ → List Float
  left k = fed_sums a.lot a.state.d a.state.count a.sums k

  lot_sums : every is_finite a.lot ≡ true → a.state.count + length a.lot ≤ length a.sums → (k : ℕ) → k ≤ length a.lot → AllNumeric (left k)
  unfolding fed_sums
  lot_sums finite room zero h = stood
  lot_sums finite room (suc k) h =
      let before = lot_sums finite room k (omega arith) in
      let sum = at_in (left k) (a.state.count + k) nan (let e = length_fed a.lot a.state.d a.state.count a.sums k in omega arith) in
      every_set numeric (left k) _ _ before (plus_numeric a.lot held finite k (omega arith) _ (every_of numeric _ before _ sum))

  feed_numeric : AllNumeric (feed_call a).sums
  unfolding feed_call feed_refusal
  feed_numeric = go (feed_refusal a.state a.lot (length a.sums)) refl
    where
      go : (k : ℕ) → first_of (feed_tests a.state a.lot (length a.sums)) ≡ k → AllNumeric (left_unless k a.sums (left (length a.lot)))
      go zero e =
          let t : (i : ℕ) → i < 4 → holds (get_or (feed_tests a.state a.lot (length a.sums)) i (test false 0)) ≡ false = not_held (feed_tests a.state a.lot (length a.sums)) refl e in
          let fit = ltb-false (length a.sums) (sums_in a.state) (t 2 (omega arith)) in
          let few = ltb-false (cells_in a.state) (a.state.count + length a.lot) (t 3 (omega arith)) in
          lot_sums (not-false _ (t 1 (omega arith))) (omega (arith, fit, few, add-mul a.state.n 1 a.state.d)) (length a.lot) (omega arith)
      go (suc k) e = stood

-- ---- the squared distances of row i to the first k rows
all_distances : (x : Matrix) → Sized x → (i : ℕ) → i < x.n → (k : ℕ) → k ≤ x.n → every numeric (distances x.cells x.d i k) ≡ true
unfolding distances every
all_distances x s i h zero l = refl
all_distances x s i h (suc k) l =
    every_end numeric (distances x.cells x.d i k) _ (all_distances x s i h k (omega arith)) (distance_numeric x.cells x.n x.d s.finite s.long i k h l)

distances_told : (x : Matrix) (k : ℕ) → (k ≡ 0 → Sized x) → AllNumeric (told_unless k (last_distances x))
distances_told x k s = told_every numeric k (last_distances x) (λ z. let c = s z in all_distances x c (x.n - 1) (omega (arith, c.some_rows)) x.n (omega arith))

-- ---- predictions: k, the whole square root of 1 or more rows, is 1 or more
root_most : (l : ℕ) → whole_root l ≤ l
unfolding whole_root
root_most zero = omega arith
root_most (suc l) = go (leb ((whole_root l + 1) * (whole_root l + 1)) (suc l)) (root_most l)
  where
    go : (b : Bool) → whole_root l ≤ l → cond b (whole_root l + 1) (whole_root l) ≤ suc l
    go true h = omega arith
    go false h = omega arith

root_least : (l : ℕ) → 1 ≤ l → 1 ≤ whole_root l
unfolding whole_root
root_least zero h = h
root_least (suc l) h = go (whole_root l)
  where
    more : (b : Bool) (k : ℕ) → 1 ≤ cond b (suc k + 1) (suc k)
    more true k = omega arith
    more false k = omega arith

    go : (k : ℕ) → 1 ≤ cond (leb ((k + 1) * (k + 1)) (suc l)) (k + 1) k
    go zero = rw (le-leb 1 (suc l) (omega arith)) (omega arith)
    go (suc k) = more (leb ((suc k + 1) * (suc k + 1)) (suc l)) k

all_predictions : (cells : List Float) (n d start stop split : ℕ) → 1 ≤ whole_root (stop - start) → whole_root (stop - start) ≤ 2 ^ 53 → (i : ℕ)
    → every numeric (predictions cells n d start stop split i) ≡ true
unfolding predictions every
all_predictions cells n d start stop split low high zero = refl
all_predictions cells n d start stop split low high (suc i) =
    every_end numeric (predictions cells n d start stop split i) _ (all_predictions cells n d start stop split low high i) (quotient_numeric binary64 (count_of cells n d start stop split (start + i)) (whole_root (stop - start)) low high)

-- a segment of the neighbours that 8 does not refuse has 1 to n rows
module _ (a : PredictAsked) where
  tested : predict_refusal a ≡ 0 → (i : ℕ) → i < 8 → holds (get_or (predict_tests a) i (test false 0)) ≡ false
  unfolding predict_refusal
  tested z = not_held (predict_tests a) (all_in_order.predict a) z

  pub predict_sized : predict_refusal a ≡ 0 → Sized a.order.matrix
  predict_sized z = sized most_neighbours (omega arith) a.order.matrix (tested z 0 (omega arith)) (tested z 1 (omega arith))

  pub some_segment : predict_refusal a ≡ 0 → (a.start < a.stop) × (a.stop ≤ a.order.matrix.n)
  unfolding wrong_segment
  some_segment z =
      let (i, j) = or_false (ltb a.stop a.start) (ltb a.order.matrix.n a.stop) (tested z 5 (omega arith)) in
      let other = eqb-false a.start a.stop (tested z 7 (omega arith)) in
      (omega (arith, ltb-false a.stop a.start i), omega (arith, ltb-false a.order.matrix.n a.stop j))

  predictions_told : AllNumeric (told_unless (predict_refusal a) (predictions_of a))
  predictions_told =
      told_every numeric (predict_refusal a) (predictions_of a)
      (λ z.
      let h = some_segment z in
      let x = a.order.matrix in
      all_predictions x.cells x.n x.d a.start a.stop a.split (root_least (a.stop - a.start) (omega arith)) (omega (arith, root_most (a.stop - a.start), (predict_sized z).most_rows_lem)) (a.stop - a.start))

-- ---- what a search and a pick answer
answered : (k : ℕ) (r : Record) (s : Split) → numeric r.gain ≡ true → unless k (split_of r) ≡ given s → numeric s.gain ≡ true
answered k r s h e = let (z, is) = given_is k (split_of r) s e in sym (ap (λ (w : Split). numeric w.gain) is) ∙ h

pick_numeric : (a : PickAsked) (s : Split) → pick_answer a ≡ given s → numeric s.gain ≡ true
unfolding pick_answer picked
pick_numeric a s e =
    let first : Record = record { start = a.start; stop = a.stop; split = a.guess; gain = lowest; origin = direct } in
    answered (first_of (pick_tests a)) (best first (trials (λ start stop x. at a.curve (x - start)) a.shortest a.forbidden a.start a.stop)) s (best_numeric first _ refl) e

-- ---- the permutation test's p: P + 1 is 1 or more
p_numeric : (a : PermutationAsked) (t : Tested) → permutation_answer a ≡ given t → numeric t.p ≡ true
unfolding permutation_answer wrong_permutations
p_numeric a t e =
    let (z, is) = given_is (first_of (permutation_tests (within a))) (tested_of a.alpha a.P (counter_of (within a))) t e in
    let (i, j) = or_false (ltb most_permutations a.P) _ (or_false _ _ (not_held (permutation_tests (within a)) (all_in_order.permutation (within a)) z 4 (omega arith))).0 in
    sym (ap (λ (w : Tested). numeric w.p) is) ∙ quotient_numeric binary64 (counter_of (within a)) (a.P + 1) (omega arith) (omega (arith, ltb-false most_permutations a.P i))

pub never_NaN : NeverNaN
unfolding open_call fed_call gain_call gain_refusal search_call search_refusal stored_call stored_refusal tree_call tree_refusal why_call why_refusal stored_records ordering_call ordering_refusal predict_call
never_NaN =
    record {
      gain_sums = λ a. sums_told a.matrix (gain_refusal a) (sized_by most_rows (omega arith) a.matrix (gain_tests a) (all_in_order.gain a) refl 1 (omega arith) refl);
      search_sums = λ a. sums_told a.matrix (search_refusal a) (sized_by most_rows (omega arith) a.matrix (search_tests a) (all_in_order.search a) refl 2 (omega arith) refl);
      stored_sums = λ a. sums_told a.matrix (stored_refusal a) (sized_by most_rows (omega arith) a.matrix (stored_tests a) (all_in_order.stored a) refl 2 (omega arith) refl);
      tree_sums = λ a. sums_told a.matrix (tree_refusal a) (sized_by most_rows (omega arith) a.matrix (tree_tests a) (all_in_order.tree a) refl 3 (omega arith) refl);
      why_sums = λ a. sums_told a.matrix (why_refusal a) (sized_by most_rows (omega arith) a.matrix (why_tests a) (all_in_order.why a) refl 3 (omega arith) refl);
      open_sums = λ a. told_every numeric (open_refusal a) (replicate a.d +0) (λ z. zeros a.d);
      feed_sums = feed_numeric;
      later = λ a r i. records_numbers (fed_run a.state a.settings a.sums) r (told_in (fed_refusal a.state a.settings (fed_room a)) _ r i);
      later_node = λ a d r i. nodes_numbers (fed_run a.state a.settings a.sums) d (told_in (fed_refusal a.state a.settings (fed_room a)) _ d i) r;
      search = λ a s. answered (search_refusal a) (best (blank a.start a.stop) (trials (gain_in a.matrix) a.shortest a.forbidden a.start a.stop)) s (best_numeric (blank a.start a.stop) _ refl);
      stored = λ a r i. stored_numbers (search_in a.matrix a.shortest a.forbidden) (search_number (gain_in a.matrix) a.shortest a.forbidden) (segments_of a.matrix a.shortest a.forbidden a.source) r (told_in (stored_refusal a) (stored_of a) r i);
      why = λ a r i. stored_numbers (tree.direct (run_of a.matrix a.settings)) (search_number (gain_in a.matrix) a.settings.shortest a.settings.forbidden) (run_of a.matrix a.settings).segments r (told_in (why_refusal a) _ r i);
      tree = λ a r i. records_numbers (run_of a.matrix a.settings) r (told_in (tree_refusal a) _ r i);
      node = λ a d r i. nodes_numbers (run_of a.matrix a.settings) d (told_in (tree_refusal a) _ d i) r;
      not_above_lem = λ a gain g e. told_number (run_of a.matrix a.settings) a.row gain g (given_is (why_refusal a) (why_of (run_of a.matrix a.settings) a.row) (not_above gain g) e).1;
      pick = pick_numeric;
      ordering_distances = λ a. distances_told a.matrix (ordering_refusal a) (sized_by most_neighbours (omega arith) a.matrix (ordering_tests a) (all_in_order.ordering a) refl 1 (omega arith) refl);
      predict_distances = λ a. distances_told a.order.matrix (predict_refusal a) (predict_sized a);
      predictions = predictions_told;
      p_value_lem = p_numeric;
    }
