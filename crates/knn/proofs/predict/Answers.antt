-- `predict` meets its contract. After i turns the first i predictions stand. Assumes nothing.
use mathlib.Core.Path.{◌≡◌, refl, sym, ap, ◌∙◌}
use mathlib.Core.List.{List, [], ◌++◌, append-nil}
use Prim.Native.Nat.{ℕ, zero, suc, ◌+◌, ◌-◌, ◌*◌, ◌^◌, ◌≤◌, ◌<◌}
use native.Mathlib.Numerals.{add-one}
use native.Mathlib.Omega.{arith}
use lib.Dec.{T, leb, le→leb}
use lib.IntN.{pos}
use lib.Ieee.{Float, binary64, in_float}
use lib.Seq.{drop-length, length-take-le}
use lib.ListN.{length, take, drop, set, length-append, length-take, take-append-drop}
use Rattle.scope.specs.Floats.{◌⊘◌, whole}
use Rattle.scope.specs.Lists.{holding, select}
use Rattle.scope.specs.Rounding.{whole_root}
use Rattle.scope.specs.Neighbours.{order_of, orders, neighbours, count_of, predictions}
use Rattle.scope.proofs.Lists.{store_more}
use Rattle.rounding.proofs.Root.{square_ge, root_is}
use Rattle.distances.specs.Matrix.{Filled}
use Rattle.distances.proofs.Distances.{row_in, length_order, length_orders, order_at}
use Rattle.knn.proofs.Counts.{past_are, few_of}
use Rattle.knn.proofs.predict.Goals as goal
use Rattle.knn.proofs.predict.Invariants.{State}

length-predictions : (cells : List Float) (n d start stop split i : ℕ) → length (predictions cells n d start stop split i) ≡ i
unfolding predictions
length-predictions cells n d start stop split zero = refl
length-predictions cells n d start stop split (suc i) = length-append (predictions cells n d start stop split i) _ ∙ rw (length-predictions cells n d start stop split i, add-one)

-- the order of a row, in the table
module _ {cells : List Float} {n d : ℕ} {ordering : List ℕ} (filled : Filled cells n d ordering) {row : ℕ} (there : row < n) where
  fits : row * n + n ≤ length ordering
  fits = omega (arith, row_in row n n (n * n) there refl, sym (length-take (n * n) ordering) ∙ ap length filled.table ∙ length_orders cells n d n)

  row-order : take (row * n + n - row * n) (drop (row * n) ordering) ≡ order_of cells n d row
  row-order =
      let w : row * n + n - row * n ≡ n = omega arith in
      let e : ordering ≡ orders cells n d n ++ drop (n * n) ordering = sym (take-append-drop (n * n) ordering) ∙ ap (λ (l : List ℕ). l ++ drop (n * n) ordering) filled.table in
      rw (w, e) (order_at cells n d row n (drop (n * n) ordering) there)

  row-length : length (take (row * n + n - row * n) (drop (row * n) ordering)) ≡ n
  row-length = ap length row-order ∙ length_order cells n d row

  count-is : (start stop split i : ℕ) {count : ℕ} → row ≡ start + i → count ≡ length (select (leb split) (neighbours start stop row (take (row * n + n - row * n) (drop (row * n) ordering)))) → count ≡ count_of cells n d start stop split (start + i)
  unfolding count_of
  count-is start stop split i e f = rw (← e) (f ∙ rw row-order)

begin : {cells : List Float} {n d start stop split k : ℕ} {out : List Float} → k ≡ whole_root (stop - start) → length out ≡ stop - start → State cells n d start stop split k out out 0
unfolding predictions
begin {start = start} {stop = stop} f e = record { root = f; few = omega (arith, (root_is (stop - start)).0, square_ge (whole_root (stop - start))); size = e; held = refl }

module _ {cells : List Float} {n d start stop split k : ℕ} {out₀ out : List Float} {i : ℕ} (s : State cells n d start stop split k out₀ out i) where
  next : i < length out₀ → {count : ℕ} → count ≡ count_of cells n d start stop split (start + i) → State cells n d start stop split k out₀ (set out i (whole count ⊘ whole k)) (i + 1)
  unfolding predictions
  next l {count} e =
      record {
        root = s.root;
        few = s.few;
        size = s.size;
        held = rw (s.held, e, s.root) (store_more (predictions cells n d start stop split i) out₀ i _ (length-predictions cells n d start stop split i) l ∙ rw (add-one i));
      }

  finish : i ≡ length out₀ → (before : List Float) (L : ℕ) → L ≡ stop - start → out ++ drop L before ≡ holding (predictions cells n d start stop split (stop - start)) before
  finish h before L e =
      let all : i ≡ stop - start = h ∙ s.size in
      let none : drop (stop - start) out₀ ≡ [] = rw (← s.size) (drop-length out₀) in
      rw (s.held, all, none, append-nil, e, length-predictions cells n d start stop split (stop - start))

small : (n : ℕ) → n ≤ 1024 → T (in_float binary64 (pos n))
unfolding in_float
small n h = le→leb n (2 ^ 53) (omega arith)

pub loop-i-init : goal.loop-i-init
loop-i-init c =
    begin (c.whole_root-k.ensures ∙ ap whole_root c.length-length.ensures) (length-take-le c.length-length.result c.args.predictions.now (omega (arith, c.requires.3)) ∙ c.length-length.ensures)

pub slice_bounds-count_past-end : goal.slice_bounds-count_past-end
slice_bounds-count_past-end c = let there : c.position_from-row.result.0 < c.args.matrix.n = omega (arith, c.requires, c.loop-i.invariant.size) in fits c.requires.0 there

pub int_to_float-prediction : goal.int_to_float-prediction
int_to_float-prediction c =
    let few : c.count_past-count.result ≤ c.whole_root-k.result = few_of _ _ _ _ c.count_past-count.ensures in
    small c.count_past-count.result (omega (arith, c.loop-i.invariant.few, c.requires.2, c.requires.0.rows))

pub loop-i-preserved : goal.loop-i-preserved
loop-i-preserved c =
    let s = c.args in
    let there : c.position_from-row.result.0 < s.matrix.n = omega (arith, c.requires, c.loop-i.invariant.size) in
    let order = take (c.position_from-row.result.0 * s.matrix.n + s.matrix.n - c.position_from-row.result.0 * s.matrix.n) (drop (c.position_from-row.result.0 * s.matrix.n) s.ordering.now) in
    let past = past_are s.segment.start.0 s.segment.stop.0 c.position_from-row.result.0 s.split.0 c.whole_root-k.result order c.loop-i.invariant.root in
    let count = count-is c.requires.0 there s.segment.start.0 s.segment.stop.0 s.split.0 c.loop-i.i c.position_from-row.ensures (c.count_past-count.ensures ∙ sym past) in
    next c.loop-i.invariant (omega arith) count

pub returns : goal.returns
returns c = finish c.loop-i.invariant (omega arith) c.args.predictions.now c.length-length.result c.length-length.ensures
