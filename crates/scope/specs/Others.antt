-- "From now on the row itself is dropped, wherever it stands. Where no two rows are at distance 0 nothing changes": what is left of a row's order, in the
-- words that a reader checks, and where document 01's rule (FirstDropped) leaves the same. proofs/Others.antt has LeaveOneOut for every call.
use Rattle.std.specs.Prelude.{◌≡◌, ◌↔◌, ◌≢◌, true, List, ℕ, ◌-◌, ◌≤◌, ◌<◌, min, Float, length, drop}
use Rattle.std.specs.Float.Ieee.{eq}
use Rattle.scope.specs.Floats.{+0}
use Rattle.scope.specs.Lists.{◌∈◌}
use Rattle.scope.specs.Refusals.{told_unless}
use Rattle.scope.specs.Rounding.{whole_root}
use Rattle.scope.specs.Neighbours.{squares, distances, order_of, others, neighbours}
use Rattle.scope.specs.Sorted.{Before, Sorted}
use Rattle.scope.specs.Calls.{PredictAsked, predict_refusal, predict_call}
use Rattle.scope.specs.FirstDropped as before

-- the rows i and j are at distance 0: the squared distance as it is computed, so that 1e-200 and 0 are
abbrev pub AtZero : List Float → ℕ → ℕ → ℕ → Type 0
AtZero cells d i j = eq (squares cells d i j d) +0 ≡ true

-- no row of lower index is at distance 0 from row i
abbrev pub NoneLower : List Float → ℕ → ℕ → Type 0
NoneLower cells d i = (j : ℕ) → j < i → AtZero cells d i j → ⊥

-- the order of row i without the row
pub record WithoutRow (cells : List Float) (n d i : ℕ) : Type 0 where
  -- it holds every row but this one, in the order that they had
  pub rows : (j : ℕ) → (j ∈ others i (order_of cells n d i)) ↔ ((j < n) × (j ≢ i))
  pub sorted : Sorted (distances cells d i n) (others i (order_of cells n d i))
  -- where no other row is at distance 0 from the row it is the order without its first
  pub alone : ((j : ℕ) → j < n → AtZero cells d i j → j ≡ i) → others i (order_of cells n d i) ≡ drop 1 (order_of cells n d i)
  -- and that exactly where no row of lower index is
  pub exactly : (others i (order_of cells n d i) ≡ drop 1 (order_of cells n d i)) ↔ NoneLower cells d i

-- "The intent stated in the Rust is leave-one-out": the neighbours of row i of a segment are its k nearest, the row itself left out
pub record Nearest (cells : List Float) (n d start stop i : ℕ) : Type 0 where
  -- each is another row of the segment
  pub another : (j : ℕ) → j ∈ neighbours start stop i (order_of cells n d i) → (start ≤ j) × (j < stop) × (j ≢ i)
  -- there are k of them, or all if the segment has fewer others
  pub many : length (neighbours start stop i (order_of cells n d i)) ≡ min (whole_root (stop - start)) (stop - start - 1)
  -- and each comes before every other row of the segment that is none of them
  pub nearest : (j l : ℕ)
      → j ∈ neighbours start stop i (order_of cells n d i)
      → start ≤ l
      → l < stop
      → l ≢ i
      → (l ∈ neighbours start stop i (order_of cells n d i) → ⊥)
      → Before (distances cells d i n) j l

-- what a call is told, whatever it is asked
pub record LeaveOneOut (a : PredictAsked) : Type 0 where
  -- if it is not refused, of each row of its segment
  pub without : predict_refusal a ≡ 0 → (i : ℕ) → a.start ≤ i → i < a.stop → WithoutRow a.order.matrix.cells a.order.matrix.n a.order.matrix.d i
  pub nearest : predict_refusal a ≡ 0 → (i : ℕ) → a.start ≤ i → i < a.stop → Nearest a.order.matrix.cells a.order.matrix.n a.order.matrix.d a.start a.stop i
  -- the predictions of before, where no row of the segment has one of lower index at distance 0, be that one in the segment or not
  pub unchanged : ((i : ℕ) → a.start ≤ i → i < a.stop → NoneLower a.order.matrix.cells a.order.matrix.d i)
      → (predict_call a).predictions ≡ told_unless (predict_refusal a) (before.predictions_of a)
