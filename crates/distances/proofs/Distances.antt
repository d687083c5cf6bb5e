-- A matrix's rows, their distances, and their orders in one table. Assumes nothing.
use mathlib.Core.Path.{◌≡◌, sym, ◌∙◌}
use mathlib.Core.Bool.{true}
use mathlib.Core.List.{List, ◌++◌, append_assoc}
use Prim.Native.Nat.{ℕ, zero, suc, ◌+◌, ◌*◌, ◌≤◌, ◌<◌}
use native.Mathlib.Decide.{dec_lt}
use native.Mathlib.Nat.{add-mul, zero-mul, mul-le-mul_right}
use native.Mathlib.Omega.{arith}
use lib.Ieee.{Float}
use lib.ListN.{length, get_or, take, drop, length-append, get_or-eq_default}
use lib.Seq.{take_at, drop_at}
use Rattle.scope.specs.Floats.{+0}
use Rattle.scope.specs.Greatest.{numeric}
use Rattle.scope.specs.Lists.{holding}
use Rattle.scope.specs.Neighbours.{distances, order_of, orders}
use Rattle.scope.proofs.Signs.{length_distances}
use Rattle.scope.proofs.Ordering.{ordered_length, no_NaN}
use Rattle.order.specs.Rows.{Numeric}
use Rattle.distances.specs.Matrix.{Orderable, Filled}

-- row i of n lies in the table
pub row_in : (i n d l : ℕ) → i < n → l ≡ n * d → i * d + d ≤ l
row_in i n d l h e = omega (arith, mul-le-mul_right d h, add-mul i 1 d)

pub distances_numeric : (cells : List Float) (n d : ℕ) → Orderable cells n d → (i : ℕ) → i < n → Numeric (distances cells d i n)
distances_numeric cells n d m i h j = go (dec_lt j n)
  where
    go : Dec (j < n) → numeric (get_or (distances cells d i n) j +0) ≡ true
    go (yes k) = no_NaN cells n d m.finite m.table i h j (omega arith) (omega arith)
    go (no k) = rw (get_or-eq_default (distances cells d i n) +0 {n = j} (omega (arith, length_distances cells d i n)))

-- ---- the table of orders
module _ (cells : List Float) (n d : ℕ) where
  pub length_order : (i : ℕ) → length (order_of cells n d i) ≡ n
  unfolding order_of
  length_order i = ordered_length (distances cells d i n) 0 n

  pub length_orders : (k : ℕ) → length (orders cells n d k) ≡ k * n
  unfolding orders
  length_orders zero = sym (zero-mul n)
  length_orders (suc k) = length-append (orders cells n d k) (order_of cells n d k) ∙ rw (length_orders k, length_order k) (omega (arith, add-mul k 1 n))

  -- in a slice that holds it
  pub filled : n ≤ 1024 → (before ordering : List ℕ) → ordering ≡ holding (orders cells n d n) before → Filled cells n d ordering
  filled h before ordering e = record { rows = h; table = rw e (take_at (orders cells n d n) _ (n * n) (length_orders n)) }

  -- the order of one row
  pub order_at : (i k : ℕ) (rest : List ℕ) → i < k → take n (drop (i * n) (orders cells n d k ++ rest)) ≡ order_of cells n d i
  unfolding orders
  order_at i zero rest h = absurd (omega arith)
  order_at i (suc k) rest h = rw append_assoc (go (dec_lt i k) (order_at i k (order_of cells n d k ++ rest)))
    where
      go : Dec (i < k) → (i < k → take n (drop (i * n) (orders cells n d k ++ (order_of cells n d k ++ rest))) ≡ order_of cells n d i)
          → take n (drop (i * n) (orders cells n d k ++ (order_of cells n d k ++ rest))) ≡ order_of cells n d i
      go (yes l) earlier = earlier l
      go (no l) earlier =
          let f : i ≡ k = omega arith in
          rw (f, drop_at (orders cells n d k) (order_of cells n d k ++ rest) (k * n) (length_orders k)) (take_at (order_of cells n d k) rest n (length_order k))
