-- `calculate_ordering` meets its contract. After i turns the first i orders stand, and the distances of the row before. Assumes nothing.
use mathlib.Core.Path.{◌≡◌, refl, sym, ap, ◌∙◌}
use mathlib.Core.List.{List, ◌++◌}
use Prim.Native.Nat.{ℕ, suc, ◌+◌, ◌-◌, ◌*◌, ◌≤◌, ◌<◌}
use native.Mathlib.Nat.{add-mul, zero-mul}
use native.Mathlib.Numerals.{add-one}
use native.Mathlib.Omega.{arith}
use borrow.Rule.Slice.PartMut.{put_mid}
use lib.Ieee.{Float}
use lib.ListN.{length, take, drop, length-append, length-drop, take-append-drop}
use lib.Seq.{take_at, drop_at, length-take-le}
use Rattle.scope.specs.Lists.{holding}
use Rattle.scope.specs.Neighbours.{distances, ordered, order_of, orders}
use Rattle.order.specs.Rows.{Numeric}
use Rattle.distances.specs.Matrix.{Orderable}
use Rattle.order.proofs.Parts.{put_more}
use Rattle.scope.proofs.Signs.{length_distances}
use Rattle.distances.proofs.Distances.{row_in, length_orders, distances_numeric}
use Rattle.distances.proofs.calculate_ordering.Goals as goal
use Rattle.distances.proofs.calculate_ordering.Invariants.{State}

start : {cells : List Float} {n d : ℕ} {ordering : List ℕ} {ds : List Float} → Orderable cells n d × (n * n ≤ length ordering) × (n ≤ length ds) → State cells n d ordering ordering ds ds 0
unfolding orders
start {n = n} p = record { matrix = p.0; room = p.1; width = p.2; turns = omega arith; long = refl; wide = refl; held = rw (zero-mul n); last = λ k e. absurd (omega arith); kept = refl }

module _ {cells : List Float} {n d : ℕ} {ordering₀ ordering : List ℕ} {ds₀ ds : List Float} {i : ℕ} (s : State cells n d ordering₀ ordering ds₀ ds i) where
  first-n : length (take n ds) ≡ n
  first-n = length-take-le n ds (omega (arith, s.wide, s.width))

  fits : i < n → i * n + n ≤ length ordering
  fits h = omega (arith, row_in i n n (n * n) h refl, s.room, s.long)

  -- a turn, e being the distances that it stores
  module _ (more : i < n) {e : List Float} (f : e ≡ distances cells d i (length (take n ds))) where
    e_is : e ≡ distances cells d i n
    e_is = rw first-n at f

    e_length : length e ≡ n
    e_length = ap length e_is ∙ length_distances cells d i n

    front : take n (e ++ drop n ds) ≡ distances cells d i n
    front = take_at e (drop n ds) n e_length ∙ e_is

    front-n : length (take n (e ++ drop n ds)) ≡ n
    front-n = ap length front ∙ length_distances cells d i n

    next-width : length (e ++ drop n ds) ≡ length ds₀
    next-width = length-append e (drop n ds) ∙ rw (e_length, length-drop n ds) (omega (arith, s.wide, s.width))

    ready : (length (take n (e ++ drop n ds)) ≤ 1024) × (length (take (i * n + n - i * n) (drop (i * n) ordering)) ≡ length (take n (e ++ drop n ds))) × Numeric (take n (e ++ drop n ds))
    ready =
        let w : i * n + n - i * n ≡ n = omega arith in
        rw (front, length_distances cells d i n, w)
        (s.matrix.rows, length-take-le n (drop (i * n) ordering) (omega (arith, length-drop (i * n) ordering, fits more)), distances_numeric cells n d s.matrix i more)

    next : {row : List ℕ} → row ≡ ordered (take n (e ++ drop n ds)) 0 (length (take n (e ++ drop n ds)))
        → State cells n d ordering₀ (put_mid (i * n) (i * n + n - i * n) ordering row) ds₀ (e ++ drop n ds) (i + 1)
    unfolding orders order_of
    next {row} g =
        let w : (i + 1) * n ≡ i * n + n = omega (arith, add-mul i 1 n) in
        let r : row ≡ order_of cells n d i = rw (front, length_distances cells d i n) at g in
        let all : put_mid (i * n) (i * n + n - i * n) ordering row ≡ orders cells n d (i + 1) ++ drop ((i + 1) * n) ordering₀ =
        rw (s.held, put_more (orders cells n d i) ordering₀ row (i * n) n (length_orders cells n d i), w, r, add-one) in
        record {
          matrix = s.matrix;
          room = s.room;
          width = s.width;
          turns = omega arith;
          long = ap length all ∙ length-append (orders cells n d (i + 1)) (drop ((i + 1) * n) ordering₀) ∙ rw (length_orders cells n d (i + 1), length-drop ((i + 1) * n) ordering₀, w) (omega (arith, fits more, s.long));
          wide = next-width;
          held = all;
          last = λ k h. let z : k ≡ i = omega arith in rw z front;
          kept = drop_at e (drop n ds) n e_length ∙ s.kept;
        }

  finish : n ≤ i → (ordering ≡ holding (orders cells n d n) ordering₀) × (ds ≡ holding (distances cells d (n - 1) n) ds₀)
  finish h =
      let e : i ≡ n = omega (arith, s.turns) in
      let k : i ≡ suc (n - 1) = omega (arith, s.matrix.some) in
      (rw (e, ← length_orders cells n d n) at s.held, sym (take-append-drop n ds) ∙ rw (s.last (n - 1) k, s.kept, length_distances cells d (n - 1) n))

pub distances_from-requires : goal.distances_from-requires
distances_from-requires c =
    let at = c.loop-i.invariant in
    let l = first-n at in
    (at.matrix.columns, omega (arith, l, at.matrix.rows), omega (arith, l), rw l at.matrix.table)

pub loop-i-preserved : goal.loop-i-preserved
loop-i-preserved c = next c.loop-i.invariant c.loop-i-test.true c.distances_from.ensures c.order_row.ensures

pub loop-i-init : goal.loop-i-init
loop-i-init c = start c.requires

pub order_row-requires : goal.order_row-requires
order_row-requires c = ready c.loop-i.invariant c.loop-i-test.true c.distances_from.ensures
