-- Where all gains are one and exceed the threshold, and nothing is forbidden, every segment with an allowed row is cut at the first,
-- and the tree has as many nodes and levels as any. Assumes nothing.
use mathlib.Core.Path.{◌≡◌, refl, sym, ◌∙◌, ap}
use mathlib.Core.Logic.{⊎_elim}
use mathlib.Core.Bool.{Bool, true, false}
use mathlib.Core.List.Memᴰ
use mathlib.Core.List.{List, [], ◌∷◌, map}
use mathlib.Core.Option.{some}
use Prim.Native.Nat.{ℕ, suc, ◌+◌, ◌-◌, ◌*◌, ◌/◌, ◌≤◌, ◌<◌}
use native.Mathlib.Nat.{le-div_iff_mul-le, div-lt_iff_lt-mul, div-eq-sub-div, sub-zero}
use native.Mathlib.Omega.{arith}
use borrow.Author.Tests.{leb-true, leb-false}
use lib.Dec.{leb}
use lib.Ieee.{Float, lt}
use Rattle.scope.specs.Lists.{◌∈◌}
use Rattle.scope.specs.Floats.{lowest}
use Rattle.scope.specs.Asked.{Shortest, end_of}
use Rattle.scope.specs.Allowed.{Allowed, Ascending}
use Rattle.scope.specs.Greatest.{FirstGreatest, kept, taken}
use Rattle.scope.specs.Grid.{Record, blank, trial, trials}
use Rattle.scope.specs.Tree.{Run, direct, stored_records, inside, cut, Tree, node_count, most_nodes}
use Rattle.scope.proofs.Order.{both, lt_irrefl, lt_numeric}
use Rattle.scope.proofs.Candidates.{one_at_most, no_pair, candidates_ascend}
use Rattle.demand.specs.Reached.{ruling, is_cut}
use Rattle.demand.specs.Offered.{own}
use Rattle.demand.specs.Grows.{Grows, as_leaf, as_node}
use Rattle.demand.specs.Levels.{levels, most_levels}
use Rattle.demand.proofs.Records.{not_above_lowest, rows, tries, allowed, direct_above, direct_first}
use Rattle.demand.proofs.Choice.{choice_of}
use Rattle.demand.proofs.Cut.{offered_cut, cut_choice, cut_by, cut_far}

-- ---- B
module _ (s : Shortest) (least : 1 ≤ s.m) where
  short : (L : ℕ) → end_of s L ≤ 2 * s.m → most_nodes L s ≡ 1
  short L h = let y : (end_of s L - 1) / s.m < 2 = (div-lt_iff_lt-mul least).1 (omega arith) in omega arith

  longer : (L : ℕ) → 2 * s.m < end_of s L → most_nodes L s ≡ 2 + most_nodes (L - s.m) s
  longer L h =
      let w : end_of s L - 1 - s.m ≡ end_of s (L - s.m) - 1 = omega (arith, one_at_most s) in
      let y : 1 ≤ (end_of s (L - s.m) - 1) / s.m = (le-div_iff_mul-le least).1 (omega arith) in
      let z : (end_of s L - 1) / s.m ≡ (end_of s L - 1 - s.m) / s.m + 1 = div-eq-sub-div least (omega arith) in
      rw (z, w) (omega arith)

-- ---- the first of ascending rows
not_below : (lo : ℕ) (xs : List ℕ) (y : ℕ) → Ascending lo xs → y ∈ xs → lo ≤ y
not_below lo [] y a i = absurd (Memᴰ.not-nil i)
not_below lo (x ∷ xs) y a i = ⊎_elim (λ e. omega (arith, a.0)) (λ j. omega (arith, a.0, not_below (x + 1) xs y a.1 j)) (Memᴰ.cases_cons i)

module _ (q : Run) (least : 1 ≤ q.shortest.m) (free : q.forbidden ≡ []) (g : Float)
    (all : (start stop x : ℕ) → start < x → x < stop → stop ≤ q.n → q.gain start stop x ≡ g)
    (over : lt q.threshold g ≡ true) where
  module _ (start stop : ℕ) (long : start + 2 * q.shortest.m < end_of q.shortest stop) (fits : stop ≤ q.n) where
    first_allowed : Allowed q.shortest q.forbidden start stop (start + q.shortest.m)
    first_allowed = record { low = omega arith; high = omega arith; free = λ a b p. absurd (no_pair q.forbidden a b free p) }

    row_level : (x : ℕ) → Allowed q.shortest q.forbidden start stop x → q.gain start stop x ≡ g
    row_level x w = all start stop x (omega arith) (omega (arith, one_at_most q.shortest)) fits

    is_cut_lem : is_cut (ruling q start stop) ≡ true
    is_cut_lem = offered_cut q start stop (q.gain start stop (start + q.shortest.m)) (own first_allowed) (rw (row_level (start + q.shortest.m) first_allowed) over)

    tries_level : (z : Record) → z ∈ tries q start stop → z.gain ≡ g
    unfolding trials
    tries_level z i =
        let (x, j, e) = Memᴰ.of_map (trial q.gain start stop) (rows q start stop) i in
        rw (← e) (row_level x ((allowed q start stop x).0 j))

    -- the first row that is tried
    first_row_lem : (d : Record) (later : List Record) → tries q start stop ≡ d ∷ later → d.split ≡ start + q.shortest.m
    unfolding trials
    first_row_lem d later h = go (rows q start stop) (candidates_ascend q.shortest q.forbidden start stop) ((allowed q start stop (start + q.shortest.m)).1 first_allowed) h
      where
        go : (xs : List ℕ) → Ascending (start + q.shortest.m) xs → start + q.shortest.m ∈ xs → map (trial q.gain start stop) xs ≡ d ∷ later → d.split ≡ start + q.shortest.m
        go [] a i h = absurd (Memᴰ.not-nil i)
        go (x ∷ xs) a i h =
            let is : trial q.gain start stop x ≡ d = cc in
            let x_is : x ≡ d.split = ap (λ (r : Record). r.split) is in
            ⊎_elim (λ (e : start + q.shortest.m ≡ x). omega arith) (λ j. omega (arith, a.0, not_below (x + 1) xs (start + q.shortest.m) a.1 j)) (Memᴰ.cases_cons i)

    -- of equal gains the first wins
    first_tried : (d : Record) → d.gain ≡ g → FirstGreatest (blank start stop) (tries q start stop) d → d.split ≡ start + q.shortest.m
    first_tried d e (kept h n) = let low : d.gain ≡ lowest = ap (λ (r : Record). r.gain) h in both over (rw (← e, low) (not_above_lowest q.threshold))
    first_tried d e (taken [] later h up s n) = first_row_lem d later h
    first_tried d e (taken (z ∷ earlier) later h up s n) =
        let i : z ∈ tries q start stop = rw h (Memᴰ.head refl) in
        let z-is = tries_level z i in
        let less = s z (Memᴰ.head refl) (rw z-is (lt_numeric q.threshold g over)) in
        both (rw (z-is, e) at less) (lt_irrefl g)

    cut_first : (r : Record) → ruling q start stop ≡ cut r → r.split ≡ start + q.shortest.m
    cut_first r h =
        let c = cut_by q start stop r h in
        let r_is : r.gain ≡ g = c.own ∙ all r.start r.stop r.split (omega (arith, c.row.low)) (omega (arith, c.row.high, one_at_most q.shortest)) (omega (arith, c.right)) in
        let (d, p, f) = choice_of q (stored_records q) start stop r (cut_choice q start stop r h).0 in
        go d p r_is f
      where
        go : (d : Record) → direct q start stop ≡ some d → r.gain ≡ g → FirstGreatest d (inside start stop (stored_records q)) r → r.split ≡ start + q.shortest.m
        go d p e (kept w n) = rw w (first_tried d (rw w at e) (direct_first q start stop d p))
        go d p e (taken earlier later w up s n) =
            both (rw e at up) (rw (row_level (start + q.shortest.m) first_allowed) at (direct_above q start stop d p (start + q.shortest.m) first_allowed))

  -- the left part of a cut has m rows, and is a leaf
  left_leaf : (start stop : ℕ) (r : Record) (l : Tree) → ruling q start stop ≡ cut r → Grows q start r.split l → stop ≤ q.n → node_count l ≡ 1
  unfolding node_count
  left_leaf start stop r l h (as_leaf x) fits = refl
  left_leaf start stop r l h (as_node {r = z} x y w) fits =
      let far = cut_far q start stop r h in
      let at = cut_first start stop (omega arith) fits r h in
      absurd (omega (arith, cut_far q start r.split z x))

  level_nodes : (start stop : ℕ) (t : Tree) → Grows q start stop t → start < stop → stop ≤ q.n → node_count t ≡ most_nodes (stop - start) q.shortest
  unfolding node_count
  level_nodes start stop t (as_leaf {o = o} h) filled fits = go (leb (end_of q.shortest (stop - start)) (2 * q.shortest.m)) refl
    where
      go : (b : Bool) → leb (end_of q.shortest (stop - start)) (2 * q.shortest.m) ≡ b → 1 ≡ most_nodes (stop - start) q.shortest
      go true e = sym (short q.shortest least (stop - start) (leb-true (end_of q.shortest (stop - start)) (2 * q.shortest.m) e))
      go false e = let long = leb-false (end_of q.shortest (stop - start)) (2 * q.shortest.m) e in both (is_cut_lem start stop (omega arith) fits) (ap is_cut h)
  level_nodes start stop t (as_node {r = r} {s = l} {t = u} h x y) filled fits =
      let far = cut_far q start stop r h in
      let at = cut_first start stop (omega arith) fits r h in
      let L = left_leaf start stop r l h x fits in
      let R = level_nodes r.split stop u y (omega arith) fits in
      let rest : stop - r.split ≡ stop - start - q.shortest.m = omega arith in
      rw (L, R, longer q.shortest least (stop - start) (omega arith), rest) (omega arith)

  -- each cut leaves a leaf on its left, so that it adds one level and two nodes
  level_levels : (start stop : ℕ) (t : Tree) → Grows q start stop t → start < stop → stop ≤ q.n → 2 * levels t ≡ suc (node_count t)
  unfolding levels node_count
  level_levels start stop t (as_leaf h) filled fits = refl
  level_levels start stop t (as_node {r = r} {s = l} {t = u} h x y) filled fits =
      let far = cut_far q start stop r h in
      omega (arith, left_leaf start stop r l h x fits, level_levels start r.split l x (omega arith) (omega arith), level_levels r.split stop u y (omega arith) fits)

  pub level_most : (T : Tree) → Grows q 0 q.n T → 1 ≤ q.n → (node_count T ≡ most_nodes q.n q.shortest) × (levels T ≡ most_levels q.n q.shortest)
  level_most T whole filled =
      let nodes : node_count T ≡ most_nodes q.n q.shortest = rw sub-zero at (level_nodes 0 q.n T whole filled (omega arith)) in
      (nodes, omega (arith, level_levels 0 q.n T whole filled (omega arith)))
