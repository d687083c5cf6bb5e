-- How many nodes, levels, cuts and records there are at most. Assumes nothing.
use mathlib.Core.Path.{◌≡◌, refl, ap}
use mathlib.Core.List.{◌∷◌, ◌++◌}
use Prim.Native.Nat.{ℕ, zero, suc, ◌+◌, ◌-◌, ◌*◌, ◌/◌, ◌≤◌}
use native.Mathlib.Nat.{le-div_iff_mul-le}
use native.Mathlib.Omega.{arith}
use lib.ListN.{length, length-append}
use Rattle.scope.specs.Asked.{end_of}
use Rattle.scope.specs.Tree.{Run, direct, stored_records, Tree, leaf, node, nodes, node_count, cuts, sheet, most_nodes}
use Rattle.scope.proofs.Candidates.{one_at_most}
use Rattle.scope.proofs.Stored.{one_few, stored_few}
use Rattle.demand.specs.Grows.{Grows, directs}
use Rattle.demand.specs.Spaced.{last_gap}
use Rattle.demand.specs.Levels.{levels, most_levels}
use Rattle.demand.proofs.Sheet.{sheet_node, spaced_least, sheet_spaced}

-- two nodes for each cut, and one
pub count_sheet : (t : Tree) → node_count t ≡ suc (2 * length (sheet t))
unfolding node_count sheet cuts
count_sheet (leaf start stop o) = refl
count_sheet (node start stop r s t) = rw (sheet_node start stop r s t) (omega (arith, count_sheet s, count_sheet t, length-append (sheet s) (r.split ∷ sheet t)))

pub count_nodes : (p : ℕ) (t : Tree) → node_count t ≡ length (nodes p t)
unfolding node_count nodes
count_nodes p (leaf start stop o) = refl
count_nodes p (node start stop r s t) = ap suc (omega (arith, length-append (nodes (p + 1) s) (nodes (p + 1 + node_count s) t), count_nodes (p + 1) s, count_nodes (p + 1 + node_count s) t))

-- at least two nodes more for each level after the first
count_levels : (t : Tree) → 2 * levels t ≤ suc (node_count t)
unfolding levels node_count
count_levels (leaf start stop o) = omega arith
count_levels (node start stop r s t) = omega (arith, count_levels s, count_levels t, count_sheet s, count_sheet t)

module _ (q : Run) (least : 1 ≤ q.shortest.m) (T : Tree) (whole : Grows q 0 q.n T) where
  pub nodes_few : node_count T ≤ most_nodes q.n q.shortest
  nodes_few = go (length (sheet T)) refl
    where
      go : (k : ℕ) → length (sheet T) ≡ k → node_count T ≤ most_nodes q.n q.shortest
      go zero h = omega (arith, count_sheet T)
      go (suc k) h =
          let sp = spaced_least q.shortest.m (last_gap q.shortest) 0 (sheet T) q.n (sheet_spaced q T whole (omega arith)) in
          let mul : length (sheet T) * q.shortest.m ≡ suc k * q.shortest.m = ap (λ (x : ℕ). x * q.shortest.m) h in
          let up : suc (suc k) * q.shortest.m ≤ end_of q.shortest q.n - 1 = omega (arith, one_at_most q.shortest) in
          omega (arith, count_sheet T, (le-div_iff_mul-le least).1 up)

  pub levels_few : levels T ≤ most_levels q.n q.shortest
  levels_few = omega (arith, nodes_few, count_levels T)

  pub cuts_few : length (sheet T) ≤ (most_nodes q.n q.shortest - 1) / 2
  cuts_few = omega (arith, nodes_few, count_sheet T)

directs_few : (q : Run) (t : Tree) → length (directs q t) ≤ node_count t
unfolding directs node_count
directs_few q (leaf start stop o) = one_few (direct q start stop)
directs_few q (node start stop r s t) = simp length-append (omega (arith, one_few (direct q start stop), directs_few q s, directs_few q t))

pub records_few : (q : Run) (t : Tree) → length (stored_records q ++ directs q t) ≤ length q.segments + node_count t
unfolding stored_records
records_few q t = simp length-append (omega (arith, stored_few (direct q) q.segments, directs_few q t))
