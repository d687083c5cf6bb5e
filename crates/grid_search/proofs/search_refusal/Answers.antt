-- `search_refusal` meets its contract: past the first tests, rows, columns and shortest part have their sizes.
use mathlib.Core.Path.{◌≡◌, sym}
use mathlib.Core.List.{[], ◌∷◌}
use Prim.Native.Nat.{◌≤◌}
use Rattle.scope.specs.Asked.{Matrix, Shortest}
use Rattle.scope.specs.Refusals.{first_of, most_rows, no1, no2}
use Rattle.scope.proofs.Candidates.{not_outside}
use Rattle.control.specs.Settings.{matrix_of, shortest_of}
use Rattle.control.proofs.Clean.{passed}
use Rattle.control.proofs.Sizes.{matrix}
use Rattle.grid_search.proofs.search_refusal.Goals as goal

sizes : (x : Matrix) (s : Shortest) → 0 ≡ first_of (no1 most_rows x ∷ no2 s ∷ []) → (x.n ≤ 4096) × (x.d ≤ 64) × (s.m ≤ 4096)
sizes x s e =
    let p = passed (no1 most_rows x ∷ no2 s ∷ []) tt (sym e) in
    let w = matrix 4096 x.cells x.n x.d p.0 in
    (w.rows.1, w.columns.1, (not_outside 4096 s.m p.1.0).1)

pub sums_len-requires : goal.sums_len-requires
sums_len-requires c = let w = sizes (matrix_of c.args.matrix) (shortest_of c.args.allowed.shortest) c.in_ok-sizes_refusal.ensures in (w.0, w.1)

pub segment_refusal-requires : goal.segment_refusal-requires
segment_refusal-requires c = let w = sizes (matrix_of c.args.matrix) (shortest_of c.args.allowed.shortest) c.in_ok-sizes_refusal.ensures in (w.0, w.2)
