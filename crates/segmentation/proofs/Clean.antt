-- What holds where a call for the stored segments is not refused. Assumes nothing.
use mathlib.Core.Path.{◌≡◌, sym, ◌∙◌}
use mathlib.Core.Bool.{false, not}
use mathlib.Core.List.{List, [], ◌∷◌}
use Prim.Native.Nat.{ℕ, ◌+◌, ◌*◌, ◌≤◌}
use native.Mathlib.Nat.{mul-le-mul_right}
use native.Mathlib.Omega.{arith}
use borrow.Author.Tests.{ltb-false, not-false, not-true}
use Rattle.scope.specs.Lists.{◌∈◌}
use Rattle.scope.specs.Asked.{Matrix, Shortest}
use Rattle.scope.specs.Refusals.{first_of, most_rows, wrong_layers, no1, no2, no4, no5}
use Rattle.scope.specs.Layers.{Segment}
use Rattle.scope.specs.Draws.{pairs_of, is_past, any_past, most_stored, source_tests}
use Rattle.scope.specs.Calls.{StoredAsked, stored_tests, stored_refusal}
use Rattle.change_in_mean.proofs.Room.{SumsClean, sums_clean}
use Rattle.scope.proofs.Candidates.{not_outside}
use Rattle.scope.proofs.Members.{every_of}
use Rattle.control.specs.declared.refusal.Refusal.{Refusal}
use Rattle.control.specs.Refused.{number_of}
use Rattle.control.proofs.Clean.{passed, stops}
use Rattle.control.proofs.Follows.{numbered}
use Rattle.control.proofs.Sizes.{matrix}
use Rattle.segmentation.specs.Segments.{Within}

pub record StoredClean (a : StoredAsked) : Type 0 where
  pub sums : SumsClean a.matrix a.sums
  pub length_fits : a.shortest.m ≤ 4096
  pub layers_right : wrong_layers a.source.layers ≡ false
  pub fits : most_stored a.source ≤ a.records
  pub within : any_past a.matrix.n a.source.draws ≡ false

pub stored_clean : (a : StoredAsked) → stored_refusal a ≡ 0 → StoredClean a
unfolding stored_refusal
stored_clean a e =
    let p = passed (stored_tests a) tt e in
    let source = p.1.1.1.1 in
    let room = source.1.1.1.1 in
    record {
      sums = sums_clean a.matrix a.sums p.0 room.0;
      length_fits = (not_outside 4096 a.shortest.m p.1.0).1;
      layers_right = source.1.0;
      fits = ltb-false a.records (most_stored a.source) room.1.0;
      within = room.1.1.0;
    }

-- a matrix of the sizes
pub sizes_passed : (x : Matrix) (s : Shortest) → 0 ≡ first_of (no1 most_rows x ∷ no2 s ∷ []) → (x.n ≤ 4096) × (x.d ≤ 64)
sizes_passed x s e = let w = matrix 4096 x.cells x.n x.d (passed (no1 most_rows x ∷ no2 s ∷ []) tt (sym e)).0 in (w.rows.1, w.columns.1)

-- r is the refusal of the source, and nothing before it is refused
pub by_source : (a : StoredAsked) (r : Refusal) → 0 ≡ first_of (no1 most_rows a.matrix ∷ no2 a.shortest ∷ []) → 0 ≡ first_of (no4 a.matrix.cells ∷ no5 a.forbidden ∷ [])
    → number_of r ≡ first_of (source_tests a.source) → number_of r ≡ stored_refusal a
unfolding stored_refusal
by_source a r sizes values source =
    let p = passed (no1 most_rows a.matrix ∷ no2 a.shortest ∷ []) tt (sym sizes) in
    let q = passed (no4 a.matrix.cells ∷ no5 a.forbidden ∷ []) tt (sym values) in
    rw (p.0, p.1.0, q.0, q.1.0) (source ∙ stops (source_tests a.source) _ (λ z. numbered r (source ∙ z)))

-- a draw of the list stops there
pub draw_within : {draws : List ℕ} {d sums : ℕ} → Within draws d sums → {s t : Segment} → t ∈ pairs_of draws → s ≡ t → (s.stop ≤ 4096) × ((s.stop + 1) * d ≤ sums)
draw_within w i is = rw is (w.each _ i)

-- draws that stop within n rows, over the sums of these
pub draws_within : (draws : List ℕ) (n d sums : ℕ) → any_past n draws ≡ false → n ≤ 4096 → (n + 1) * d ≤ sums → Within draws d sums
unfolding any_past
draws_within draws n d sums h rows long = record { each = λ s i. let w = stops s i in let k : s.stop + 1 ≤ n + 1 = omega arith in (omega arith, omega (arith, mul-le-mul_right d k)) }
  where
    stops : (s : Segment) → s ∈ pairs_of draws → s.stop ≤ n
    stops s i = ltb-false n s.stop (not-true _ (every_of (λ t. not (is_past n t)) (pairs_of draws) (not-false _ h) s i))
