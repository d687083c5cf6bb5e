-- What holds where a call is not refused. Assumes nothing.
use mathlib.Core.Path.{◌≡◌, sym}
use mathlib.Core.Bool.{false}
use mathlib.Core.List.{[], ◌∷◌}
use Prim.Native.Nat.{◌-◌, ◌*◌, ◌≤◌, ◌<◌}
use native.Mathlib.Omega.{arith}
use borrow.Author.Tests.{ltb-false, eqb-false, not-false}
use Rattle.scope.specs.Floats.{is_finite}
use Rattle.scope.specs.Lists.{every}
use Rattle.scope.specs.Calls.{OrderingAsked, ordering_tests, ordering_refusal, PredictAsked, predict_tests, predict_refusal}
use Rattle.control.proofs.Sizes.{matrix, segment}
use Rattle.control.proofs.Clean.{passed, answers}
use Rattle.distances.specs.Matrix.{Orderable}

-- ---- neighbours
pub record OrderingClean (a : OrderingAsked) : Type 0 where
  pub shape : Orderable a.matrix.cells a.matrix.n a.matrix.d
  pub orders_fit : a.matrix.n * a.matrix.n ≤ a.ordering
  pub distances_fit : a.matrix.n ≤ a.distances

pub ordering_clean : (a : OrderingAsked) → ordering_refusal a ≡ 0 → OrderingClean a
unfolding ordering_refusal
ordering_clean a e =
    let x = a.matrix in
    let p = passed (ordering_tests a) tt e in
    let w = matrix 1024 x.cells x.n x.d p.0 in
    record {
      shape = record { some = w.rows.0; rows = w.rows.1; columns = w.columns.1; table = w.long; finite = not-false (every is_finite x.cells) p.1.0 };
      orders_fit = ltb-false a.ordering (x.n * x.n) p.1.1.0;
      distances_fit = ltb-false a.distances x.n p.1.1.1.0;
    }

pub record PredictClean (a : PredictAsked) : Type 0 where
  pub order : OrderingClean a.order
  pub fits : a.stop - a.start ≤ a.room
  pub some_rows : a.start < a.stop
  pub within : a.stop ≤ a.order.matrix.n

pub predict_clean : (a : PredictAsked) → predict_refusal a ≡ 0 → PredictClean a
unfolding ordering_refusal predict_refusal
predict_clean a e =
    let p = passed (predict_tests a) tt e in
    let own = p.1.1.1.1 in
    let seg = segment a.order.matrix.n a.start a.stop own.1.0 in
    let different = eqb-false a.start a.stop own.1.1.1.0 in
    record {
      order = ordering_clean a.order (sym (answers (ordering_tests a.order) (false ∷ false ∷ false ∷ false ∷ []) (p.0, (p.1.0, (p.1.1.0, (p.1.1.1.0, tt))))));
      fits = ltb-false a.room (a.stop - a.start) own.0;
      some_rows = omega arith;
      within = seg.1;
    }
