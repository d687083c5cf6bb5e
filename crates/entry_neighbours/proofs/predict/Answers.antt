-- `predict` meets its contract: where nothing is refused, all that the ordering and the predictions ask holds.
use Rattle.std.proofs.Common.{sym}
use Rattle.distances.proofs.Distances.{filled}
use Rattle.entry_neighbours.proofs.Clean.{predict_clean}
use Rattle.entry_neighbours.proofs.predict.Goals as goal

pub calculate_ordering-requires : goal.calculate_ordering-requires
calculate_ordering-requires c = let w = (predict_clean _ (sym c.in_ok-predict_refusal.ensures)).order in (w.shape, w.orders_fit, w.distances_fit)

pub predict-requires : goal.predict-requires
predict-requires c =
    let x = c.args.matrix in
    let w = predict_clean _ (sym c.in_ok-predict_refusal.ensures) in
    (filled x.cells.now x.n x.d w.order.shape.rows c.args.ordering.now _ c.calculate_ordering.ensures.orders, w.some_rows, w.within, w.fits)
