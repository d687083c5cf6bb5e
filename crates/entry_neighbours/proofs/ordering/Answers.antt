-- `ordering` meets its contract: where nothing is refused, all that the ordering asks holds.
use Rattle.std.proofs.Common.{sym}
use Rattle.entry_neighbours.proofs.Clean.{ordering_clean}
use Rattle.entry_neighbours.proofs.ordering.Goals as goal

pub calculate_ordering-requires : goal.calculate_ordering-requires
calculate_ordering-requires c = let w = ordering_clean _ (sym c.in_ok-ordering_refusal.ensures) in (w.shape, w.orders_fit, w.distances_fit)
