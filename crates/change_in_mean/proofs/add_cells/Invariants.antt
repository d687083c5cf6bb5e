-- What the loop of `add_cells` keeps: the sums of the cells passed stand.
use Rattle.std.proofs.Common.{◌≡◌}
use Rattle.scope.specs.Feed.{fed_sums}
use Rattle.change_in_mean.proofs.add_cells.Given as goal

abbrev pub invariant-loop-k : goal.invariant-loop-k
invariant-loop-k l = l.sums ≡ fed_sums l.cells l.d l.count l.fn.sums l.k
