-- What the loop of `distances_from` keeps: the distances to the rows passed, and behind them what was there.
use Rattle.std.proofs.Common.{◌≡◌, ◌++◌, drop}
use Rattle.scope.specs.Neighbours.{distances}
use Rattle.distances.proofs.distances_from.Given as goal

abbrev pub invariant-loop-j : goal.invariant-loop-j
invariant-loop-j l = l.ds ≡ distances l.matrix.cells.now l.matrix.d l.i.0 l.j ++ drop l.j l.initial.ds
