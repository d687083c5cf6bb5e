-- What the loop of `square_distance` keeps: the sum over the columns passed.
use Rattle.std.proofs.Common.{◌≡◌}
use Rattle.scope.specs.Neighbours.{squares}
use Rattle.distances.proofs.square_distance.Given as goal

abbrev pub invariant-loop-c : goal.invariant-loop-c
invariant-loop-c l = l.sum ≡ squares l.matrix.cells.now l.matrix.d l.fn.i.0 l.fn.j.0 l.c
