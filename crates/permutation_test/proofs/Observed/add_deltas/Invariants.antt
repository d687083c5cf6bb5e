-- What the loop of `add_deltas` keeps: the first c sums are the next ones.
use Rattle.std.proofs.Common.{◌≡◌, ◌++◌, take, drop}
use Rattle.scope.specs.Permutations.{add_deltas}
use Rattle.classifier_gain.specs.Asked.{deltas_of}
use Rattle.permutation_test.proofs.Observed.add_deltas.Given as goal

abbrev pub invariant-loop-c : goal.invariant-loop-c
invariant-loop-c g l = l.next ≡ take l.c (add_deltas (deltas_of l.self.curves.now) l.i l.fn.sums) ++ drop l.c l.fn.sums
