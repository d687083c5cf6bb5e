-- What the loop of `count_from` keeps: the count after q permutations.
use Rattle.std.proofs.Common.{◌≡◌, take}
use Rattle.scope.specs.Permutations.{counter}
use Rattle.control.specs.Settings.{shortest_of}
use Rattle.classifier_gain.specs.Asked.{deltas_of}
use Rattle.permutation_test.proofs.count_from.Given as goal

abbrev pub invariant-loop-q : goal.invariant-loop-q
invariant-loop-q g l = l.counted ≡ counter (shortest_of l.fn.shortest) l.l l.bases (take l.fn.curves.k (deltas_of l.fn.curves.lent)) l.maximum l.permutations.indices.now l.q
