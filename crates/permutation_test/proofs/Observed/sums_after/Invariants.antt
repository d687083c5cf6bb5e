-- What the loop of `sums_after` keeps: what is left to add is what follows.
use Rattle.std.proofs.Common.{◌≡◌, drop}
use Rattle.scope.specs.Permutations.{added}
use Rattle.classifier_gain.specs.Asked.{deltas_of}
use Rattle.permutation_test.proofs.Observed.sums_after.Given as goal

abbrev pub invariant-loop-i : goal.invariant-loop-i
invariant-loop-i g l = let curves = deltas_of l.self.curves.now in added curves l.indices l.fn.sums ≡ added curves (drop l.i-index l.indices) l.after
