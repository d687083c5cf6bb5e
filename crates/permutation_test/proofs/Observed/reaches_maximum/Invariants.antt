-- What the loop of `reaches_maximum` keeps: no sum so far has reached the maximum, and so it turns on what follows.
use Rattle.std.proofs.Common.{◌≡◌, drop}
use Rattle.scope.specs.Permutations.{reaches}
use Rattle.classifier_gain.specs.Asked.{deltas_of}
use Rattle.permutation_test.proofs.Observed.reaches_maximum.Given as goal

abbrev pub invariant-loop-i : goal.invariant-loop-i
invariant-loop-i g l =
    let curves = deltas_of l.self.curves.now in
    reaches curves l.self.maximum l.indices l.fn.sums ≡ reaches curves l.self.maximum (drop l.i-index l.indices) l.after
