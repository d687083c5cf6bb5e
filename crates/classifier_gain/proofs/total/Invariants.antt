-- What the loop of `total` keeps.
use mathlib.Core.Path.{◌≡◌}
use Rattle.scope.specs.Curves.{total_of}
use Rattle.classifier_gain.proofs.total.Given as goal

abbrev pub invariant-loop-value : goal.invariant-loop-value
invariant-loop-value l = l.sum ≡ total_of l.values l.value-index
