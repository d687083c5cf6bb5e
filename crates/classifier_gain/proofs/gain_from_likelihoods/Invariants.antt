-- What the loop of `gain_from_likelihoods` keeps.
use mathlib.Core.Path.{◌≡◌}
use mathlib.Core.List.{◌++◌}
use lib.ListN.{drop}
use Rattle.scope.specs.Curves.{raised, curve}
use Rattle.classifier_gain.proofs.gain_from_likelihoods.Given as goal

abbrev pub invariant-loop-i : goal.invariant-loop-i
invariant-loop-i l = (l.g ≡ raised l.l0 l.l1 l.i) × (l.gain ≡ curve l.l0 l.l1 l.i ++ drop l.i l.initial.gain)
