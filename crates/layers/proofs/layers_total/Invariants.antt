-- What the loop of `layers_total` keeps: the total is that of the layers passed.
use Rattle.std.proofs.Common.{◌≡◌, take}
use Rattle.scope.specs.Layers.{layers_total}
use Rattle.layers.proofs.layers_total.Given as goal

abbrev pub invariant-loop-value : goal.invariant-loop-value
invariant-loop-value l = l.total ≡ layers_total (take l.value-index l.layers)
