-- What the loop of `store_layers` keeps: the records of the layers passed stand at the front.
use Rattle.std.proofs.Common.{take}
use Rattle.scope.specs.Layers.{seeded}
use Rattle.stored.specs.Flat.{Put}
use Rattle.segmentation.specs.Segments.{stored_over}
use Rattle.segmentation.proofs.store_layers.Given as goal

abbrev pub invariant-loop-i : goal.invariant-loop-i
invariant-loop-i l = Put (stored_over l.gain l.allowed (seeded l.n (take l.i l.layers))) 0 l.initial.rows l.initial.gains l.rows l.gains l.count
