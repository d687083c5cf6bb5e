-- What the loop of `store_layer` keeps: the records of the segments passed stand behind the place.
use Rattle.std.proofs.Common.{map}
use Rattle.scope.specs.Origin.{layer as of_layer}
use Rattle.scope.specs.Layers.{of_origin, layer_segments}
use Rattle.stored.specs.Flat.{Put}
use Rattle.segmentation.specs.Segments.{stored_over}
use Rattle.segmentation.proofs.store_layer.Given as goal

abbrev pub invariant-loop-id : goal.invariant-loop-id
invariant-loop-id l =
    Put (stored_over l.gain l.allowed (map (of_origin (of_layer l.number)) (layer_segments l.layer.n l.layer.value l.id))) l.at l.initial.rows l.initial.gains l.rows l.gains l.next
