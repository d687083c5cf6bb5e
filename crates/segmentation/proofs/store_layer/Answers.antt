-- `store_layer` meets its contract: after id segments their records stand behind the place, id at most.
use Rattle.std.proofs.Common.{arith}
use Rattle.scope.specs.Origin.{layer as of_layer}
use Rattle.scope.specs.Layers.{layer_segments, stored}
use Rattle.stored.proofs.Flat.{put_none, put_more, put_long}
use Rattle.segmentation.specs.Segments.{search_over}
use Rattle.segmentation.proofs.Stored.{layer_next, layer_few}
use Rattle.segmentation.proofs.store_layer.Goals as goal

pub loop-id-init : goal.loop-id-init
unfolding layer_segments stored
loop-id-init c = put_none _ _ _

pub store_segment-next-requires-clause-at_in_bounds : goal.store_segment-next-requires-clause-at_in_bounds
store_segment-next-requires-clause-at_in_bounds c =
    let s = c.args in
    let l = c.loop-id in
    let few = layer_few (search_over s.gain s.allowed) s.layer.n s.layer.value (of_layer s.number) l.id in
    let long = put_long l.invariant in
    let told = l.invariant.told in
    (omega arith, omega arith)

pub loop-id-preserved : goal.loop-id-preserved
loop-id-preserved c =
    let s = c.args in
    let l = c.loop-id in
    let segment = c.segment.ensures in
    rw (layer_next (search_over s.gain s.allowed) s.layer.n s.layer.value (of_layer s.number) l.id, ← segment.0, ← segment.1) (put_more l.invariant c.store_segment-next.ensures)
