-- `store_layers` meets its contract: after i layers the records of the first i stand at the front.
use Rattle.std.proofs.Common.{◌∙◌, ap, ◌+◌, take, arith}
use Rattle.scope.specs.Layers.{layer_count, seeded_from, stored}
use Rattle.layers.proofs.Layered.{right_at, total_next, total_within}
use Rattle.stored.proofs.Flat.{put_none, put_more, put_long}
use Rattle.segmentation.specs.Segments.{search_over}
use Rattle.segmentation.proofs.Stored.{layers_next, layers_few}
use Rattle.segmentation.proofs.store_layers.Goals as goal

pub loop-i-init : goal.loop-i-init
unfolding seeded_from stored
loop-i-init c = put_none _ _ _

pub new-layer-requires : goal.new-layer-requires
new-layer-requires c = (c.requires.n_bound.0, right_at c.args.layers.now c.loop-i.i c.requires.layers_value (omega arith))

pub store_layer-count-requires-clause-count_in_bounds : goal.store_layer-count-requires-clause-count_in_bounds
store_layer-count-requires-clause-count_in_bounds c =
    let s = c.args in
    let layers = s.layers.now in
    let l = c.loop-i in
    let counted = c.new-layer.result.made.counted ∙ ap layer_count c.new-layer.ensures.1 in
    let few = layers_few (search_over s.gain s.allowed) s.n (take l.i layers) in
    let more = total_next layers l.i (omega arith) in
    let within = total_within layers (l.i + 1) in
    let long = put_long l.invariant in
    let told = l.invariant.told in
    (omega arith, omega arith)

pub loop-i-preserved : goal.loop-i-preserved
loop-i-preserved c =
    let s = c.args in
    let l = c.loop-i in
    let new = c.new-layer in
    let put = rw (new.result.made.counted, new.ensures.0, new.ensures.1) at c.store_layer-count.ensures in
    rw (layers_next (search_over s.gain s.allowed) s.n s.layers.now l.i (omega arith)) (put_more l.invariant put)
