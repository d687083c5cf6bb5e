-- `layers_total` meets its contract: after i layers the total is that of the first i.
use Rattle.std.proofs.Common.{◌+◌, refl, ◌∙◌, ap, arith}
use lib.Seq.{take_all}
use Rattle.scope.specs.Layers.{layers_total}
use Rattle.layers.proofs.Layered.{right_at, total_next, total_within, total_most}
use Rattle.layers.proofs.layers_total.Goals as goal

pub loop-value-init : goal.loop-value-init
unfolding layers_total
loop-value-init c = refl

pub layer_count-total-requires : goal.layer_count-total-requires
layer_count-total-requires c = right_at c.args.layers.now c.loop-value.value-index c.requires (omega arith)

pub overflow_add-total : goal.overflow_add-total
overflow_add-total c =
    let layers = c.args.layers.now in
    let i = c.loop-value.value-index in
    omega (arith, c.layer_count-total.ensures, total_next layers i (omega arith), total_within layers (i + 1), total_most layers c.requires)

pub loop-value-preserved : goal.loop-value-preserved
loop-value-preserved c = omega (arith, c.layer_count-total.ensures, total_next c.args.layers.now c.loop-value.value-index (omega arith))

pub returns : goal.returns
returns c = let l = c.loop-value in l.invariant ∙ ap layers_total (take_all l.value-index c.args.layers.now (omega arith))
