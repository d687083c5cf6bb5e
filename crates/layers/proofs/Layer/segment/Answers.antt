-- `Layer::segment` meets its contract: the start and the stop are those of document 01, and lie in the run.
use mathlib.Core.Path.{◌≡◌, ◌∙◌}
use Prim.Native.Nat.{◌<◌}
use native.Mathlib.Omega.{arith}
use Rattle.scope.specs.Layers.{layer_count, layer_stop}
use Rattle.rounding.proofs.Layers.{layer_start_most, layer_inside}
use Rattle.layers.proofs.Layer.segment.Goals as goal

pub stop-stop-requires : goal.stop-stop-requires
stop-stop-requires c =
    let s = c.args in
    let made = s.self.made in
    let counted : s.id < layer_count s.self.value = omega (arith, made.counted) in
    omega (arith, c.start-start.ensures, layer_start_most s.self.value made.is_layer_lem s.self.n made.rows s.id counted)

pub returns : goal.returns
unfolding layer_stop
returns c =
    let s = c.args in
    let made = s.self.made in
    let counted : s.id < layer_count s.self.value = omega (arith, made.counted) in
    let inside = layer_inside s.self.value made.is_layer_lem s.self.n made.rows s.id counted in
    let start = c.start-start.ensures in
    let stop : c.stop-stop.result.0 ≡ layer_stop s.self.n s.self.value s.id = c.stop-stop.ensures ∙ rw (start, made.long) in
    (start, stop, omega arith, omega arith)
