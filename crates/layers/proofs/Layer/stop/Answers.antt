-- `Layer::stop` meets its contract: the lesser of the two.
use native.Mathlib.Omega.{arith}
use Rattle.rounding.proofs.Layers.{layer_length_ceiling}
use Rattle.layers.proofs.Layer.stop.Goals as goal

pub position_from-stop-requires : goal.position_from-stop-requires
position_from-stop-requires c =
    let l = c.args.self.made in
    omega (arith, l.long, layer_length_ceiling c.args.self.value l.is_layer_lem c.args.self.n l.rows)
