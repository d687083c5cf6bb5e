-- `Layer::new` meets its contract: each value by its rule.
use Rattle.std.proofs.Common.{ℕ, ◌-◌, ap, arith}
use Rattle.scope.specs.Floats.{◌⊖◌, ◌⊗◌, ◌⊘◌, whole}
use Rattle.scope.specs.Layers.{layer_length, layer_step}
use Rattle.rounding.proofs.Layers.{layer_count_bounds, layer_length_range}
use Rattle.layers.proofs.Layered.{held}
use Rattle.layers.proofs.Layer.new.Goals as goal

pub overflow_sub-result : goal.overflow_sub-result
overflow_sub-result c = omega (arith, c.layer_count-count.ensures, layer_count_bounds c.args.v c.requires.1)

pub int_to_float-result-2 : goal.int_to_float-result-2
int_to_float-result-2 c = held (c.layer_count-count.result - 1) (omega (arith, c.layer_count-count.ensures, layer_count_bounds c.args.v c.requires.1))

pub rounded_up-requires : goal.rounded_up-requires
unfolding layer_length
rounded_up-requires c = layer_length_range c.args.v c.requires.1 c.args.n c.requires.0

pub invariant_of-result : goal.invariant_of-result
unfolding layer_length layer_step
invariant_of-result c =
    let n = whole c.args.n in
    let count = c.layer_count-count.ensures in
    record { made = record { rows = c.requires.0; is_layer_lem = c.requires.1; counted = count; stepped = ap (λ (k : ℕ). (n ⊖ n ⊗ c.args.v) ⊘ whole (k - 1)) count; long = c.rounded_up.ensures } }
