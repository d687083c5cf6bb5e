-- `layer_count` meets its contract: what is rounded up is from 1 to 4096.
use Rattle.std.proofs.Common.{ℕ, ◌-◌, ◌*◌, ap, arith}
use lib.Ieee.{of_bits}
use Rattle.scope.specs.Layers.{layer_count}
use Rattle.rounding.proofs.Layers.{layer_count_range, layer_count_ceiling}
use Rattle.layers.proofs.layer_count.Goals as goal

pub rounded_up-requires : goal.rounded_up-requires
unfolding of_bits
rounded_up-requires c = layer_count_range c.args.v c.requires

pub overflow_mul-result : goal.overflow_mul-result
unfolding of_bits
overflow_mul-result c = omega (arith, c.rounded_up.ensures, layer_count_ceiling c.args.v c.requires)

pub overflow_sub-result : goal.overflow_sub-result
unfolding of_bits
overflow_sub-result c = omega (arith, c.rounded_up.ensures, layer_count_ceiling c.args.v c.requires)

pub returns : goal.returns
unfolding of_bits layer_count
returns c = ap (λ (k : ℕ). 2 * k - 1) c.rounded_up.ensures
