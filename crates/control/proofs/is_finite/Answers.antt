-- `is_finite` meets its contract: a value is finite where it lies strictly between the infinities.
use mathlib.Core.Path.{◌∙◌}
use lib.Ieee.{of_bits}
use Rattle.control.proofs.Values.{finite_below, finite_above}
use Rattle.control.proofs.is_finite.Goals as goal

pub returns-then-v : goal.returns-then-v
unfolding of_bits
returns-then-v c = finite_below c.args.v c.if-v.true

pub returns-else-v : goal.returns-else-v
unfolding of_bits
returns-else-v c = c.if-v.false ∙ finite_above c.args.v c.if-v.false
