-- `rounding::ceiling` meets its contract, by the law over the format at binary64. Assumes nothing.
use Rattle.std.proofs.Common.{◌≡◌, ℕ, ◌^◌, ◌≤◌, arith, le→leb}
use lib.Ieee.{Float, binary64, prec, in_float}
use Rattle.scope.specs.Rounding.{truncation}
use Rattle.rounding.specs.Range.{in_range}
use Rattle.rounding.proofs.Whole.{ranged, truncated, ceiling_next, ceiling_same}
use Rattle.rounding.proofs.ceiling.Goals as goal

-- a truncation is below 2 ^ 32, and so an f64 without loss
exact : (x : Float) (t : ℕ) → in_range x → t ≡ truncation x → t ≤ 2 ^ prec binary64
exact x t h is = omega (arith, (truncated (ranged _ h)).1)

pub int_to_float-t : goal.int_to_float-t
unfolding in_float
int_to_float-t c = le→leb _ _ (exact _ _ c.requires c.truncation-t.ensures)

pub overflow_add-result : goal.overflow_add-result
overflow_add-result c = omega (arith, exact _ _ c.requires c.truncation-t.ensures)

pub returns-then-t-x : goal.returns-then-t-x
returns-then-t-x c = ceiling_next binary64 _ _ c.requires c.truncation-t.ensures (exact _ _ c.requires c.truncation-t.ensures) c.if-t-x.true

pub returns-else-t-x : goal.returns-else-t-x
returns-else-t-x c = ceiling_same binary64 _ _ c.requires c.truncation-t.ensures (exact _ _ c.requires c.truncation-t.ensures) c.if-t-x.false
