-- `rounding::narrow::nearest_above` meets its contract: each answer is one of the laws of `Above.antt`. Assumes nothing.
use Rattle.std.proofs.Common.{le_trans, le_of_lt, arith}
use native.Mathlib.Nat.{mod-le}
use lib.Arith.{le→nltb}
use lib.Ieee.Bits.{nan_bits_above}
use Rattle.rounding.proofs.Digits.{above_no_nan}
use Rattle.rounding.proofs.Above.{bits_below, unit_above, zero_answer, kept_most, finite_answer, infinite_answer}
use Rattle.rounding.proofs.narrow.nearest_above.Goals as goal

pub float_to_bits-bits : goal.float_to_bits-bits
float_to_bits-bits c = above_no_nan c.args.x c.requires

pub returns-then-field-lt-VANISHING : goal.returns-then-field-lt-VANISHING
returns-then-field-lt-VANISHING c = zero_answer c.args.x c.well_formed.0.1 c.requires c.if-field-lt-VANISHING.true

pub nearest_quotient-kept-requires : goal.nearest_quotient-kept-requires
nearest_quotient-kept-requires c = unit_above c.args.x c.well_formed.0.1 c.requires c.saturating_sub.ensures c.if-field-lt-VANISHING.false

pub overflow_mul-pattern : goal.overflow_mul-pattern
overflow_mul-pattern c = omega (arith, bits_below c.args.x c.well_formed.0.1 c.requires)

pub overflow_add-pattern : goal.overflow_add-pattern
overflow_add-pattern c = omega (arith, bits_below c.args.x c.well_formed.0.1 c.requires, kept_most c.args.x c.well_formed.0.1 c.requires _ _ c.nearest_quotient-kept.ensures)

pub float_from_bits-result : goal.float_from_bits-result
float_from_bits-result c = rw nan_bits_above (le→nltb _ _ (le_trans (mod-le _ _) (le_of_lt c.if-pattern-lt-INFINITY.true)))

pub returns-then-pattern-lt-INFINITY : goal.returns-then-pattern-lt-INFINITY
returns-then-pattern-lt-INFINITY c =
    finite_answer c.args.x c.well_formed.0.1 c.requires c.saturating_sub.ensures c.nearest_quotient-kept.ensures c.saturating_sub-2.ensures c.if-field-lt-VANISHING.false c.if-pattern-lt-INFINITY.true

pub returns : goal.returns
returns c =
    infinite_answer c.args.x c.well_formed.0.1 c.requires c.saturating_sub.ensures c.nearest_quotient-kept.ensures c.saturating_sub-2.ensures c.if-field-lt-VANISHING.false c.if-pattern-lt-INFINITY.false
