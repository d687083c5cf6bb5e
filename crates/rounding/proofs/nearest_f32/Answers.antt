-- `rounding::nearest_f32` meets its contract. A constant is a pattern, which computes to its value once `of_bits` is unfolded. Assumes nothing.
use Rattle.std.proofs.Common.{T, sym, ap, ◌∙◌, subst}
use lib.Ieee.{binary32, binary64, neg, of_bits}
use Rattle.rounding.proofs.Signs.{nearest_nan, negative_above, nearest_negative, is_zero, nearest_zero, zero_narrow}
use Rattle.rounding.proofs.nearest_f32.Goals as goal

pub returns-then-is_nan : goal.returns-then-is_nan
unfolding of_bits
returns-then-is_nan c = nearest_nan c.args.x (sym c.is_nan.ensures.value ∙ c.if-is_nan.true)

pub nearest_above-requires-then-x-2 : goal.nearest_above-requires-then-x-2
unfolding of_bits
nearest_above-requires-then-x-2 c = negative_above _ c.if-x-2.true

pub returns-then-x-2 : goal.returns-then-x-2
returns-then-x-2 c = ap neg c.nearest_above-then-x-2.ensures ∙ nearest_negative binary32 _

pub float_to_float-result : goal.float_to_float-result
unfolding of_bits
float_to_float-result c =
    let z = is_zero binary64 _ (subst T (sym c.well_formed.0.1) tt) (sym c.is_nan.ensures.value ∙ c.if-is_nan.false) c.if-x.false c.if-x-2.false in
    rw z.1 (zero_narrow z.0)

pub returns : goal.returns
unfolding of_bits
returns c =
    let z = is_zero binary64 _ (subst T (sym c.well_formed.0.1) tt) (sym c.is_nan.ensures.value ∙ c.if-is_nan.false) c.if-x.false c.if-x-2.false in
    rw z.1 (nearest_zero z.0)
