-- `wrong_sizes` meets its contract: the product of sizes that are not refused is small.
use Rattle.std.proofs.Common.{arith, sym, ◌∙◌}
use Rattle.control.proofs.Sizes.{product_small, sizes}
use Rattle.limits.proofs.wrong_sizes.Goals as goal

pub overflow_mul-cells : goal.overflow_mul-cells
overflow_mul-cells c =
    let g = c.args.deck in
    let w = sizes 256 g.n g.d (sym c.wrong_sizes.ensures ∙ c.if-wrong_sizes.false) in
    omega (arith, product_small g.n g.d (omega (arith, w.rows)) w.columns.1)
