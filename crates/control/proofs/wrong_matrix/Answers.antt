-- `wrong_matrix` meets its contract: the product of sizes that are not refused is small.
use Rattle.std.proofs.Common.{arith, sym, ◌∙◌}
use Rattle.control.proofs.Sizes.{product_small, sizes}
use Rattle.control.proofs.wrong_matrix.Goals as goal

pub overflow_mul-result : goal.overflow_mul-result
overflow_mul-result c =
    let x = c.args.matrix in
    let w = sizes c.args.most x.n x.d (sym c.wrong_sizes.ensures ∙ c.if-wrong_sizes.false) in
    omega (arith, product_small x.n x.d (omega (arith, w.rows)) w.columns.1)
