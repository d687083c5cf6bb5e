-- `ordering_refusal` meets its contract: past the first test n * n is small.
use Rattle.std.proofs.Common.{sym, ◌∙◌, mul-le-mul, arith}
use Rattle.control.proofs.Sizes.{matrix}
use Rattle.entry_neighbours.proofs.refusals.ordering_refusal.Goals as goal

pub overflow_mul-matrix : goal.overflow_mul-matrix
overflow_mul-matrix c =
    let x = c.args.matrix in
    let w = matrix 1024 x.cells.now x.n x.d (sym c.wrong_matrix.ensures ∙ c.if-wrong_matrix.false) in
    omega (arith, mul-le-mul {n₂ = 1024} {m₂ = 1024} w.rows.1 w.rows.1)
