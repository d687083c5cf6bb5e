-- `gain_refusal` meets its contract: a matrix that is not refused has few rows and columns.
use Rattle.std.proofs.Common.{sym, ◌∙◌}
use Rattle.control.proofs.Sizes.{matrix}
use Rattle.change_in_mean.proofs.gain_refusal.Goals as goal

pub sums_len-requires : goal.sums_len-requires
sums_len-requires c = let w = matrix 4096 c.args.matrix.cells.now c.args.matrix.n c.args.matrix.d (sym c.wrong_matrix.ensures ∙ c.if-wrong_matrix.false) in (w.rows.1, w.columns.1)
