-- `add_deltas` meets its contract: one sum after another.
use Rattle.std.proofs.Common.{◌∙◌, arith}
use Rattle.permutation_test.proofs.Summed.{sums_step, sums_whole}
use Rattle.permutation_test.proofs.Observed.add_deltas.Goals as goal

pub loop-c-preserved : goal.loop-c-preserved
loop-c-preserved g c = sums_step c.args.i c.args.self.curves.now c.args.sums c.loop-c.c _ (omega arith) (omega arith) c.loop-c.invariant

pub returns : goal.returns
returns g c = c.loop-c.invariant ∙ sums_whole c.args.i c.args.self.curves.now c.args.sums c.loop-c.c (omega arith) (omega arith)
