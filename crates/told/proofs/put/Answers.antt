-- `put` meets its contract: past the end nothing is stored.
use Rattle.std.proofs.Common.{sym}
use Rattle.std.proofs.Math.Seq.{set_out}
use Rattle.told.proofs.put.Goals as goal

pub returns-else-at-counts : goal.returns-else-at-counts
returns-else-at-counts c = sym (set_out c.args.counts.now c.args.at c.args.count c.if-at-counts.false)
