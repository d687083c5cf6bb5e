-- How many rows are to be put in order: each half has fewer.
use Rattle.std.proofs.Common.{length}
use Rattle.order.proofs.+sort.Given as goal

abbrev pub decreases-sort : goal.decreases-sort
decreases-sort l = length l.out.now
