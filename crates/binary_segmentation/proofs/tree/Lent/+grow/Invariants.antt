-- The segment's length: both parts are shorter.
use Rattle.std.proofs.Common.{◌-◌}
use Rattle.binary_segmentation.proofs.tree.Lent.+grow.Given as goal

abbrev pub decreases-grow : goal.decreases-grow
decreases-grow l = l.segment.stop.0 - l.segment.start.0
