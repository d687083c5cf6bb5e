-- `rounding::whole_root` meets its contract: only the root has the bounds that std's has. Assumes nothing.
use Rattle.rounding.proofs.Root.{root_only}
use Rattle.rounding.proofs.whole_root.Goals as goal

pub returns : goal.returns
returns c = root_only _ _ c.isqrt.ensures.square_le c.isqrt.ensures.next_square_gt
