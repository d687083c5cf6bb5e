-- `grow` meets its contract: there is room for a node and a record; a leaf is put; or the left part is grown, the cut and the node are put, and the right part is
-- grown behind them. Both parts are shorter.
use Rattle.std.proofs.Common.{arith}
use Rattle.verdict.proofs.Sized.{sized_within}
use Rattle.binary_segmentation.proofs.Growth.{room_here, leaf_grown, split_within, fits_left, fits_cut, fits_node, fits_right, cut_grown}
use Rattle.binary_segmentation.proofs.tree.Lent.+grow.Goals as goal

pub judge-requires : goal.judge-requires
judge-requires t c =
    let fits = c.requires.1 in
    let (r, g, n) = room_here _ _ _ _ _ fits in
    (omega (arith, fits.nonempty), c.requires.0, omega (arith, n), omega (arith, g), r, g)

pub put_node-requires : goal.put_node-requires
put_node-requires t c = (room_here _ _ _ _ _ c.requires.1).2

pub grow-second-requires : goal.grow-second-requires
grow-second-requires t c =
    let fits = c.requires.1 in
    let j = c.in-Cut.ensures in
    let w = split_within _ _ _ _ _ fits _ _ j in
    (omega (arith, c.decreases, w), (sized_within c.args.asked.now c.in-Cut.choice.best_split.0 c.args.segment.stop.0 (omega (arith, w)) c.requires.0, fits_left _ _ _ _ _ fits _ _ j))

pub put_cut-behind-requires : goal.put_cut-behind-requires
put_cut-behind-requires t c = fits_cut _ _ _ _ _ c.requires.1 _ _ c.in-Cut.ensures _ _ c.grow-second.ensures.grown

pub put_node-requires-in-Cut : goal.put_node-requires-in-Cut
put_node-requires-in-Cut t c = fits_node _ _ _ _ _ c.requires.1 _ _ c.in-Cut.ensures _ _ c.grow-second.ensures.grown

pub grow-requires : goal.grow-requires
grow-requires t c =
    let fits = c.requires.1 in
    let j = c.in-Cut.ensures in
    let w = split_within _ _ _ _ _ fits _ _ j in
    let behind = c.put_cut-behind.ensures in
    (omega (arith, c.decreases, w), (c.requires.0, rw (behind.0, behind.1, c.put_node-in-Cut.ensures) (fits_right _ _ _ _ _ fits _ _ j _ _ c.grow-second.ensures.grown c.cut.result)))

pub returns-in-Uncut-clause-grown : goal.returns-in-Uncut-clause-grown
returns-in-Uncut-clause-grown t c = rw c.put_node.ensures (leaf_grown _ _ _ _ _ c.requires.1 _ _ c.in-Uncut.ensures)

pub returns-in-Cut-clause-grown : goal.returns-in-Cut-clause-grown
returns-in-Cut-clause-grown t c =
    let behind = c.put_cut-behind.ensures in
    cut_grown _ _ _ _ _ c.requires.1 _ _ c.in-Cut.ensures _ _ c.grow-second.ensures.grown c.cut.result c.cut.ensures _ _ (rw (behind.0, behind.1, c.put_node-in-Cut.ensures) at c.grow.ensures.grown)
