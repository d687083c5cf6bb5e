-- `changeforest_tree` meets its contract: what the entry point leaves in the first nodes, so many as the counts let, told to the host.
use Rattle.changeforest_c.proofs.Counted.{tree_stored}
use Rattle.changeforest_c.proofs.tree.changeforest_tree.Goals as goal

pub returns : goal.returns
returns c =
    let roomed = c.counted_room-room.ensures in
    tree_stored _ _ _ _ roomed.0 roomed.1 _ c.binary_segmentation-grown.result _ _ _ c.binary_segmentation-grown.ensures c.tell.ensures
