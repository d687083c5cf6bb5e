-- `changeforest_fed_tree` meets its contract: what the entry point leaves in the first nodes, so many as the counts let, told to the host.
use Rattle.changeforest_c.proofs.Counted.{fed_stored}
use Rattle.changeforest_c.proofs.feeding.changeforest_fed_tree.Goals as goal

pub returns : goal.returns
returns c =
    let roomed = c.counted_room-room.ensures in
    fed_stored _ _ _ _ roomed.0 roomed.1 _ c.fed_tree-grown.result _ _ _ c.fed_tree-grown.ensures c.tell.ensures
