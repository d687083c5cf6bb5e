-- `prepare` meets its contract: nothing is refused in the room that is lent, so the sums and the stored segments' records are left.
use Rattle.control.specs.Settings.{matrix_of, settings_of}
use Rattle.prepared.proofs.Stores.{tree_sizes, tree_segments, tree_prepared}
use Rattle.prepared.proofs.prepare.Goals as goal

pub store_segments-stored-requires : goal.store_segments-stored-requires
store_segments-stored-requires c = tree_segments (matrix_of c.args.matrix) (settings_of c.args.settings) _ _ _ c.lent-room.result c.lent-room.ensures c.in_ok-tree_refusal.ensures

pub sums_len-requires : goal.sums_len-requires
sums_len-requires c = tree_sizes (matrix_of c.args.matrix) (settings_of c.args.settings) _ _ _ c.lent-room.result c.lent-room.ensures c.in_ok-tree_refusal.ensures

pub returns : goal.returns
returns c =
    tree_prepared (matrix_of c.args.matrix) (settings_of c.args.settings) _ _ _ c.lent-room.result c.lent-room.ensures c.in_ok-tree_refusal.ensures
    _ _ c.sums_len.ensures c.store_segments-stored.ensures
