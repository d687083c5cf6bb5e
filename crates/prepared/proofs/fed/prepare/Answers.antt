-- `prepare` meets its contract: nothing is refused in the room that is lent, so the stored segments' records are left, over the sums of the run's rows.
use Rattle.scope.specs.Tree.{stored_records}
use Rattle.control.specs.Settings.{settings_of}
use Rattle.feed.specs.States.{state_of}
use Rattle.prepared.proofs.Stores.{fed_sizes, fed_records, fed_part, fed_rows, fed_source, fed_prepared}
use Rattle.prepared.proofs.fed.prepare.Goals as goal

pub sums_len-len-requires : goal.sums_len-len-requires
sums_len-len-requires c = fed_sizes (state_of c.args.state) (settings_of c.args.settings) _ _ _ c.lent-room.result c.lent-room.ensures c.in_ok-refusal.ensures

pub slice_bounds-gain-end : goal.slice_bounds-gain-end
slice_bounds-gain-end c =
    fed_part (state_of c.args.state) (settings_of c.args.settings) _ _ _ c.lent-room.result c.lent-room.ensures c.in_ok-refusal.ensures _ c.sums_len-len.ensures

pub store_records-stored-requires : goal.store_records-stored-requires
store_records-stored-requires c = record {
  n_bound = fed_rows (state_of c.args.state) (settings_of c.args.settings) _ _ _ c.lent-room.result c.lent-room.ensures c.in_ok-refusal.ensures _ c.sums_len-len.ensures;
  layers_value = fed_source (state_of c.args.state) (settings_of c.args.settings) _ _ _ c.lent-room.result c.lent-room.ensures c.in_ok-refusal.ensures _ c.sums_len-len.ensures;
  w_in_bounds = fed_records (state_of c.args.state) (settings_of c.args.settings) _ _ _ c.lent-room.result c.lent-room.ensures c.in_ok-refusal.ensures;
}

pub returns : goal.returns
unfolding stored_records
returns c =
    fed_prepared (state_of c.args.state) (settings_of c.args.settings) _ _ _ c.lent-room.result c.lent-room.ensures c.in_ok-refusal.ensures
    _ c.sums_len-len.ensures _ _ _ (rw c.sums_len-len.ensures at c.store_records-stored.ensures)
