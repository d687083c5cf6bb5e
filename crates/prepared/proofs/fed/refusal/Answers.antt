-- `refusal` meets its contract: a refusal of the run is the call's; past it the sizes are small, and a refusal of the room is the call's.
use Rattle.std.proofs.Common.{◌≡◌, rules}
use Rattle.scope.specs.Feed.{fed_refusal}
use Rattle.control.specs.Refused.{number_of}
use Rattle.control.specs.Settings.{settings_of}
use Rattle.feed.specs.States.{state_of}
use Rattle.prepared.specs.Answers.{room_of}
use Rattle.prepared.proofs.Clean.{fed_small, fed_by_run, fed_by_room}
use Rattle.prepared.proofs.fed.refusal.Goals as goal

pub returns-in_err-run_refusal : goal.returns-in_err-run_refusal
returns-in_err-run_refusal c =
    let r = c.in_err-run_refusal.field-0.0 in
    let is : number_of r ≡ fed_refusal (state_of c.args.state) (settings_of c.args.settings) (room_of c.args.room) = fed_by_run _ _ _ r c.in_err-run_refusal.ensures in
    search rules

pub room_refusal-requires : goal.room_refusal-requires
room_refusal-requires c = fed_small (state_of c.args.state) (settings_of c.args.settings) c.in_ok-run_refusal.ensures

pub returns-in_err-room_refusal : goal.returns-in_err-room_refusal
returns-in_err-room_refusal c =
    let r = c.in_err-room_refusal.field-0.0 in
    let is : number_of r ≡ fed_refusal (state_of c.args.state) (settings_of c.args.settings) (room_of c.args.room) =
    fed_by_room _ _ _ r c.in_ok-run_refusal.ensures c.in_err-room_refusal.ensures in
    search rules

pub count_refusal-requires : goal.count_refusal-requires
count_refusal-requires c = let w = fed_small (state_of c.args.state) (settings_of c.args.settings) c.in_ok-run_refusal.ensures in (w.0, w.1)
