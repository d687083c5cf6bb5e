-- `tree_refusal` meets its contract: a refusal of the run is the call's; past it the sizes are small, and a refusal of the room is the call's.
use Rattle.std.proofs.Common.{◌≡◌, rules}
use Rattle.scope.specs.Calls.{tree_refusal}
use Rattle.control.specs.Refused.{number_of}
use Rattle.control.specs.Settings.{matrix_of, settings_of}
use Rattle.prepared.specs.Answers.{room_of}
use Rattle.prepared.proofs.Clean.{run_small, tree_by_run, tree_by_room}
use Rattle.prepared.proofs.tree_refusal.Goals as goal

pub returns-in_err-run_refusal : goal.returns-in_err-run_refusal
returns-in_err-run_refusal c =
    let r = c.in_err-run_refusal.field-0.0 in
    let is : number_of r ≡ tree_refusal (record { matrix = matrix_of c.args.matrix; settings = settings_of c.args.settings; room = room_of c.args.room }) =
    tree_by_run _ r c.in_err-run_refusal.ensures in
    search rules

pub room_refusal-requires : goal.room_refusal-requires
room_refusal-requires c = run_small (matrix_of c.args.matrix) (settings_of c.args.settings) c.in_ok-run_refusal.ensures

pub returns-in_err-room_refusal : goal.returns-in_err-room_refusal
returns-in_err-room_refusal c =
    let r = c.in_err-room_refusal.field-0.0 in
    let is : number_of r ≡ tree_refusal (record { matrix = matrix_of c.args.matrix; settings = settings_of c.args.settings; room = room_of c.args.room }) =
    tree_by_room _ r c.in_ok-run_refusal.ensures c.in_err-room_refusal.ensures in
    search rules
