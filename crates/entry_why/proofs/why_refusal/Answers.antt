-- `why_refusal` meets its contract: a refusal of the run is the call's; past it the sizes are small.
use Rattle.std.proofs.Common.{◌≡◌, rules}
use Rattle.scope.specs.Why.{why_refusal}
use Rattle.control.specs.Refused.{number_of}
use Rattle.control.specs.Settings.{matrix_of, settings_of}
use Rattle.prepared.proofs.Clean.{run_small}
use Rattle.entry_why.proofs.Clean.{why_by_run}
use Rattle.entry_why.proofs.why_refusal.Goals as goal

pub returns-in_err-run_refusal : goal.returns-in_err-run_refusal
returns-in_err-run_refusal c =
    let s = c.args in
    let r = c.in_err-run_refusal.field-0.0 in
    let is : number_of r ≡ why_refusal (record { matrix = matrix_of s.matrix; settings = settings_of s.settings; row = s.row.0; sums = s.sums; records = s.records; text = s.text }) =
    why_by_run _ r c.in_err-run_refusal.ensures in
    search rules

pub sums_len-requires : goal.sums_len-requires
sums_len-requires c = let w = run_small (matrix_of c.args.matrix) (settings_of c.args.settings) c.in_ok-run_refusal.ensures in (w.0, w.1)
