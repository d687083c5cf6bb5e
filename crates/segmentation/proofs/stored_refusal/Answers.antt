-- `stored_refusal` meets its contract: past the first tests the matrix has its sizes, and the source's refusal is that of all.
use Rattle.std.proofs.Common.{◌≡◌, rules}
use Rattle.scope.specs.Calls.{stored_refusal}
use Rattle.control.specs.Refused.{number_of}
use Rattle.control.specs.Settings.{matrix_of, shortest_of, source_of}
use Rattle.segmentation.proofs.Clean.{sizes_passed, by_source}
use Rattle.segmentation.proofs.stored_refusal.Goals as goal

pub returns-in_err-source_refusal : goal.returns-in_err-source_refusal
returns-in_err-source_refusal c =
    let s = c.args in
    let r = c.in_err-source_refusal.field-0.0 in
    let is : number_of r ≡ stored_refusal (record { matrix = matrix_of s.matrix; shortest = shortest_of s.allowed.shortest; forbidden = s.allowed.forbidden.now; source = source_of s.source; sums = s.sums; records = s.records }) =
    by_source _ r c.in_ok-sizes_refusal.ensures c.in_ok-values_refusal.ensures c.in_err-source_refusal.ensures in
    search rules

pub sums_len-requires : goal.sums_len-requires
sums_len-requires c = sizes_passed (matrix_of c.args.matrix) (shortest_of c.args.allowed.shortest) c.in_ok-sizes_refusal.ensures
