-- `predict_refusal` meets its contract: what is refused of the ordering is refused of the predictions.
use Rattle.std.proofs.Common.{rules, ◌≡◌, Err, ◌∙◌, drop}
use Rattle.scope.specs.Calls.{PredictAsked, ordering_tests, ordering_refusal, predict_tests, predict_refusal}
use Rattle.control.specs.Settings.{matrix_of}
use Rattle.control.proofs.Clean.{stops}
use Rattle.control.proofs.Follows.{numbered}
use Rattle.entry_neighbours.proofs.refusals.predict_refusal.Goals as goal

pub returns-in_err-ordering_refusal : goal.returns-in_err-ordering_refusal
unfolding ordering_refusal predict_refusal
returns-in_err-ordering_refusal c =
    let s = c.args in
    let r = c.in_err-ordering_refusal.field-0.0 in
    let asked : PredictAsked = record { order = record { matrix = matrix_of s.matrix; ordering = s.ordering; distances = s.distances }; start = s.segment.start.0; stop = s.segment.stop.0; split = s.split.0; room = s.room } in
    let is : c.from_residual.result ≡ Err r = search rules in
    rw is (c.in_err-ordering_refusal.ensures ∙ stops (ordering_tests asked.order) (drop 4 (predict_tests asked)) (λ e. numbered r (c.in_err-ordering_refusal.ensures ∙ e)))
