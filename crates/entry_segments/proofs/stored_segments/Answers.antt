-- `stored_segments` meets its contract: the refusal, and nothing is told; or the records, with the sums left.
use Rattle.std.proofs.Common.{◌≡◌, ◌∙◌, ap, length, rules}
use Rattle.scope.specs.Refusals.{given}
use Rattle.scope.specs.Calls.{sums_of, stored_refusal, stored_of, stored_call}
use Rattle.control.specs.Refused.{number_of}
use Rattle.control.specs.Settings.{matrix_of, shortest_of, source_of}
use Rattle.control.proofs.Follows.{answer_refused, answer_given}
use Rattle.segmentation.specs.Segments.{Slices, stored_asked}
use Rattle.segmentation.proofs.Held.{none_held, all_held}
use Rattle.entry_segments.proofs.stored_segments.Goals as goal

pub returns-in_err-stored_refusal : goal.returns-in_err-stored_refusal
unfolding stored_call
returns-in_err-stored_refusal c =
    let s = c.args in
    let lent : Slices = record { sums = s.sums.now; rows = s.rows.now; gains = s.gains.now } in
    let a = stored_asked (matrix_of s.matrix) (shortest_of s.allowed.shortest) s.allowed.forbidden.now (source_of s.source) lent in
    let r = c.in_err-stored_refusal.field-0.0 in
    let is : number_of r ≡ stored_refusal a = rw (← c.record_room-room.ensures) c.in_err-stored_refusal.ensures in
    let answer = answer_refused r is (length (stored_of a)) in
    record { answer = search rules; held = none_held r is (sums_of a.matrix) (stored_of a) lent }

pub returns : goal.returns
unfolding stored_call
returns c =
    let s = c.args in
    let lent : Slices = record { sums = s.sums.now; rows = s.rows.now; gains = s.gains.now } in
    let a = stored_asked (matrix_of s.matrix) (shortest_of s.allowed.shortest) s.allowed.forbidden.now (source_of s.source) lent in
    let none : 0 ≡ stored_refusal a = rw (← c.record_room-room.ensures) c.in_ok-stored_refusal.ensures in
    let told = c.store_segments.ensures in
    record {
      answer = ap given told.count ∙ answer_given none (length (stored_of a));
      held = all_held none (sums_of a.matrix) (stored_of a) lent told.held;
    }
