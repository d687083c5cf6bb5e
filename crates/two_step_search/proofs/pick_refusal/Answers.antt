-- `pick_refusal` meets its contract: what the guesses' tests leave is a segment of the run.
use Rattle.std.proofs.Common.{◌≡◌, ◌≤◌, sym, arith}
use Rattle.scope.specs.Refusals.{first_of}
use Rattle.scope.specs.Calls.{GuessesAsked, guesses_tests}
use mathlib.Core.Option.{some}
use Rattle.scope.proofs.Candidates.{not_outside}
use Rattle.control.specs.Settings.{shortest_of}
use Rattle.control.proofs.Clean.{passed}
use Rattle.control.proofs.Sizes.{segment}
use Rattle.two_step_search.proofs.pick_refusal.Goals as goal

sizes : (a : GuessesAsked) → 0 ≡ first_of (guesses_tests a) → (a.start ≤ a.stop) × (a.stop ≤ 4096) × (a.shortest.m ≤ 4096)
sizes a e =
    let p = passed (guesses_tests a) tt (sym e) in
    let w = segment a.n a.start a.stop p.1.1.1.0 in
    (w.0, omega (arith, not_outside 4096 a.n p.0), (not_outside 4096 a.shortest.m p.1.0).1)

pub is_candidate-requires : goal.is_candidate-requires
is_candidate-requires c =
    let a = c.args in
    sizes (record { n = a.n; shortest = shortest_of a.allowed.shortest; forbidden = some a.allowed.forbidden.now; start = a.segment.start.0; stop = a.segment.stop.0 }) c.in_ok-guesses_refusal.ensures
