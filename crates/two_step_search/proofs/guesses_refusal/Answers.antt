-- `guesses_refusal` meets its contract: past the first tests, rows and shortest part have their sizes.
use Rattle.control.specs.Settings.{shortest_of}
use Rattle.optimizer.proofs.Passed.{rows_passed}
use Rattle.two_step_search.proofs.guesses_refusal.Goals as goal

pub segment_refusal-requires : goal.segment_refusal-requires
segment_refusal-requires c = let w = rows_passed c.args.n (shortest_of c.args.allowed.shortest) c.args.allowed.forbidden.now c.in_ok-rows_refusal.ensures in (w.0, w.2)
