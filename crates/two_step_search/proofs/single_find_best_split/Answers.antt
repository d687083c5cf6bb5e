-- `single_find_best_split` meets its contract: the curve has an entry at each candidate.
use Rattle.std.proofs.Common.{arith}
use Rattle.scope.proofs.Candidates.{one_at_most}
use Rattle.control.specs.Settings.{shortest_of}
use Rattle.optimizer.proofs.Remaining.{each_candidate}
use Rattle.two_step_search.proofs.single_find_best_split.Goals as goal

pub greatest-requires-clause-known : goal.greatest-requires-clause-known
greatest-requires-clause-known c =
    let a = c.args in
    let s = shortest_of a.allowed.shortest in
    each_candidate _ s a.allowed.forbidden.now a.segment.start.0 a.segment.stop.0 (λ x w. let low = w.low in let high = w.high in (omega arith, omega (arith, one_at_most s)))
