-- What the loop of `split_candidates` keeps: the candidates that came stand at the front, and the others are left.
use Rattle.std.proofs.Common.{◌≡◌, length, map, ◌++◌}
use Rattle.scope.specs.Lists.{holding}
use Rattle.scope.specs.Candidates.{candidates}
use Rattle.control.specs.Settings.{shortest_of}
use Rattle.optimizer.specs.Remaining.{row_of, rows_left}
use Rattle.optimizer.proofs.candidates.split_candidates.Given as goal

abbrev pub invariant-loop-row : goal.invariant-loop-row
invariant-loop-row l =
    (goal.iterator-loop-row).can_next l.row-iterator
    × (goal.iterator-loop-row).is_finite l.row-iterator
    × (l.count ≡ length (map row_of l.yielded))
    × (map row_of l.yielded ++ rows_left l.row-iterator ≡ candidates (shortest_of l.fn.allowed.shortest) l.fn.allowed.forbidden.now l.fn.segment.start.0 l.fn.segment.stop.0)
    × (l.rows ≡ holding (map row_of l.yielded) l.initial.rows)
