-- What the loop of `is_barred` keeps: no pair passed bars the row, and so it turns on the pairs left.
use Rattle.std.proofs.Common.{◌≡◌}
use Rattle.std.specs.Slice.Iter.{chunks_exact_rest, chunks_exact_size}
use Rattle.scope.specs.Candidates.{is_barred}
use Rattle.optimizer.proofs.candidates.is_barred.Given as goal

abbrev pub invariant-loop-pair : goal.invariant-loop-pair
invariant-loop-pair l =
    (goal.iterator-loop-pair).can_next l.pair-iterator
    × (goal.iterator-loop-pair).is_finite l.pair-iterator
    × (chunks_exact_size l.pair-iterator ≡ 2)
    × (is_barred l.forbidden l.row.0 ≡ is_barred (chunks_exact_rest l.pair-iterator) l.row.0)
