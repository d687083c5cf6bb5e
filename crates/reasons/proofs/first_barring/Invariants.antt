-- What the loop of `first_barring` keeps: no pair passed bars the row, and so it turns on the pairs left.
use Rattle.std.proofs.Common.{◌≡◌}
use Rattle.std.specs.Slice.Iter.{chunks_exact_rest, chunks_exact_size}
use Rattle.scope.specs.Why.{first_barring}
use Rattle.reasons.proofs.first_barring.Given as goal

abbrev pub invariant-loop-pair : goal.invariant-loop-pair
invariant-loop-pair l =
    (goal.iterator-loop-pair).can_next l.pair-iterator
    × (goal.iterator-loop-pair).is_finite l.pair-iterator
    × (chunks_exact_size l.pair-iterator ≡ 2)
    × (first_barring l.forbidden l.row.0 ≡ first_barring (chunks_exact_rest l.pair-iterator) l.row.0)
