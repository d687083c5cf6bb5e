-- What the loop of `mark` keeps: a row is barred exactly if its mark says so, or a pair left does.
use Rattle.std.proofs.Common.{◌≡◌, ℕ, ◌≤◌, ◌<◌, length, ◌||◌}
use Rattle.std.specs.Slice.Iter.{chunks_exact_rest, chunks_exact_size}
use Rattle.scope.specs.Candidates.{is_barred}
use Rattle.optimizer.specs.Marks.{mark_at}
use Rattle.optimizer.proofs.marks.mark.Given as goal

abbrev pub invariant-loop-pair : goal.invariant-loop-pair
invariant-loop-pair l =
    (goal.iterator-loop-pair).can_next l.pair-iterator
    × (goal.iterator-loop-pair).is_finite l.pair-iterator
    × (chunks_exact_size l.pair-iterator ≡ 2)
    × (4096 < length l.marks)
    × ((x : ℕ) → x ≤ 4096 → mark_at l.marks x || is_barred (chunks_exact_rest l.pair-iterator) x ≡ is_barred l.forbidden x)
