-- What the loop of `next` keeps: the rows passed are barred.
use Rattle.std.proofs.Common.{◌≡◌, ◌-◌}
use Rattle.optimizer.specs.Remaining.{rows_left}
use Rattle.optimizer.proofs.candidates.CandidatesIterator.next.Given as goal

abbrev pub invariant-loop-self : goal.invariant-loop-self
invariant-loop-self l = rows_left l.initial.self ≡ rows_left l.self

abbrev pub decreases-loop-self : goal.decreases-loop-self
decreases-loop-self l = l.self.end - l.self.next
