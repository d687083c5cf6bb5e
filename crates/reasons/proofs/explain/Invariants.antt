-- What the loop of `explain` keeps: the row is one of the segment, and stands in its tree as in the whole one.
use Rattle.std.proofs.Common.{◌-◌}
use Rattle.stored.specs.Records.{records_of}
use Rattle.reasons.proofs.Walk.{Down}
use Rattle.reasons.proofs.explain.Given as goal

abbrev pub invariant-loop-choice : goal.invariant-loop-choice
invariant-loop-choice l = Down l.asked l.n (records_of l.records) l.row.0 l.segment.start.0 l.segment.stop.0

abbrev pub decreases-loop-choice : goal.decreases-loop-choice
decreases-loop-choice l = l.segment.stop.0 - l.segment.start.0
