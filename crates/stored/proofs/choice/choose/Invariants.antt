-- What the loop of `choose` keeps: the choice so far and the records that are left give the choice among all.
use Rattle.optimizer.specs.Records.{to_record}
use Rattle.stored.proofs.Chosen.{SoFar}
use Rattle.stored.proofs.choice.choose.Given as goal

abbrev pub invariant-loop-k : goal.invariant-loop-k
invariant-loop-k l = SoFar l.records.rows.now l.records.gains.now l.records.count l.direct.start.0 l.direct.stop.0 (to_record l.direct) l.k (to_record l.choice)
