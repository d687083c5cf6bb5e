-- `choose` meets its contract: the choice so far and the records that are left give the choice among all.
use Rattle.std.proofs.Common.{sym, ◌∙◌, ap, arith}
use Rattle.optimizer.specs.Records.{to_record}
use Rattle.stored.proofs.Chosen.{begins, compared, passed, ended}
use Rattle.stored.proofs.choice.choose.Goals as goal
use Rattle.stored.proofs.choice.choose.Goals.{then-lies_inside, else-lies_inside}

pub loop-k-init : goal.loop-k-init
loop-k-init c = begins

pub loop-k-preserved : goal.loop-k-preserved
loop-k-preserved c =
    let so_far = c.loop-k.invariant in
    let tested = sym c.lies_inside.ensures in
    elim c.if-lies_inside.branch [
      | then-lies_inside w ↦ compared (omega arith) so_far (tested ∙ w.if-lies_inside.true) (ap to_record w.choice-is ∙ w.stronger-choice.ensures)
      | else-lies_inside w ↦ passed (omega arith) so_far (tested ∙ w.if-lies_inside.false) (ap to_record w.choice-is)
    ]

pub returns : goal.returns
returns c = ended (omega arith) c.loop-k.invariant
