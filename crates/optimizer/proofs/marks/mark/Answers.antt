-- `mark` meets its contract: each turn marks what a pair bars, until none is left.
use Rattle.std.proofs.Common.{arith}
use Rattle.optimizer.proofs.Barred.{pair_marked, all_marked}
use Rattle.optimizer.proofs.marks.mark.Goals as goal

pub loop-pair-preserved : goal.loop-pair-preserved
loop-pair-preserved c =
    let i = c.loop-pair.invariant in
    let next = c.in-Some.ensures.steps in
    let marked = c.mark_pair.ensures in
    (omega arith, tt, omega arith, omega (arith, marked.long), λ x l. pair_marked c.in-Some.pair.now _ _ c.loop-pair.marks c.mark_pair.new.marks x _ next.1.0 (omega arith) (marked.told x l) (i.4 x l))

pub returns : goal.returns
returns c _ =
    let i = c.loop-pair.invariant in
    let next = c.in-None.ensures.steps in
    record { long = i.3; told = λ x l. all_marked _ _ _ x (omega arith) (i.4 x l) }
