-- `any_wrong_with` meets its contract: in the permutations passed these values stand apart.
use Rattle.std.proofs.Common.{◌≡◌, arith, below_none, below_more}
use mathlib.Core.Bool.{false≢true}
use Rattle.permutations.proofs.Passes.{one_refuted, one_wrong}
use Rattle.permutations.proofs.Pass.any_wrong_with.Goals as goal

pub loop-q-init : goal.loop-q-init
loop-q-init c = below_none _

pub returns-then-holds_wrong : goal.returns-then-holds_wrong
returns-then-holds_wrong c =
    let wrong = rw c.at.ensures at (c.holds_wrong.ensures.refuted c.if-holds_wrong.true) in
    one_wrong _ _ _ (one_refuted _ _ _ c.loop-q.q (omega arith) wrong)

pub loop-q-preserved : goal.loop-q-preserved
loop-q-preserved c = below_more _ _ c.loop-q.invariant (rw c.at.ensures at (c.holds_wrong.ensures.apart c.if-holds_wrong.false))

pub returns : goal.returns
returns c =
    let all : c.loop-q.q ≡ c.args.self.permutations.p = omega arith in
    record { refuted = λ f. absurd (false≢true f); apart = λ t. rw all at c.loop-q.invariant }
