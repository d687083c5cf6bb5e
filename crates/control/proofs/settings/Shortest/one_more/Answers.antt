-- `one_more` meets its contract: one row if the end is closed, else none.
use native.Mathlib.Omega.{arith}
use Rattle.scope.specs.Asked.{one_more}
use Rattle.control.proofs.settings.Shortest.one_more.Goals as goal

pub returns-then-self : goal.returns-then-self
unfolding one_more
returns-then-self c = (rw c.if-self.true, omega arith)

pub returns-else-self : goal.returns-else-self
unfolding one_more
returns-else-self c = (rw c.if-self.false, omega arith)
