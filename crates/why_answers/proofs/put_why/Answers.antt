-- `put_why` meets its contract: the deck's refusal, the row's, or what is told of the row.
use Rattle.why_answers.proofs.Told.{none, line_is}
use Rattle.why_answers.proofs.put_why.Goals as goal

pub returns-clause-written : goal.returns-clause-written
returns-clause-written c =
    let a = c.args in
    let told = rw c.in_ok-explained.was at c.explain.ensures in
    let free = none a.row.0 a.deck a.cells.now a.forbidden.now c.in_ok-refusal.ensures.answer c.in_ok-explained.explained told in
    let line = line_is a.row.0 a.deck a.cells.now a.forbidden.now c.in_ok-refusal.ensures.answer c.in_ok-explained.explained told in
    rw (← free, ← line) c.put_why.ensures.written
