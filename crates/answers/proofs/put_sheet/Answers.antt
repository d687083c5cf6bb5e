-- `put_sheet` meets its contract: the deck's refusal, its tree's, or the sheet.
use Rattle.std.proofs.Common.{arith}
use Rattle.answers.proofs.Grown.{sheeted}
use Rattle.answers.proofs.put_sheet.Goals as goal

pub invariant_of-records : goal.invariant_of-records
invariant_of-records c =
    let a = c.args in
    let w = sheeted a.deck a.cells.now a.forbidden.now c.in_ok-refusal.ensures.answer a.rows.now a.gains.now a.cuts.now _ _ _ c.in_ok-grown.grown (rw c.in_ok-grown.was at c.grow.ensures) in
    record { in_room = (omega (arith, w.few_records), omega (arith, w.few_records)) }

pub returns-clause-written : goal.returns-clause-written
returns-clause-written c =
    let a = c.args in
    let w = sheeted a.deck a.cells.now a.forbidden.now c.in_ok-refusal.ensures.answer a.rows.now a.gains.now a.cuts.now _ _ _ c.in_ok-grown.grown (rw c.in_ok-grown.was at c.grow.ensures) in
    rw (← w.none, ← w.text) c.put_sheet.ensures.written
