-- `feed` meets its contract: a walk over the lot, which ends early at a malformed line.
use Rattle.std.proofs.Common.{◌≡◌, ◌∙◌, Err, arith, rules}
use Rattle.deck.proofs.Fed.{fed_next, fed_none, fed_lost, came}
use Rattle.deck.proofs.feed.Goals as goal

pub returns-in_err-open : goal.returns-in_err-open
returns-in_err-open c =
    let bad : c.from_residual.result ≡ Err c.in_err-open.field-0.0 = search rules in
    let e = came (rw (c.in_err-open.was, bad) (fed_lost c.in_err-open.field-0.0 c.args.cells.now c.args.forbidden.now c.args.lot.now)) in
    record { state = e.0; cells = e.1; forbidden = e.2 }

pub returns-in_err-open-2 : goal.returns-in_err-open-2
returns-in_err-open-2 c =
    let bad : c.from_residual-in_err-open-2.result ≡ Err c.in_err-open-2.field-0.0 = search rules in
    let next = fed_next _ _ _ _ _ c.loop-b.invariant c.loop-b-test.true c.step-moved.ensures c.store.ensures.cells_after c.store.ensures.forbidden_after in
    let e = came (rw (c.in_ok-open.was, bad) (rw c.in_err-open-2.was at next ∙ fed_lost c.in_err-open-2.field-0.0 _ _ _)) in
    record { state = e.0; cells = e.1; forbidden = e.2 }

pub loop-b-preserved : goal.loop-b-preserved
loop-b-preserved c =
    rw (← c.in_ok-open-2.was) (fed_next _ _ _ _ _ c.loop-b.invariant c.loop-b-test.true c.step-moved.ensures c.store.ensures.cells_after c.store.ensures.forbidden_after)

pub returns : goal.returns
returns c =
    let e = came (rw c.in_ok-open.was (c.loop-b.invariant ∙ fed_none _ c.args.lot.now c.loop-b.b-index (omega arith))) in
    record { state = e.0; cells = e.1; forbidden = e.2 }
