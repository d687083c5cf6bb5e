-- The bytes that stand in the buffer are fed, and what is read behind them, if they fill it.
use Rattle.std.proofs.Common.{◌≤◌, length, arith}
use Rattle.reading.proofs.Lots.{whole_ended, whole_rested}
use Rattle.reading.proofs.Known.{taken_rested}
use Rattle.reading.proofs.read_all.Goals as goal

pub returns-then-n-kept-clause-taken : goal.returns-then-n-kept-clause-taken
returns-then-n-kept-clause-taken g c =
    let short : length c.keep.new.kept ≤ 65536 = omega (arith, c.requires, c.keep.auto.kept) in
    whole_ended _ _ _ short _ c.in_ok-n.ensures.filled _ _ _ (rw (c.feed-state.ensures.state, c.feed-state.ensures.cells, c.feed-state.ensures.forbidden, c.start.ensures)) c.finish.ensures.said

pub returns-clause-taken : goal.returns-clause-taken
returns-clause-taken g c =
    let short : length c.keep.new.kept ≤ 65536 = omega (arith, c.requires, c.keep.auto.kept) in
    whole_rested _ _ _ short _ c.in_ok-n.ensures.filled _ _ _ (rw (c.feed-state.ensures.state, c.feed-state.ensures.cells, c.feed-state.ensures.forbidden, c.start.ensures)) (omega arith) _ _ c.read_rest.result
    c.read_rest.ensures.rested

pub returns-clause-known : goal.returns-clause-known
returns-clause-known g c =
    let short : length c.keep.new.kept ≤ 65536 = omega (arith, c.requires, c.keep.auto.kept) in
    taken_rested _ _ _ short _ c.in_ok-n.ensures.filled _ _ _ (rw (c.feed-state.ensures.state, c.feed-state.ensures.cells, c.feed-state.ensures.forbidden, c.start.ensures)) _ _ (omega arith)
    c.in_ok-n.ensures.known.0 _ _ c.read_rest.result c.read_rest.ensures.known
