-- `split_candidates` meets its contract: each candidate that comes is stored behind those before it.
use Rattle.std.proofs.Common.{map, arith, append_assoc, length-append}
use Rattle.std.proofs.lemmas.List.{map-append}
use Rattle.control.specs.Settings.{shortest_of}
use Rattle.optimizer.specs.Remaining.{row_of, rows_left}
use Rattle.optimizer.proofs.Remaining.{candidates_few, place_left, stored_next}
use Rattle.optimizer.proofs.candidates.split_candidates.Goals as goal

pub bounds-rows-count : goal.bounds-rows-count
bounds-rows-count c =
    let i = c.loop-row.invariant in
    let few = candidates_few (shortest_of c.args.allowed.shortest) c.args.allowed.forbidden.now c.args.segment.start.0 c.args.segment.stop.0 in
    place_left (map row_of c.loop-row.yielded) (rows_left c.loop-row.row-iterator) _ _ c.loop-row.count _ _ i.2 i.3 c.in-Some.ensures.steps (omega arith)

pub loop-row-preserved : goal.loop-row-preserved
loop-row-preserved c =
    let i = c.loop-row.invariant in
    let left = c.in-Some.ensures.steps in (
      tt,
      tt,
      rw (map-append, length-append) (omega (arith, i.2)),
      rw (map-append, append_assoc) (rw left at i.3),
      rw map-append (stored_next (map row_of c.loop-row.yielded) c.args.rows.now c.loop-row.rows c.loop-row.count c.in-Some.row.0 i.2 i.4 (let room = bounds-rows-count c in omega arith)),
    )
