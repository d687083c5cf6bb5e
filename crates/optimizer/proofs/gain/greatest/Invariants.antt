-- What the loop of `greatest` keeps: the search goes on from the record over the candidates that are left.
use Rattle.std.proofs.Common.{◌≡◌, map}
use Rattle.scope.specs.Grid.{best, trial, trials}
use Rattle.control.specs.Settings.{shortest_of}
use Rattle.optimizer.specs.Remaining.{Each, rows_left}
use Rattle.optimizer.specs.Records.{to_record}
use Rattle.optimizer.proofs.gain.greatest.Given as goal

abbrev pub invariant-loop-split : goal.invariant-loop-split
invariant-loop-split g l =
    let gain = g.G.Gain.gains l.gain in
    let a = l.fn.segment.start.0 in
    let e = l.fn.segment.stop.0 in
    (goal.iterator-loop-split g).can_next l.split-iterator
    × (goal.iterator-loop-split g).is_finite l.split-iterator
    × (l.record.start.0 ≡ a)
    × (l.record.stop.0 ≡ e)
    × Each (g.G.Gain.IsKnown l.gain a e) (rows_left l.split-iterator)
    × (best (to_record l.fn.from) (trials gain (shortest_of l.fn.allowed.shortest) l.fn.allowed.forbidden.now a e)
    ≡ best (to_record l.record) (map (trial gain a e) (rows_left l.split-iterator)))
