-- `count_candidates` meets its contract: the candidates are few.
use Rattle.std.proofs.Common.{inl, arith}
use Rattle.control.specs.Settings.{shortest_of}
use Rattle.two_step_search.proofs.Guessing.{few_rows}
use Rattle.two_step_search.proofs.count_candidates.Goals as goal

pub count-requires-clause-fits : goal.count-requires-clause-fits
count-requires-clause-fits c =
    let a = c.args in
    let few = few_rows (shortest_of a.allowed.shortest) a.allowed.forbidden.now a.segment.start.0 a.segment.stop.0 c.requires.1 in
    inl (rw c.of.ensures (omega arith))
