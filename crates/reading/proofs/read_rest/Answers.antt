-- Each lot adds its bytes, and takes a turn.
use Rattle.std.proofs.Common.{arith}
use Rattle.reading.proofs.Known.{begun_none_of, begun_more_of, begun_rest_of}
use Rattle.reading.proofs.read_rest.Goals as goal

pub loop-turn-init : goal.loop-turn-init
loop-turn-init g c = begun_none_of

pub returns-in-None-clause-known : goal.returns-in-None-clause-known
returns-in-None-clause-known g c =
    let ended = rw c.in-None.is at c.in_ok-next.ensures.known in
    let same = rw c.in-None.is at c.in_ok-next.ensures.fetched in
    begun_rest_of c.loop-turn.invariant c.finish.result (omega arith) ended c.finish.ensures.said same.0 same.1

pub loop-turn-preserved : goal.loop-turn-preserved
loop-turn-preserved g c = begun_more_of c.loop-turn.invariant (rw c.in-Some.is at c.in_ok-next.ensures.known)
