-- The bytes of the lot are those that were fed.
use Rattle.std.proofs.Common.{arith, take, length-take}
use Rattle.reading.proofs.Lots.{fed_is}
use Rattle.reading.proofs.read_lot.Goals as goal

pub returns-in_default-clause-known : goal.returns-in_default-clause-known
returns-in_default-clause-known g c =
    record {
      lot = fed_is (take c.in_ok-n.n c.read.new.buf) (rw length-take (omega (arith, c.read.auto.buf))) c.feed.ensures.state c.feed.ensures.cells c.feed.ensures.forbidden;
      took = c.in_ok-n.ensures.bytes.0;
    }
