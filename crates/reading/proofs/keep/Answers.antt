-- What a read delivers stands behind what stood there.
use Rattle.std.proofs.Common.{rules, subst}
use Rattle.std.specs.Io.KnownBytes.{Consumes}
use Rattle.std.proofs.KnownBytes.{Consumes-trans}
use Rattle.reading.proofs.Known.{behind}
use Rattle.reading.proofs.keep.Goals as goal

pub loop-n-preserved : goal.loop-n-preserved
loop-n-preserved g c =
    (search rules, subst (Consumes _ _) (behind c.loop-n.n c.in_ok-more.more c.loop-n.kept c.read.new.buf c.loop-n.invariant.0 c.in_ok-more.ensures.bound.0) (Consumes-trans _ _ _ _ _ c.loop-n.invariant.1 c.in_ok-more.ensures.bytes.0))
