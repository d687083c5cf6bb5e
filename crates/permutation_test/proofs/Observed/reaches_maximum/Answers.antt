-- `reaches_maximum` meets its contract: no sum so far has reached the maximum, and so it turns on what follows index number i.
use Rattle.std.proofs.Common.{sym, ◌∙◌, arith}
use Rattle.permutation_test.proofs.Summed.{index_inside, reaches_next, reaches_none}
use Rattle.permutation_test.proofs.Observed.reaches_maximum.Goals as goal

pub add_deltas-after-requires : goal.add_deltas-after-requires
add_deltas-after-requires g c = (omega (arith, g.K.fits), (omega (arith, g.K.fits), index_inside c.args.indices.now c.loop-i.i-index c.args.self.l c.requires (omega arith)))

pub returns-then-has_reached : goal.returns-then-has_reached
returns-then-has_reached g c =
    sym (c.loop-i.invariant ∙ rw (reaches_next c.args.indices.now c.loop-i.i-index _ _ _ (omega arith), ← c.add_deltas-after.ensures, ← c.has_reached.ensures, c.if-has_reached.true))

pub loop-i-preserved : goal.loop-i-preserved
loop-i-preserved g c =
    c.loop-i.invariant ∙ rw (reaches_next c.args.indices.now c.loop-i.i-index _ _ _ (omega arith), ← c.add_deltas-after.ensures, ← c.has_reached.ensures, c.if-has_reached.false)

pub returns : goal.returns
returns g c = sym (c.loop-i.invariant ∙ reaches_none c.args.indices.now c.loop-i.i-index _ _ _ (omega arith))
