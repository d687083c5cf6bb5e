-- `sums_after` meets its contract: what is left to add is what follows index number i.
use Rattle.std.proofs.Common.{sym, ◌∙◌, arith}
use Rattle.permutation_test.proofs.Summed.{index_inside, added_next, added_none}
use Rattle.permutation_test.proofs.Observed.sums_after.Goals as goal

pub add_deltas-after-requires : goal.add_deltas-after-requires
add_deltas-after-requires g c = (omega (arith, g.K.fits), (omega (arith, g.K.fits), index_inside c.args.indices.now c.loop-i.i-index c.args.self.l c.requires (omega arith)))

pub loop-i-preserved : goal.loop-i-preserved
loop-i-preserved g c = rw c.add_deltas-after.ensures (c.loop-i.invariant ∙ added_next c.args.indices.now c.loop-i.i-index _ _ (omega arith))

pub returns : goal.returns
returns g c = sym (c.loop-i.invariant ∙ added_none c.args.indices.now c.loop-i.i-index _ _ (omega arith))
