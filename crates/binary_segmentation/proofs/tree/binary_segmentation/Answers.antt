-- `binary_segmentation` meets its contract: the whole run is grown from no node and no cut on, behind the stored records.
use Rattle.std.proofs.Common.{rules}
use Rattle.binary_segmentation.proofs.Segmented.{whole_fits, segmented, held_there}
use Rattle.binary_segmentation.proofs.tree.binary_segmentation.Goals as goal

pub grow-requires : goal.grow-requires
grow-requires c = let run = c.run.ensures in rw (run.0, run.1) (c.requires.0, whole_fits c.args.asked c.args.n c.args.count _ c.requires.1)

pub returns : goal.returns
returns c =
    let run = c.run.ensures in
    let same = c.grow.ensures.same in
    let grown = segmented c.args.asked c.args.n c.args.count _ c.requires.1 _ _ (rw (run.0, run.1) at c.grow.ensures.grown) in
    held_there (search rules) (search rules) (search rules) (search rules) grown
