-- `grow` meets its contract: the tree of what is held of the deck, in the room that the types give.
use Rattle.std.proofs.Common.{arith}
use Rattle.limits.proofs.Clean.{given_clean}
use Rattle.answers.proofs.Grown.{grew}
use Rattle.answers.proofs.grow.Goals as goal

pub matrix-requires : goal.matrix-requires
matrix-requires c = omega (arith, (given_clean c.args.deck c.args.forbidden.now c.requires).sizes.size)

pub returns : goal.returns
returns c =
    let a = c.args in
    let held = rw (c.matrix.ensures, c.settings.ensures) at c.split_points.ensures in
    grew a.deck a.cells.now a.forbidden.now _ _ _ _ _ held (omega arith) (omega arith) (omega arith) (omega arith)
