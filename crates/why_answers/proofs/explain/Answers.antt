-- `explain` meets its contract: what is told of what is held of the deck, in the room that the types give.
use Rattle.std.proofs.Common.{refl, arith}
use Rattle.limits.proofs.Clean.{given_clean}
use Rattle.why_answers.proofs.Told.{tells}
use Rattle.why_answers.proofs.explain.Goals as goal

pub matrix-requires : goal.matrix-requires
matrix-requires c = omega (arith, (given_clean c.args.deck c.args.forbidden.now c.requires).sizes.size)

pub returns : goal.returns
returns c =
    let a = c.args in
    let held = rw (c.matrix.ensures, c.settings.ensures) at c.why.ensures in
    tells a.row.0 a.deck a.cells.now a.forbidden.now _ _ _ _ _ (omega arith) refl refl refl held
