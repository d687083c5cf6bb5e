-- `exceeds_maximum` meets its contract: the two parts of the permutation.
use Rattle.std.proofs.Common.{◌-◌, ltb, ◌∙◌, arith}
use native.Mathlib.Nat.{add-sub_cancel_left}
use Rattle.scope.specs.Permutations.{exceeds}
use Rattle.scope.proofs.Every.{every_take, every_drop}
use Rattle.permutation_test.proofs.Observed.exceeds_maximum.Goals as goal

pub sums_after-sums-requires : goal.sums_after-sums-requires
sums_after-sums-requires g c =
    let all = c.requires.inside in
    (omega (arith, g.K.fits), (omega (arith, g.K.fits), rw every_take))

pub reaches_maximum-requires : goal.reaches_maximum-requires
reaches_maximum-requires g c =
    let rest = every_drop (λ v. ltb v c.args.self.l) (c.args.self.shortest.m - 1) c.args.permutation.now c.requires.inside in
    (omega (arith, g.K.fits), (omega (arith, g.K.fits), rw every_take))

pub returns : goal.returns
unfolding exceeds
returns g c = c.reaches_maximum.ensures ∙ rw (add-sub_cancel_left, c.sums_after-sums.ensures)
