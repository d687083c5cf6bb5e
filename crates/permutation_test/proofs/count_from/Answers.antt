-- `count_from` meets its contract: after q permutations the count is theirs.
use Rattle.std.proofs.Common.{true, false, take, refl, sym, ◌∙◌, arith}
use Rattle.scope.specs.Permutations.{counter}
use Rattle.control.specs.Settings.{shortest_of}
use Rattle.classifier_gain.specs.Asked.{deltas_of}
use Rattle.classifier_gain.proofs.Lents.{deltas_within}
use Rattle.permutations.proofs.Passes.{block_length, block_inside, right_all}
use Rattle.permutation_test.proofs.Counted.{counter_next, counter_most, right_lengths}
use Rattle.permutation_test.proofs.count_from.Goals as goal
use Rattle.permutation_test.proofs.count_from.Goals.{then-exceeds_maximum, else-exceeds_maximum}

pub invariant_of-observed : goal.invariant_of-observed
invariant_of-observed g c =
    let (size, same) = right_lengths c.args.curves.k c.args.l c.args.curves.lent c.requires.are_long in
    record { are_long = rw c.counted.ensures (c.requires.le_m.0, omega arith, omega arith, size, same) }

pub loop-q-init : goal.loop-q-init
unfolding counter
loop-q-init g c = refl

pub at-requires : goal.at-requires
at-requires g c = (omega arith, (right_all c.args.permutations.p c.args.l c.args.permutations.indices.now c.requires.are_true).1)

pub exceeds_maximum-requires : goal.exceeds_maximum-requires
exceeds_maximum-requires g c =
    let p = c.args.permutations.p in
    let l = c.args.l in
    let indices = c.args.permutations.indices.now in
    let (few, count, all) = right_all p l indices c.requires.are_true in
    rw c.at.ensures
    (omega (arith, g.K.fits), (omega (arith, g.K.fits), (block_length p l indices count c.loop-q.q (omega arith), block_inside p l indices all c.loop-q.q (omega arith))))

pub overflow_add-counted : goal.overflow_add-counted
overflow_add-counted g c =
    let a = c.args in
    let few = (right_all a.permutations.p a.l a.permutations.indices.now c.requires.are_true).0 in
    let most = counter_most (shortest_of a.shortest) a.l a.bases (take a.curves.k (deltas_of a.curves.lent)) a.maximum a.permutations.indices.now c.loop-q.q in
    omega (arith, c.loop-q.invariant, few, most)

pub loop-q-preserved : goal.loop-q-preserved
loop-q-preserved g c =
    let a = c.args in
    let found = rw (c.at.ensures, c.counted.ensures, ← deltas_within a.curves.k a.curves.lent) at c.exceeds_maximum.ensures in
    let next = counter_next (shortest_of a.shortest) a.l a.bases (take a.curves.k (deltas_of a.curves.lent)) a.maximum a.permutations.indices.now c.loop-q.q in
    elim c.if-exceeds_maximum.branch [
      | then-exceeds_maximum w ↦ omega (arith, w.counted-is, c.loop-q.invariant, next true (sym found ∙ w.if-exceeds_maximum.true))
      | else-exceeds_maximum w ↦ omega (arith, w.counted-is, c.loop-q.invariant, next false (sym found ∙ w.if-exceeds_maximum.false))
    ]
