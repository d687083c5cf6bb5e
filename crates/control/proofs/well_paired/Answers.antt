-- `well_paired` meets its contract: a pair out of order decides, and at the end an entry that is left.
use Rattle.std.proofs.Common.{arith, length, sym, ◌∙◌, ap, length-append}
use borrow.Author.Tests.{lt-leb, le-leb}
use Rattle.std.specs.Slice.Iter.{chunks_exact_rest}
use Rattle.control.proofs.Pairs.{paired_turn, paired_end}
use Rattle.control.proofs.well_paired.Goals as goal
use Rattle.control.proofs.well_paired.Goals.{After-next}

pub returns-then-pair : goal.returns-then-pair
returns-then-pair c =
    let left = chunks_exact_rest c.loop-pair.pair-iterator in
    let turn = paired_turn c.in-Some.pair.now left (chunks_exact_rest c.next.new.self) c.in-Some.ensures.steps.1.0 (c.in-Some.ensures.steps.1.1 ∙ c.loop-pair.invariant.two) in
    sym (c.loop-pair.invariant.same ∙ turn ∙ rw (lt-leb _ _ c.if-pair.true))

pub loop-pair-preserved : goal.loop-pair-preserved
loop-pair-preserved c =
    let left = chunks_exact_rest c.loop-pair.pair-iterator in
    let next = chunks_exact_rest c.next.new.self in
    let steps = c.in-Some.ensures.steps in
    let two = steps.1.1 ∙ c.loop-pair.invariant.two in
    let turn = paired_turn c.in-Some.pair.now left next steps.1.0 two in
    record {
      two = steps.0 ∙ c.loop-pair.invariant.two;
      odd = omega (arith, ap length steps.1.0, length-append c.in-Some.pair.now next, two, c.loop-pair.invariant.odd);
      same = c.loop-pair.invariant.same ∙ turn ∙ rw (le-leb _ _ c.if-pair.false);
    }

pub returns : goal.returns
returns c =
    let left = chunks_exact_rest c.loop-pair.pair-iterator in
    rw (← c.loop-pair.invariant.odd) (paired_end left (omega (arith, c.in-None.ensures.steps.1.0, c.loop-pair.invariant.two)) ∙ sym c.loop-pair.invariant.same)
