-- `explain` meets its contract: the segment is one that holds the row, down to the one that it is told of.
use Rattle.std.proofs.Common.{◌<◌, sym, ◌∙◌, arith, rules}
use borrow.Author.Tests.{eqb-true}
use Rattle.stored.specs.Records.{records_of}
use Rattle.verdict.specs.Rules.{over}
use Rattle.reasons.proofs.Walk.{not_cut, down_whole, told_uncut, told_cut, far, down_left, down_right}
use Rattle.reasons.proofs.explain.Goals as goal

pub loop-choice-init : goal.loop-choice-init
loop-choice-init c =
    let s = c.args in
    let run = c.run-segment.ensures in
    rw (run.0, run.1) (down_whole s.asked s.n (records_of s.records) s.row.0 c.requires.2.least c.requires.1)

-- it is not cut
pub returns : goal.returns
returns c segments stand =
    let s = c.args in
    let at = c.loop-choice in
    let rs = records_of s.records in
    let uncut = not_cut (over s.asked) rs at.segment.start.0 at.segment.stop.0 c.judge.result c.in_default.not-Cut c.judge.ensures in
    c.reason_in.ensures ∙ told_uncut s.asked s.n rs s.row.0 c.requires.2.least at.segment.start.0 at.segment.stop.0 at.invariant uncut segments stand

-- it is cut at the row
pub returns-then-eq : goal.returns-then-eq
returns-then-eq c segments stand =
    let at = c.loop-choice in
    told_cut c.args.asked c.args.n (records_of c.args.records) c.args.row.0 c.requires.2.least at.segment.start.0 at.segment.stop.0 at.invariant _ c.in-Cut.ensures.1 (eqb-true _ _ (sym c.eq.ensures ∙ c.if-eq.true)) segments stand

-- it is cut behind the row, or before; the cut lies within
pub loop-choice-smaller-then-lt : goal.loop-choice-smaller-then-lt
loop-choice-smaller-then-lt c =
    let s = c.args in
    let at = c.loop-choice in
    let ready = c.requires.2 in
    let f = far s.asked s.n (records_of s.records) s.row.0 ready.least at.segment.start.0 at.segment.stop.0 at.invariant _ c.in-Cut.ensures.1 ready.segments ready.stand in
    omega (arith, f.right, f.left, ready.least)

pub loop-choice-preserved-then-lt : goal.loop-choice-preserved-then-lt
loop-choice-preserved-then-lt c =
    let s = c.args in
    let at = c.loop-choice in
    let ready = c.requires.2 in
    let below : s.row.0 < c.in-Cut.choice.best_split.0 = search rules in
    down_left s.asked s.n (records_of s.records) s.row.0 ready.least at.segment.start.0 at.segment.stop.0 at.invariant _ c.in-Cut.ensures.1 ready.segments ready.stand below

pub loop-choice-smaller : goal.loop-choice-smaller
loop-choice-smaller c =
    let s = c.args in
    let at = c.loop-choice in
    let ready = c.requires.2 in
    let f = far s.asked s.n (records_of s.records) s.row.0 ready.least at.segment.start.0 at.segment.stop.0 at.invariant _ c.in-Cut.ensures.1 ready.segments ready.stand in
    omega (arith, f.right, f.left, ready.least)

pub loop-choice-preserved : goal.loop-choice-preserved
loop-choice-preserved c =
    let s = c.args in
    let at = c.loop-choice in
    let ready = c.requires.2 in
    let above : c.in-Cut.choice.best_split.0 < s.row.0 = search rules in
    down_right s.asked s.n (records_of s.records) s.row.0 ready.least at.segment.start.0 at.segment.stop.0 at.invariant _ c.in-Cut.ensures.1 ready.segments ready.stand above
