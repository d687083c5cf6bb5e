-- `store_draws` meets its contract: before each pair, those records stand that the pairs passed have left, and the rest of the list is to leave the others.
use Rattle.std.proofs.Common.{◌∙◌, arith, rules}
use Rattle.std.specs.Iterator.Adapters.{enumerate_source}
use Rattle.std.specs.Slice.Iter.{chunks_exact_rest}
use Rattle.segmentation.specs.Segments.{search_over}
use Rattle.segmentation.proofs.Clean.{draw_within}
use Rattle.segmentation.proofs.Drawing.{drawing_none, drawing_pair, drawing_next, drawing_ends, drawing_full}
use Rattle.segmentation.proofs.store_draws.Goals as goal

pub loop-number-init : goal.loop-number-init
loop-number-init c =
    let s = c.args in
    let same = c.into_iter-number-iterator.ensures.into_iter_gives in
    let items = c.enumerate-number-items.ensures in
    let chunks = c.chunks_exact.ensures in
    record {
      two = rw (same, items.source) chunks.size;
      can_next = search rules;
      ends = search rules;
      drawing = rw (same, items.source, items.count, chunks.rest) (drawing_none (search_over s.gain s.allowed) s.draws.now s.w);
    }

pub returns-then-count-w : goal.returns-then-count-w
returns-then-count-w c = let s = c.args in drawing_full (search_over s.gain s.allowed) s.draws.now s.w c.loop-number.invariant.drawing c.if-count-w.true

-- the pair is one of the list
pub store_draw-count-requires-clause-stop_bound : goal.store_draw-count-requires-clause-stop_bound
store_draw-count-requires-clause-stop_bound c =
    let s = c.args in
    let steps = c.in-Some.ensures.steps in
    let before = c.loop-number.invariant in
    let listed = drawing_pair (search_over s.gain s.allowed) s.draws.now s.w before.drawing c.in-Some.pair.now (chunks_exact_rest (enumerate_source c.next.new.self)) steps.0.1.0 (steps.0.1.1 ∙ before.two) in
    let fits = draw_within c.requires.m_bound.1 listed c.draw_at-draw.ensures in
    (fits.0, c.requires.m_bound.0, fits.1)

pub loop-number-preserved : goal.loop-number-preserved
loop-number-preserved c =
    let s = c.args in
    let steps = c.in-Some.ensures.steps in
    let before = c.loop-number.invariant in
    record {
      two = steps.0.0 ∙ before.two;
      can_next = search rules;
      ends = search rules;
      drawing = rw steps.2 (drawing_next (search_over s.gain s.allowed) s.draws.now s.w before.drawing c.in-Some.pair.now (chunks_exact_rest (enumerate_source c.next.new.self)) steps.0.1.0 (steps.0.1.1 ∙ before.two) (omega arith) steps.1 c.draw_at-draw.ensures c.store_draw-count.ensures);
    }

pub returns : goal.returns
returns c =
    let s = c.args in
    let before = c.loop-number.invariant in
    drawing_ends (search_over s.gain s.allowed) s.draws.now s.w before.drawing (rw before.two at c.in-None.ensures.steps.0.1.0)
