-- `any_past` meets its contract: a draw that stops past the run decides.
use Rattle.std.proofs.Common.{arith, sym, ◌∙◌, ap}
use Rattle.std.specs.Slice.Iter.{chunks_exact_rest}
use Rattle.scope.specs.Draws.{is_past}
use Rattle.draws.proofs.Past.{past_turn, past_end}
use Rattle.draws.proofs.any_past.Goals as goal

pub returns-then-is_past : goal.returns-then-is_past
returns-then-is_past c =
    let left = chunks_exact_rest c.loop-pair.pair-iterator in
    let steps = c.in-Some.ensures.steps in
    let turn = past_turn c.args.n c.in-Some.pair.now left (chunks_exact_rest c.next.new.self) steps.1.0 (steps.1.1 ∙ c.loop-pair.invariant.two) in
    let is = sym (c.is_past.ensures ∙ ap (is_past c.args.n) c.draw_at.ensures) ∙ c.if-is_past.true in
    sym (c.loop-pair.invariant.same ∙ turn ∙ rw is)

pub loop-pair-preserved : goal.loop-pair-preserved
loop-pair-preserved c =
    let left = chunks_exact_rest c.loop-pair.pair-iterator in
    let steps = c.in-Some.ensures.steps in
    let turn = past_turn c.args.n c.in-Some.pair.now left (chunks_exact_rest c.next.new.self) steps.1.0 (steps.1.1 ∙ c.loop-pair.invariant.two) in
    let is = sym (c.is_past.ensures ∙ ap (is_past c.args.n) c.draw_at.ensures) ∙ c.if-is_past.false in
    record { two = steps.0 ∙ c.loop-pair.invariant.two; same = c.loop-pair.invariant.same ∙ turn ∙ rw is }

pub returns : goal.returns
returns c =
    sym (c.loop-pair.invariant.same ∙ past_end c.args.n (chunks_exact_rest c.loop-pair.pair-iterator) (omega (arith, c.in-None.ensures.steps.1.0, c.loop-pair.invariant.two)))
