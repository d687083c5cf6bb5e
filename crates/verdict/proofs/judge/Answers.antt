-- `judge` meets its contract: by what the search finds, and by the test of the choice.
use Rattle.std.proofs.Common.{sym, ◌∙◌}
use Rattle.stored.specs.Records.{records_of}
use Rattle.verdict.specs.Rules.{over}
use Rattle.verdict.proofs.Judged.{judged_none, judged_cut, judged_uncut}
use Rattle.verdict.proofs.judge.Goals as goal

pub returns-in_default : goal.returns-in_default
returns-in_default c =
    let s = c.args in
    judged_none (over s.asked) (records_of s.records) s.segment.start.0 s.segment.stop.0 _ c.in_default.ensures

pub returns-then-model_selection : goal.returns-then-model_selection
returns-then-model_selection c =
    let s = c.args in
    judged_cut (over s.asked) (records_of s.records) s.segment.start.0 s.segment.stop.0 c.in-Ok.direct c.in-Ok.ensures c.choose-choice.result c.choose-choice.ensures (sym c.model_selection.ensures ∙ c.if-model_selection.true)

pub returns : goal.returns
returns c =
    let s = c.args in
    judged_uncut (over s.asked) (records_of s.records) s.segment.start.0 s.segment.stop.0 c.in-Ok.direct c.in-Ok.ensures c.choose-choice.result c.choose-choice.ensures (sym c.model_selection.ensures ∙ c.if-model_selection.false)
