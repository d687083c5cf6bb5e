-- `candidate_number` meets its contract: what `nth` gives of the candidates.
use Rattle.std.proofs.Common.{ap, ◌∙◌}
use Rattle.std.proofs.lemmas.Iterator.Consumers.{nth_from_yields_List, YieldsList-from_first}
use Rattle.rows.specs.declared.Position.{Position}
use Rattle.optimizer.specs.Remaining.{row_of, rows_left}
use Rattle.two_step_search.proofs.Guessing.{numbered}
use Rattle.two_step_search.proofs.candidate_number.Goals as goal

pub returns : goal.returns
returns c =
    ap (λ (p : Position). p.0) c.unwrap_or.ensures
    ∙ numbered c.nth.result _ c.args.i (nth_from_yields_List c.nth.result c.nth.new.self c.args.i c.nth.ensures.ran (YieldsList-from_first row_of rows_left _ c.of.ensures))
