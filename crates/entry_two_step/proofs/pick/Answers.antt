-- `pick` meets its contract: the refusal, or the record's split and gain.
use Rattle.std.proofs.Common.{sym, ap, ◌∙◌}
use Rattle.optimizer.specs.Records.{to_record}
use Rattle.scope.specs.Refusals.{refused}
use Rattle.scope.specs.Grid.{Record}
use Rattle.scope.specs.Calls.{split_of}
use Rattle.entry_two_step.proofs.Clean.{pick_clean, pick_refused, pick_given}
use Rattle.entry_two_step.proofs.pick.Goals as goal

pub returns-in-Err : goal.returns-in-Err
returns-in-Err c = record { answer = ap refused c.number.ensures ∙ pick_refused _ c.in-Err.refusal c.in-Err.ensures }

pub single_find_best_split-requires-clause-start_le_stop : goal.single_find_best_split-requires-clause-start_le_stop
single_find_best_split-requires-clause-start_le_stop c = let f = (pick_clean _ (sym c.in_default.ensures)).0 in (f.least, (f.ordered, f.within, f.length_fits))

pub returns : goal.returns
returns c =
    record { answer = c.best.ensures ∙ pick_given _ (split_of (to_record c.single_find_best_split.result)) c.in_default.ensures (ap (λ (r : Record). split_of r) c.single_find_best_split.ensures) }
