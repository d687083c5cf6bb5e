-- `put_ends` meets its contract: the two numbers, one after another.
use Rattle.scope.specs.Text.{decimal}
use Rattle.report.specs.Fields.{ended_by}
use Rattle.report.proofs.Pages.{field_then}
use Rattle.report.proofs.Page.put_ends.Goals as goal

pub returns-clause-written : goal.returns-clause-written
unfolding ended_by
returns-clause-written c = field_then (decimal c.args.ends.start.0) c.put_number.ensures.written c.put_number-2.ensures.written
