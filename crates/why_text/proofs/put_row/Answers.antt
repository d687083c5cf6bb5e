-- `put_row` meets its contract: the word, the row, and the segment's ends.
use Rattle.scope.specs.Text.{decimal}
use Rattle.report.specs.Fields.{ended_by}
use Rattle.report.proofs.Pages.{field_then}
use Rattle.why_text.proofs.put_row.Goals as goal

pub returns-clause-written : goal.returns-clause-written
unfolding ended_by
returns-clause-written c = field_then c.args.word.now c.put_word.ensures (field_then (decimal c.args.row.0) c.put_number.ensures.written c.put_ends.ensures.written)
