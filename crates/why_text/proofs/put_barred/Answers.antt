-- `put_barred` meets its contract: its fields, one after another.
use Rattle.scope.specs.Text.{bytes, decimal, line}
use Rattle.report.specs.Fields.{ended_by}
use Rattle.report.proofs.Pages.{field_then}
use Rattle.why_text.proofs.put_barred.Goals as goal

pub returns-clause-written : goal.returns-clause-written
unfolding bytes line ended_by
returns-clause-written c =
    let barring = field_then (decimal c.args.b) c.put_number-3.ensures.written c.put_ends.ensures.written in
    field_then (bytes "barred") c.put_word.ensures (field_then (decimal c.args.row.0) c.put_number.ensures.written (field_then (decimal c.args.a) c.put_number-2.ensures.written barring))
