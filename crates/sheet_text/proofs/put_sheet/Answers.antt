-- `put_sheet` meets its contract: the three parts, one after another.
use Rattle.scope.specs.Text.{bytes}
use Rattle.report.proofs.Pages.{put_then}
use Rattle.sheet_text.proofs.put_sheet.Goals as goal

pub returns-clause-written : goal.returns-clause-written
unfolding bytes
returns-clause-written c = put_then (put_then c.put_count.ensures.written c.put_lines.ensures.written) c.put_count-2.ensures.written
