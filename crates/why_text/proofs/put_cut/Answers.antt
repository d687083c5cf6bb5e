-- `put_cut` meets its contract: the fields to the segment's ends, then the origin.
use Rattle.std.proofs.Common.{append_assoc}
use Rattle.scope.specs.Text.{bytes, line}
use Rattle.report.specs.Fields.{ended_by}
use Rattle.report.proofs.Pages.{put_then}
use Rattle.why_text.proofs.put_cut.Goals as goal

pub returns-clause-written : goal.returns-clause-written
unfolding bytes line ended_by
returns-clause-written c = simp append_assoc at (put_then c.put_row.ensures.written c.put_last_origin.ensures.written)
