-- `put_cut` meets its contract: the fields to the record's ends, then its origin.
use Rattle.std.proofs.Common.{append_assoc}
use Rattle.scope.specs.Text.{bytes, line}
use Rattle.report.specs.Fields.{ended_by}
use Rattle.report.proofs.Pages.{put_then}
use Rattle.report.proofs.Page.put_cut.Goals as goal

pub returns-clause-written : goal.returns-clause-written
unfolding bytes line ended_by
returns-clause-written c =
    let ends = c.segment.ensures in
    let fields = rw (ends.0, ends.1) at c.put_gain.ensures.written in
    simp append_assoc at (put_then fields c.put_last_origin.ensures.written)
