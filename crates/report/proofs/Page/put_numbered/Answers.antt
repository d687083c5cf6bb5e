-- `put_numbered` meets its contract: the word, then the digits.
use Rattle.report.proofs.Pages.{put_then}
use Rattle.report.proofs.Page.put_numbered.Goals as goal

pub returns-clause-written : goal.returns-clause-written
returns-clause-written c = put_then c.put_text.ensures c.put_decimal.ensures.written
