-- `put_word` meets its contract: the word, then the tab.
use Rattle.report.proofs.Pages.{put_then}
use Rattle.report.proofs.Page.put_word.Goals as goal

pub returns : goal.returns
returns c = put_then c.put_text.ensures c.put_byte.ensures
