-- `put_count` meets its contract: the word, then the number.
use Rattle.scope.specs.Text.{line}
use Rattle.report.proofs.Pages.{field_then}
use Rattle.report.proofs.Page.put_count.Goals as goal

pub returns-clause-written : goal.returns-clause-written
unfolding line
returns-clause-written c = field_then c.args.word.now c.put_word.ensures c.put_number.ensures.written
