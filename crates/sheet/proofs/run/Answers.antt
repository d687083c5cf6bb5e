-- The text is that of the bytes that were read.
use Rattle.std.proofs.Common.{arith}
use Rattle.reading.proofs.Lots.{told_of}
use Rattle.sheet.proofs.run.Goals as goal

pub returns-clause-told : goal.returns-clause-told
returns-clause-told g c = told_of (omega arith) (omega arith) c.in_ok-read.ensures.taken c.answer.ensures.said
