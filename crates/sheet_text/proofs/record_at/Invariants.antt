-- What the loop of `record_at` keeps: no record so far splits at the row.
use Rattle.sheet_text.proofs.Looked.{Unseen}
use Rattle.sheet_text.proofs.record_at.Given as goal

abbrev pub invariant-loop-k : goal.invariant-loop-k
invariant-loop-k l = Unseen l.records l.row.0 l.k
