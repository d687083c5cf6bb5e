-- `record_at` meets its contract: the records before the one that splits at the row do not.
use Rattle.std.proofs.Common.{sym, ◌∙◌, arith}
use Rattle.sheet_text.proofs.Looked.{unseen_none, seen, unseen_more, unseen_all}
use Rattle.sheet_text.proofs.record_at.Goals as goal

pub loop-k-init : goal.loop-k-init
loop-k-init c = unseen_none

pub returns-then-eq : goal.returns-then-eq
returns-then-eq c = seen (omega arith) c.at-found.ensures c.loop-k.invariant (sym c.eq.ensures ∙ c.if-eq.true)

pub loop-k-preserved : goal.loop-k-preserved
loop-k-preserved c = unseen_more (omega arith) c.at-found.ensures c.loop-k.invariant (sym c.eq.ensures ∙ c.if-eq.false)

pub returns : goal.returns
returns c = unseen_all (omega arith) c.loop-k.invariant
