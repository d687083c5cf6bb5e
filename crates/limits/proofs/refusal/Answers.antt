-- `refusal` meets its contract: what the definitions judge of the deck is the same.
use Rattle.limits.proofs.Refused.{refusal_right}
use Rattle.limits.proofs.refusal.Goals as goal

pub returns-clause-judged : goal.returns-clause-judged
returns-clause-judged c = refusal_right _ _ _ c.given_refusal.ensures
