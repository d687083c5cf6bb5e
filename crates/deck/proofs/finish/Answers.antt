-- `finish` meets its contract: the answer is right.
use Rattle.std.proofs.Common.{◌≡◌, rules}
use Rattle.deck.specs.Walk.{read_of}
use Rattle.deck.proofs.Whole.{answer_right}
use Rattle.deck.proofs.finish.Goals as goal

pub returns-clause-said : goal.returns-clause-said
returns-clause-said c = let answer : c.and_then.result ≡ read_of c.args.state = search rules in answer_right answer
