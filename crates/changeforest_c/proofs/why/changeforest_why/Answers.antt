-- `changeforest_why` meets its contract: the text that is written is that of what is told.
use Rattle.std.proofs.Common.{◌∙◌, ap, length}
use Rattle.reasons.specs.Answers.{to_why}
use Rattle.changeforest_c.proofs.Heard.{text_told}
use Rattle.changeforest_c.proofs.why.changeforest_why.Goals as goal

pub put_why-requires : goal.put_why-requires
put_why-requires c = c.why.ensures.written c.in-Ok.found c.in-Ok.is ∙ ap length (text_told _ (to_why c.in-Ok.found.why) c.in-Ok.ensures.answer)
