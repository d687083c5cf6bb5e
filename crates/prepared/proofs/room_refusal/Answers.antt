-- `room_refusal` meets its contract: the records' sum is small.
use Rattle.std.proofs.Common.{arith}
use Rattle.control.specs.Settings.{source_of}
use Rattle.draws.proofs.Given.{stored_most}
use Rattle.prepared.proofs.room_refusal.Goals as goal

pub overflow_add-most_stored : goal.overflow_add-most_stored
overflow_add-most_stored c = omega (arith, c.most_stored.ensures, c.most_nodes-most.ensures, stored_most (source_of c.args.source) c.requires.3 c.requires.4)
