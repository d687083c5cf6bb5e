-- `GainRecord::guessed` meets its contract: minus infinity by its bits.
use Rattle.std.proofs.Common.{refl}
use lib.Ieee.{of_bits}
use Rattle.optimizer.proofs.optimizer_result.GainRecord.guessed.Goals as goal

pub returns : goal.returns
unfolding of_bits
returns c = refl
