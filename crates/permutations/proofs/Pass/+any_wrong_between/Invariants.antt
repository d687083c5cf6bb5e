-- How many values there are, which each part has fewer of.
use Rattle.std.proofs.Common.{◌-◌}
use Rattle.permutations.proofs.Pass.+any_wrong_between.Given as goal

abbrev pub decreases-any_wrong_between : goal.decreases-any_wrong_between
decreases-any_wrong_between l = l.self.high - l.self.low
