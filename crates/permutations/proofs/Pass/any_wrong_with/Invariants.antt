-- What the loop of `any_wrong_with` keeps.
use Rattle.std.proofs.Common.{ℕ, ◌<◌}
use Rattle.scope.specs.Permutations.{block}
use Rattle.permutations.specs.Marks.{Apart}
use Rattle.permutations.proofs.Pass.any_wrong_with.Given as goal

abbrev pub invariant-loop-q : goal.invariant-loop-q
invariant-loop-q l = (j : ℕ) → j < l.q → Apart l.self.l l.self.low l.self.high (block l.self.l l.self.permutations.indices.now j)
