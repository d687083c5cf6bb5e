-- What the loop of `holds_wrong` keeps.
use Rattle.std.proofs.Common.{take}
use Rattle.permutations.proofs.Marked.{Clean}
use Rattle.permutations.proofs.Pass.holds_wrong.Given as goal

abbrev pub invariant-loop-v : goal.invariant-loop-v
invariant-loop-v l = Clean l.self.l l.self.low l.self.high l.marks (take l.v-index l.permutation)
