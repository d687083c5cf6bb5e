-- What the loop of `column_terms` keeps: the result is the sum of the columns passed.
use Rattle.std.proofs.Common.{◌≡◌}
use Rattle.scope.specs.Gain.{terms}
use Rattle.change_in_mean.proofs.ChangeInMean.column_terms.Given as goal

abbrev pub invariant-loop-c : goal.invariant-loop-c
invariant-loop-c l = l.result ≡ terms l.self.sums.now l.start l.stop l.x l.s1 l.s2 l.c
