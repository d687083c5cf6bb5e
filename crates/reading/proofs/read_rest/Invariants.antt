-- The state is that after the bytes so far.
use Rattle.reading.specs.Known.{BegunOf}
use Rattle.reading.proofs.read_rest.Given as goal

abbrev pub invariant-loop-turn : goal.invariant-loop-turn
invariant-loop-turn g l = BegunOf (g.R.Read.remaining l.initial.input) (g.R.Read.remaining l.input) l.initial.state l.initial.cells l.initial.forbidden l.state l.cells l.forbidden l._turn
