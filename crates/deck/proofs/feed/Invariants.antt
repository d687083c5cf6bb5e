-- What the loop of `feed` keeps: what the whole lot comes to is what the bytes so far and those behind them come to.
use Rattle.std.proofs.Common.{◌≡◌, drop, Ok}
use Rattle.deck.specs.Walk.{run, fed}
use Rattle.deck.proofs.feed.Given as goal

abbrev pub invariant-loop-b : goal.invariant-loop-b
invariant-loop-b l = fed (run (Ok l.initial.open) l.initial.cells l.initial.forbidden) l.lot ≡ fed (run (Ok l.open) l.cells l.forbidden) (drop l.b-index l.lot)
