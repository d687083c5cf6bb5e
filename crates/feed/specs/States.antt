-- The code's state, as the definitions'.
use Rattle.scope.specs.Feed as scope
use Rattle.feed.specs.declared.State.{State}

abbrev pub state_of : State → scope.State
state_of s = record { n = s.n; d = s.d; count = s.count }
