-- The gains that a segment's cut turns on, and the greatest of them. Assumes nothing.
use Rattle.std.specs.Prelude.{◌≡◌, true, false, ℕ, ◌≤◌, Float}
use Rattle.std.specs.Float.Ieee.{lt}
use Rattle.scope.specs.Lists.{◌∈◌}
use Rattle.scope.specs.Allowed.{Allowed}
use Rattle.scope.specs.Greatest.{numeric}
use Rattle.scope.specs.Layers.{StoredSegment}
use Rattle.scope.specs.Tree.{Run}

-- the gains over the segment's own allowed rows, and over those of the stored segments inside it
pub data Offered (q : Run) (start stop : ℕ) : Float → Type 0 where
  own : {x : ℕ} → Allowed q.shortest q.forbidden start stop x → Offered q start stop (q.gain start stop x)
  of_stored : {s : StoredSegment} {x : ℕ}
      → s ∈ q.segments
      → start ≤ s.start
      → s.stop ≤ stop
      → Allowed q.shortest q.forbidden s.start s.stop x
      → Offered q start stop (q.gain s.start s.stop x)

-- g is the greatest of the numeric ones: it is one of them, and none is greater
pub record Greatest (q : Run) (start stop : ℕ) (g : Float) : Type 0 where
  pub one : Offered q start stop g
  pub number : numeric g ≡ true
  pub above : (h : Float) → Offered q start stop h → lt g h ≡ false
