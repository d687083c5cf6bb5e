-- What the rounding to a whole number takes.
use Rattle.std.specs.Prelude.{◌≡◌, true, false, pos, Float}
use Rattle.std.specs.Float.{fin}
use Rattle.std.specs.Float.Ieee.{le, lt}
use Rattle.scope.specs.Floats.{+0}

-- "from 0 to below 2^32"
abbrev pub in_range : Float → Type 0
in_range x = (le +0 x ≡ true) × (lt x (fin false 1 (pos 32)) ≡ true)
