-- A run of all-zero readings, which has as many nodes as any. Assumes nothing.
use Rattle.std.specs.Prelude.{◌≡◌, true, List, [], ℕ, ◌*◌, ◌≤◌, Float, length}
use Rattle.std.specs.Float.Ieee.{lt, eq}
use Rattle.scope.specs.Floats.{+0}
use Rattle.scope.specs.Lists.{every}
use Rattle.scope.specs.Refusals.{most_rows}
use Rattle.scope.specs.Tree.{Run}
use Rattle.scope.specs.Calls.{gain_in}

-- the run of n*d readings, each +0 or -0, at a threshold below 0, with nothing forbidden; its stored segments are any
pub record AllZero (q : Run) (cells : List Float) (d : ℕ) : Type 0 where
  pub rows : q.n ≤ most_rows
  pub filled : length cells ≡ q.n * d
  pub zeros : every (λ x. eq x +0) cells ≡ true
  pub gain_is : q.gain ≡ gain_in (record { cells = cells; n = q.n; d = d })
  pub below : lt q.threshold +0 ≡ true
  pub none_forbidden : q.forbidden ≡ []
