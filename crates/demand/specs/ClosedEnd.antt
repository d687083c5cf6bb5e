-- What gaps and levels come to with the closed end and without, and when a row is too near an end, for a reader; the other rules are in scope's ClosedEnd.
-- Assumes nothing.
use Rattle.std.specs.Prelude.{◌≡◌, ◌↔◌, ◌⊎◌, ℕ, suc, ◌+◌, ◌-◌, ◌/◌, ◌≤◌, ◌<◌, max}
use Rattle.scope.specs.Asked.{off, on}
use Rattle.scope.specs.Layers.{Segment}
use Rattle.demand.specs.Spaced.{last_gap}
use Rattle.demand.specs.Levels.{most_levels}
use Rattle.demand.specs.Because.{Near}

pub record GapsAndLevels (m : ℕ) : Type 0 where
  -- "every gap .. is at least m and the last is more than m"; with the closed end "the last gap may be exactly m"
  pub gap_off : last_gap (off m) ≡ suc m
  pub gap_on : last_gap (on m) ≡ m
  -- max(1, floor((n-1)/m)) levels; with the closed end max(1, floor(n/m))
  pub levels_off : (n : ℕ) → most_levels n (off m) ≡ max 1 ((n - 1) / m)
  pub levels_on : (n : ℕ) → most_levels n (on m) ≡ max 1 (n / m)
  -- too near: x < start+m, or not x+m < stop; "In E3, too near at the right means beyond stop-m"
  pub near_off : (g : Segment) (x : ℕ) → Near (off m) g x ↔ ((x < g.start + m) ⊎ (g.stop ≤ x + m))
  pub near_on : (g : Segment) (x : ℕ) → Near (on m) g x ↔ ((x < g.start + m) ⊎ (g.stop < x + m))
