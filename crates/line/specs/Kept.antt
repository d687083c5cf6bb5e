-- What is kept of a deck's pairs and cells.
use Rattle.std.specs.Prelude.{◌≡◌, ℕ, ◌*◌, min, not, List, map, length, take, ℤ, Float}
use Rattle.std.specs.Float.Ieee.{of_int}
use Rattle.std.specs.Float.{binary64}
use Rattle.scope.specs.Lists.{every, holding}
use Rattle.scope.specs.Program.{is_reading}
use Rattle.line.specs.declared.Given.{Given}

-- the forbidden pairs, flat, and the cells: how many there are, up to one past the program's limits; whether a cell is too wide; and, in slices that held
-- cells₀ and forbidden₀, the first 2,048 cells as floats and the first 64 pairs
pub record Kept (cells₀ : List Float) (forbidden₀ : List ℕ) (g : Given) (cells : List Float) (forbidden : List ℕ) (pairs : List ℕ) (readings : List ℤ) : Type 0 where
  pub count : ℕ
  pub flat : length pairs ≡ 2 * count
  pub pairs_counted : g.pairs ≡ min count 65
  pub cells_counted : g.cells ≡ min (length readings) 2049
  pub wide_is : g.wide ≡ not (every is_reading readings)
  pub cells_held : cells ≡ holding (take 2048 (map (of_int binary64) readings)) cells₀
  pub forbidden_held : forbidden ≡ holding (take 128 pairs) forbidden₀
