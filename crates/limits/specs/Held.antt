-- What is held of a deck, in slices that its cells and pairs were stored in: what its run is asked with. Its own refusal comes before its run's.
use Rattle.std.specs.Prelude.{List, ℕ, zero, suc, ◌*◌, Float, take}
use Rattle.std.specs.Float.Ieee.{of_bits}
use Rattle.std.specs.Float.{binary64}
use Rattle.scope.specs.Asked.{Matrix, Settings, off, nothing}
use Rattle.scope.specs.Tree.{Run}
use Rattle.scope.specs.Calls.{run_of}
use Rattle.line.specs.declared.Given.{Given}

-- its matrix, its settings, its run: of its cells and its forbidden pairs, which stand first in the slices
abbrev pub matrix_held : Given → List Float → Matrix
matrix_held g cells = record { cells = take (g.n * g.d) cells; n = g.n; d = g.d }

abbrev pub settings_held : Given → List ℕ → Settings
settings_held g forbidden = record { shortest = off g.m; threshold = of_bits binary64 g.threshold; forbidden = take (2 * g.pairs) forbidden; source = nothing }

abbrev pub run_held : Given → List Float → List ℕ → Run
run_held g cells forbidden = run_of (matrix_held g cells) (settings_held g forbidden)

-- the deck's own refusal, or else another
abbrev pub or_else : ℕ → ℕ → ℕ
or_else zero k = k
or_else (suc j) k = suc j
