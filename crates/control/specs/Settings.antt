-- What calls are asked with, as document 01's values.
use Rattle.scope.specs.Asked as asked
use Rattle.control.specs.declared.settings.Matrix.{Matrix}
use Rattle.control.specs.declared.settings.Shortest.{Shortest}
use Rattle.control.specs.declared.settings.Source.{Source}
use Rattle.control.specs.declared.settings.Settings.{Settings}

abbrev pub matrix_of : Matrix → asked.Matrix
matrix_of x = record { cells = x.cells.now; n = x.n; d = x.d }

abbrev pub shortest_of : Shortest → asked.Shortest
shortest_of s = record { m = s.m; closed = s.closed }

abbrev pub source_of : Source → asked.Source
source_of s = record { layers = s.layers.now; draws = s.draws.now; W = s.w }

abbrev pub settings_of : Settings → asked.Settings
settings_of s = record {
  shortest = shortest_of s.allowed.shortest;
  threshold = s.threshold;
  forbidden = s.allowed.forbidden.now;
  source = source_of s.source;
}
