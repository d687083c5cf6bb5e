-- The code's segment, as the definitions'.
use Rattle.scope.specs.Layers as scope
use Rattle.rows.specs.declared.Segment.{Segment}

-- the segment that the struct stands for
abbrev pub to_segment : Segment → scope.Segment
to_segment g = record { start = g.start.0; stop = g.stop.0 }

-- and the struct that stands for a segment
abbrev pub from_segment : scope.Segment → Segment
from_segment g = record { start = record { 0 = g.start }; stop = record { 0 = g.stop } }
