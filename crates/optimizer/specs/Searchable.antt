-- What a search asks of its segment.
use Rattle.std.specs.Prelude.{◌≤◌}
use Rattle.rows.specs.declared.Segment.{Segment}
use Rattle.control.specs.declared.settings.Shortest.{Shortest}

-- it does not stop before it starts, and is no longer than the longest run; nor is the shortest part longer than any may be
abbrev pub Searchable : Segment → Shortest → Type 0
Searchable segment shortest = (segment.start.0 ≤ segment.stop.0) × (segment.stop.0 ≤ 4096) × (shortest.m ≤ 4096)
