-- What a verdict says of a segment, after some records. Assumes nothing.
use Rattle.std.specs.Prelude.{◌≡◌, List, [], ℕ, ◌+◌, ◌*◌, ◌≤◌, length}
use Rattle.std.proofs.Math.Option.{none, some}
use Rattle.scope.specs.Gain.{gain_of}
use Rattle.scope.specs.Grid.{Record}
use Rattle.scope.specs.Layers.{StoredSegment}
use Rattle.scope.specs.Tree.{Run, direct, uncut, cut, verdict}
use Rattle.control.specs.Settings.{shortest_of}
use Rattle.optimizer.specs.Records.{to_record}
use Rattle.verdict.specs.declared.Asked.{Asked}
use Rattle.verdict.specs.declared.Verdict.{Verdict}
use Rattle.verdict.specs.declared.Verdict.TheVariants.{WithoutChoice, Uncut, Cut}

-- a run over prefix sums: n rows, and its stored segments
abbrev pub run_over : Asked → ℕ → List StoredSegment → Run
run_over s n segments = record {
  n = n;
  shortest = shortest_of s.settings.allowed.shortest;
  threshold = s.settings.threshold;
  forbidden = s.settings.allowed.forbidden.now;
  segments = segments;
  gain = gain_of s.gain.sums.now s.gain.d;
}

-- what a verdict reads of it: neither n nor the stored segments
abbrev pub over : Asked → Run
over s = run_over s 0 []

-- the sizes that the search asks
abbrev pub Sized : Asked → ℕ → Type 0
Sized s stop = (s.settings.allowed.shortest.m ≤ 4096) × (stop ≤ 4096) × ((stop + 1) * s.gain.d ≤ length s.gain.sums.now)

-- the verdict on [start, stop) after the records rs is the definitions', and the record beside it the direct one
abbrev pub Rules : Run → List Record → ℕ → ℕ → Verdict → Type 0
Rules q rs start stop WithoutChoice = (direct q start stop ≡ none) × (verdict q rs start stop ≡ uncut none)
Rules q rs start stop (Uncut d c) = (direct q start stop ≡ some (to_record d)) × (verdict q rs start stop ≡ uncut (some (to_record c)))
Rules q rs start stop (Cut d c) = (direct q start stop ≡ some (to_record d)) × (verdict q rs start stop ≡ cut (to_record c))
