-- What the walk asks for, and what it tells, of each run whose stored segments have the records that stand. Assumes nothing.
use Rattle.std.specs.Prelude.{◌≡◌, List, ℕ, ◌≤◌}
use Rattle.scope.specs.Layers.{StoredSegment}
use Rattle.scope.specs.Tree.{stored_records}
use Rattle.scope.specs.Why.{why_of}
use Rattle.stored.specs.declared.records.Records.{Records}
use Rattle.stored.specs.Records.{records_of}
use Rattle.verdict.specs.declared.Asked.{Asked}
use Rattle.verdict.specs.Rules.{run_over}
use Rattle.reasons.specs.declared.Why.{Why}
use Rattle.reasons.specs.Answers.{to_why}

-- the records are those of some segments
pub record Ready (s : Asked) (n : ℕ) (records : Records) : Type 0 where
  pub least : 1 ≤ s.settings.allowed.shortest.m
  pub segments : List StoredSegment
  pub stand : stored_records (run_over s n segments) ≡ records_of records

-- what is told of the row x
abbrev pub Told : Asked → ℕ → Records → ℕ → Why → Type 0
Told s n records x r = (segments : List StoredSegment) → stored_records (run_over s n segments) ≡ records_of records → to_why r ≡ why_of (run_over s n segments) x
