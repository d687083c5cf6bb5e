-- The gain record and the search's answer: the code's types beside the definitions' values.
use Rattle.std.specs.Prelude.{List, [], ◌∷◌, ℕ, Float}
use Rattle.scope.specs.Floats.{lowest}
use Rattle.scope.specs.Asked.{Shortest}
use Rattle.scope.specs.Refusals.{Answer, refused, given, unless, first_of, no9}
use Rattle.scope.specs.Candidates.{no10}
use Rattle.scope.specs.Origin as scope
use Rattle.scope.specs.Grid.{Record, blank, best, trials}
use Rattle.scope.specs.Calls.{Split, split_of}
use Rattle.optimizer.specs.declared.optimizer_result.Origin.{Origin}
use Rattle.optimizer.specs.declared.optimizer_result.Origin.TheVariants as origin
use Rattle.optimizer.specs.declared.optimizer_result.GainRecord.{GainRecord}
use Rattle.optimizer.specs.declared.optimizer_result.BestSplit.{BestSplit}
use Rattle.optimizer.specs.declared.optimizer_result.BestSplit.TheVariants as best_split

-- what the enum says, and the case that says it
abbrev pub to_origin : Origin → scope.Origin
to_origin origin.Direct = scope.direct
to_origin (origin.Layer k) = scope.layer k
to_origin (origin.Draw k) = scope.draw k

abbrev pub from_origin : scope.Origin → Origin
from_origin scope.direct = origin.Direct
from_origin (scope.layer k) = origin.Layer k
from_origin (scope.draw k) = origin.Draw k

-- the record that the struct stands for
abbrev pub to_record : GainRecord → Record
to_record r = record { start = r.start.0; stop = r.stop.0; split = r.best_split.0; gain = r.max_gain; origin = to_origin r.origin }

-- and the struct that stands for a record
abbrev pub from_record : Record → GainRecord
from_record r = record {
  start = record { 0 = r.start };
  stop = record { 0 = r.stop };
  best_split = record { 0 = r.split };
  max_gain = r.gain;
  origin = from_origin r.origin;
}

-- another split of a record's segment, tried by a search
abbrev pub tried : Record → ℕ → Float → Record
tried r split gain = record { start = r.start; stop = r.stop; split = split; gain = gain; origin = scope.direct }

-- the guess and minus infinity
abbrev pub guessed : ℕ → ℕ → ℕ → Record
guessed start stop guess = record { start = start; stop = stop; split = guess; gain = lowest; origin = scope.direct }

-- "A search answers with a split and its gain, or a number."
abbrev pub best_split_told : BestSplit → Answer Split
best_split_told (best_split.Found p gain) = given (record { split = p.0; gain = gain })
best_split_told (best_split.Refused k) = refused k

-- the record's split and gain
abbrev pub split_found : Answer Record → Answer Split
split_found (refused k) = refused k
split_found (given r) = given (split_of r)

-- what a search of [start, stop) finds, once nothing lower than 9 applies
unfoldable pub searched : (ℕ → ℕ → ℕ → Float) → Shortest → List ℕ → ℕ → ℕ → Answer Record
searched gain short forbidden start stop =
    unless (first_of (no9 short start stop ∷ no10 short forbidden start stop ∷ [])) (best (blank start stop) (trials gain short forbidden start stop))
