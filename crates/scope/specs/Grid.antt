-- Grid: the search of a segment, and the record that it makes.
use Rattle.std.specs.Prelude.{cond, List, [], ◌∷◌, map, ℕ, Float}
use Rattle.std.proofs.Math.Option.{Option, none, some}
use Rattle.std.specs.Float.Ieee.{lt}
use Rattle.scope.specs.Floats.{lowest}
use Rattle.scope.specs.Asked.{Shortest}
use Rattle.scope.specs.Candidates.{candidates}
use Rattle.scope.specs.Origin.{Origin, direct}

-- "The record holds start, stop, best split and its max gain"; and "its origin"
pub record Record : Type 0 where
  pub start : ℕ
  pub stop : ℕ
  pub split : ℕ
  pub gain : Float
  pub origin : Origin

-- "take a candidate only if strictly greater": so the first of equal gains wins and NaN never does
unfoldable pub better : Record → Record → Record
better b r = cond (lt b.gain r.gain) r b

unfoldable pub best : Record → List Record → Record
best b [] = b
best b (r ∷ rs) = best (better b r) rs

-- "Start from split 0 and minus infinity". What a search makes is direct
abbrev pub blank : ℕ → ℕ → Record
blank start stop = record { start = start; stop = stop; split = 0; gain = lowest; origin = direct }

-- a row tried: gain start stop x is the gain of the split x of [start, stop)
abbrev pub trial : (ℕ → ℕ → ℕ → Float) → ℕ → ℕ → ℕ → Record
trial gain start stop x = record { start = start; stop = stop; split = x; gain = gain start stop x; origin = direct }

-- a trial for each candidate, in order
unfoldable pub trials : (ℕ → ℕ → ℕ → Float) → Shortest → List ℕ → ℕ → ℕ → List Record
trials gain s forbidden start stop = map (trial gain start stop) (candidates s forbidden start stop)

-- "Refused exactly if no such row exists"
abbrev pub of_some : Record → List Record → Option Record
of_some b [] = none
of_some b (r ∷ rs) = some (best b (r ∷ rs))

-- the record of a segment's search, if it has a candidate
unfoldable pub search : (ℕ → ℕ → ℕ → Float) → Shortest → List ℕ → ℕ → ℕ → Option Record
search gain s forbidden start stop = of_some (blank start stop) (trials gain s forbidden start stop)
