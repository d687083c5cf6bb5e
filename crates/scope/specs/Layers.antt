-- Layers and stored segments.
use Rattle.std.specs.Prelude.{false, cond, List, [], ◌∷◌, ◌++◌, map, ℕ, zero, suc, ◌+◌, ◌-◌, ◌*◌, min, eqb, pos, Float}
use Rattle.std.proofs.Math.Option.{Option, none, some}
use Rattle.std.specs.Float.{fin}
use Rattle.scope.specs.Floats.{◌⊖◌, ◌⊗◌, ◌⊘◌, whole}
use Rattle.scope.specs.Rounding.{to_f32, truncation, ceiling}
use Rattle.scope.specs.Origin.{Origin, layer}
use Rattle.scope.specs.Grid.{Record}

-- a segment [start, stop) of the run
pub record Segment : Type 0 where
  pub start : ℕ
  pub stop : ℕ

-- a segment that is searched beforehand, and its origin
pub record StoredSegment : Type 0 where
  pub start : ℕ
  pub stop : ℕ
  pub origin : Origin

abbrev pub of_origin : Origin → Segment → StoredSegment
of_origin o s = record { start = s.start; stop = s.stop; origin = o }

abbrev pub ends_of : StoredSegment → Segment
ends_of s = record { start = s.start; stop = s.stop }

-- "len = n*v"
unfoldable pub layer_length : ℕ → Float → Float
layer_length n v = whole n ⊗ v

-- "count = 2*ceil(f32(1/v)) - 1"
unfoldable pub layer_count : Float → ℕ
layer_count v = 2 * ceiling (to_f32 (fin false 1 (pos 0) ⊘ v)) - 1

-- "step = (n-len)/(count-1)"
unfoldable pub layer_step : ℕ → Float → Float
layer_step n v = (whole n ⊖ layer_length n v) ⊘ whole (layer_count v - 1)

-- "start = truncation of f32(id*step)"; "If count is 1 the start is 0."
unfoldable pub layer_start : ℕ → Float → ℕ → ℕ
layer_start n v id = cond (eqb (layer_count v) 1) 0 (truncation (to_f32 (whole id ⊗ layer_step n v)))

-- "stop = min(start + ceil(f32(len)), n)"
unfoldable pub layer_stop : ℕ → Float → ℕ → ℕ
layer_stop n v id = min (layer_start n v id + ceiling (to_f32 (layer_length n v))) n

-- the first k segments of a layer, by their id from 0
unfoldable pub layer_segments : ℕ → Float → ℕ → List Segment
layer_segments n v zero = []
layer_segments n v (suc k) = layer_segments n v k ++ (record { start = layer_start n v k; stop = layer_stop n v k } ∷ [])

-- the seeded segments: layer after layer, each with its "layer number from 1". "No layers means BS."
unfoldable pub seeded_from : ℕ → ℕ → List Float → List StoredSegment
seeded_from k n [] = []
seeded_from k n (v ∷ vs) = map (of_origin (layer k)) (layer_segments n v (layer_count v)) ++ seeded_from (suc k) n vs

abbrev pub seeded : ℕ → List Float → List StoredSegment
seeded n layers = seeded_from 1 n layers

-- T, "the layers' counts summed"
unfoldable pub layers_total : List Float → ℕ
layers_total [] = 0
layers_total (v ∷ vs) = layer_count v + layers_total vs

-- a record, if there is one
abbrev pub one : Option Record → List Record
one none = []
one (some r) = r ∷ []

-- a record with another origin: what a search makes is direct, and storing gives the others
abbrev pub with_origin : Origin → Record → Record
with_origin o r = record { start = r.start; stop = r.stop; split = r.split; gain = r.gain; origin = o }

abbrev pub labelled : Origin → Option Record → Option Record
labelled o none = none
labelled o (some r) = some (with_origin o r)

-- the stored records: "A segment that a single search would refuse leaves no record."
unfoldable pub stored : (ℕ → ℕ → Option Record) → List StoredSegment → List Record
stored find [] = []
stored find (s ∷ ss) = one (labelled s.origin (find s.start s.stop)) ++ stored find ss
