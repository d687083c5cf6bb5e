-- What a call leaves: its answer, and what each lent slice holds.
use Rattle.std.specs.Prelude.{◌≡◌, List, ℕ, Float, length}
use Rattle.scope.specs.Lists.{holding}
use Rattle.scope.specs.Asked.{Matrix}
use Rattle.scope.specs.Calls.{OrderingAsked, ordering_call, PredictAsked, predict_call}

-- the lent slices of an ordering
pub record Slices : Type 0 where
  pub ordering : List ℕ
  pub distances : List Float

-- what `ordering` is asked
abbrev pub ordering_asked : Matrix → Slices → OrderingAsked
ordering_asked x before = record { matrix = x; ordering = length before.ordering; distances = length before.distances }

-- what it leaves
pub record OrderingLeft (x : Matrix) (r : ℕ) (before after : Slices) : Type 0 where
  pub answer : r ≡ (ordering_call (ordering_asked x before)).answer
  pub ordering : after.ordering ≡ holding (ordering_call (ordering_asked x before)).ordering before.ordering
  pub distances : after.distances ≡ holding (ordering_call (ordering_asked x before)).distances before.distances

-- the lent slices of predictions
pub record PredictSlices : Type 0 where
  pub order : Slices
  pub predictions : List Float

-- what `predict` is asked
abbrev pub predict_asked : Matrix → ℕ → ℕ → ℕ → PredictSlices → PredictAsked
predict_asked x start stop split before =
    record { order = ordering_asked x before.order; start = start; stop = stop; split = split; room = length before.predictions }

-- what it leaves
pub record PredictLeft (x : Matrix) (start stop split r : ℕ) (before after : PredictSlices) : Type 0 where
  pub answer : r ≡ (predict_call (predict_asked x start stop split before)).answer
  pub ordering : after.order.ordering ≡ holding (predict_call (predict_asked x start stop split before)).ordering before.order.ordering
  pub distances : after.order.distances ≡ holding (predict_call (predict_asked x start stop split before)).distances before.order.distances
  pub predictions : after.predictions ≡ holding (predict_call (predict_asked x start stop split before)).predictions before.predictions
