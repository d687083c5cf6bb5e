-- Where no NaN is stored or answered. Only these can be one: the gain that `gain` answers and the curve, where finite values overflow, the f32
-- nearest to a NaN, and the sums of a lot, where one of the sums that the host hands back is one. proofs/Numbers.antt has the rest, for every call.
use Rattle.std.specs.Prelude.{◌≡◌, true, List, Float}
use Rattle.std.proofs.Math.Option.{some}
use Rattle.std.specs.Float.{binary64}
use Rattle.std.specs.Float.Ieee.{fits}
use Rattle.scope.specs.Lists.{◌∈◌, every}
use Rattle.scope.specs.Refusals.{given}
use Rattle.scope.specs.Greatest.{numeric}
use Rattle.scope.specs.Grid.{Record}
use Rattle.scope.specs.Layers.{Segment}
use Rattle.scope.specs.Tree.{Node}
use Rattle.scope.specs.Feed.{OpenAsked, open_call, FeedAsked, feed_call, FedAsked, fed_call}
use Rattle.scope.specs.Why.{not_above, WhyAsked, why_call}
use Rattle.scope.specs.Calls.{Split, GainAsked, gain_call, SearchAsked, search_call, StoredAsked, stored_call, TreeAsked, tree_call, OrderingAsked, ordering_call, PredictAsked, predict_call, PickAsked, pick_answer, Tested, PermutationAsked, permutation_answer}

-- no NaN stands in the list
abbrev pub AllNumeric : List Float → Type 0
AllNumeric l = every numeric l ≡ true

-- every value is one of the format, as what a lent f64 slice holds is
abbrev pub AllF64 : List Float → Type 0
AllF64 l = every (fits binary64) l ≡ true

pub record NeverNaN : Type 0 where
  -- ---- prefix sums: infinite where they overflow, and never NaN, as finite cells are added to them
  pub gain_sums : (a : GainAsked) → AllF64 a.matrix.cells → AllNumeric (gain_call a).sums
  pub search_sums : (a : SearchAsked) → AllF64 a.matrix.cells → AllNumeric (search_call a).sums
  pub stored_sums : (a : StoredAsked) → AllF64 a.matrix.cells → AllNumeric (stored_call a).sums
  pub tree_sums : (a : TreeAsked) → AllF64 a.matrix.cells → AllNumeric (tree_call a).sums
  pub why_sums : (a : WhyAsked) → AllF64 a.matrix.cells → AllNumeric (why_call a).sums
  -- those of an opening, and of a lot where no sum before it is one
  pub open_sums : (a : OpenAsked) → AllNumeric (open_call a).sums
  pub feed_sums : (a : FeedAsked) → AllF64 a.lot → AllNumeric a.sums → AllNumeric (feed_call a).sums
  -- ---- gains: "NaN never does" win
  -- what a search answers
  pub search : (a : SearchAsked) (s : Split) → (search_call a).answer ≡ given s → numeric s.gain ≡ true
  -- each stored record
  pub stored : (a : StoredAsked) (r : Record) → r ∈ (stored_call a).records → numeric r.gain ≡ true
  pub why : (a : WhyAsked) (r : Record) → r ∈ (why_call a).records → numeric r.gain ≡ true
  pub tree : (a : TreeAsked) (r : Record) → r ∈ (tree_call a).records → numeric r.gain ≡ true
  -- each node's choice
  pub node : (a : TreeAsked) (d : Node) (r : Record) → d ∈ (tree_call a).nodes → d.choice ≡ some r → numeric r.gain ≡ true
  -- and of a later sheet, whatever sums it is lent
  pub later : (a : FedAsked) (r : Record) → r ∈ (fed_call a).records → numeric r.gain ≡ true
  pub later_node : (a : FedAsked) (d : Node) (r : Record) → d ∈ (fed_call a).nodes → d.choice ≡ some r → numeric r.gain ≡ true
  -- the gain that does not exceed the threshold, as told of a row: one that is NaN is told to be no number
  pub not_above_lem : (a : WhyAsked) (gain : Float) (g : Segment) → (why_call a).answer ≡ given (not_above gain g) → numeric gain ≡ true
  -- what a pick answers, whatever the curve holds
  pub pick : (a : PickAsked) (s : Split) → pick_answer a ≡ given s → numeric s.gain ≡ true
  -- ---- "A distance may overflow to infinity; NaN can't arise from finite cells."
  pub ordering_distances : (a : OrderingAsked) → AllNumeric (ordering_call a).distances
  pub predict_distances : (a : PredictAsked) → AllNumeric (predict_call a).distances
  -- ---- quotients of counts: the divisor is 1 or more
  pub predictions : (a : PredictAsked) → AllNumeric (predict_call a).predictions
  pub p_value_lem : (a : PermutationAsked) (t : Tested) → permutation_answer a ≡ given t → numeric t.p ≡ true
