-- What a call leaves: its answer, and what the sums hold, that held the first list before.
use Rattle.std.specs.Prelude.{◌≡◌, List, Float, Result}
use Rattle.scope.specs.Lists.{holding}
use Rattle.scope.specs.Feed.{State, OpenAsked, open_call, FeedAsked, feed_call, close_answer}
use Rattle.control.specs.declared.refusal.Refusal.{Refusal}
use Rattle.control.specs.Refused.{told}
use Rattle.feed.specs.declared.State.{State as StateStruct}
use Rattle.feed.specs.States.{state_of}

-- an opening
pub record OpenLeft (a : OpenAsked) (r : Result StateStruct Refusal) (sums₀ sums₁ : List Float) : Type 0 where
  pub answer : told state_of r ≡ (open_call a).answer
  pub sums : sums₁ ≡ holding (open_call a).sums sums₀

-- a lot, over the sums that it was lent
pub record FeedLeft (a : FeedAsked) (r : Result StateStruct Refusal) (sums₁ : List Float) : Type 0 where
  pub answer : told state_of r ≡ (feed_call a).answer
  pub sums : sums₁ ≡ (feed_call a).sums

-- closing
pub record Closes (s : State) (r : Result StateStruct Refusal) : Type 0 where
  pub answer : told state_of r ≡ close_answer s
