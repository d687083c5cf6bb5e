-- What a call leaves: its answer, and what the lent slice holds, that held the first list before.
use Rattle.std.specs.Prelude.{◌≡◌, List, ℕ, Float}
use Rattle.scope.specs.Lists.{holding}
use Rattle.scope.specs.Refusals.{Answer}
use Rattle.scope.specs.Calls.{Split, CandidatesAsked, candidates_call, GainAsked, gain_call, SearchAsked, search_call}

-- the candidates
pub record CandidatesLeft (a : CandidatesAsked) (r : Answer ℕ) (rows₀ rows₁ : List ℕ) : Type 0 where
  pub answer : r ≡ (candidates_call a).answer
  pub rows : rows₁ ≡ holding (candidates_call a).rows rows₀

-- the gain of a split, and the prefix sums
pub record GainLeft (a : GainAsked) (r : Answer Float) (sums₀ sums₁ : List Float) : Type 0 where
  pub answer : r ≡ (gain_call a).answer
  pub sums : sums₁ ≡ holding (gain_call a).sums sums₀

-- the best split, and the prefix sums
pub record SearchLeft (a : SearchAsked) (r : Answer Split) (sums₀ sums₁ : List Float) : Type 0 where
  pub answer : r ≡ (search_call a).answer
  pub sums : sums₁ ≡ holding (search_call a).sums sums₀
