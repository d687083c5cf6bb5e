-- Draws: "Wild segments". A run's stored segments come from layers or from a lent list of draws.
use Rattle.std.specs.Prelude.{◌≡◌, Bool, true, false, not, ◌&&◌, List, [], ◌∷◌, ℕ, suc, ◌+◌, ◌*◌, ◌%◌, ◌≤◌, ◌<◌, ltb, eqb, Float, length, get_or, take}
use Rattle.std.proofs.Math.Option.{Option, none, some}
use Rattle.scope.specs.Lists.{◌∈◌, select, every, is_empty}
use Rattle.scope.specs.Asked.{Source}
use Rattle.scope.specs.Refusals.{Test, test, no6}
use Rattle.scope.specs.Allowed.{Pair}
use Rattle.scope.specs.Origin.{Origin, draw}
use Rattle.scope.specs.Grid.{Record}
use Rattle.scope.specs.Layers.{Segment, StoredSegment, of_origin, ends_of, seeded, layers_total, stored}

-- "the draws as a lent list of (start, stop) pairs": the pairs of a flat list, in its order
unfoldable pub pairs_of : List ℕ → List Segment
pairs_of [] = []
pairs_of (a ∷ []) = []
pairs_of (a ∷ b ∷ ds) = record { start = a; stop = b } ∷ pairs_of ds

-- each with its "place in the draw list from 0": those passed over are counted
unfoldable pub numbered : ℕ → List Segment → List StoredSegment
numbered k [] = []
numbered k (s ∷ ss) = of_origin (draw k) s ∷ numbered (suc k) ss

-- "Pairs with start >= stop are passed over"
abbrev pub is_searched : Segment → Bool
is_searched s = ltb s.start s.stop

-- "those that answer": the search of the pair makes a record, with a number for its gain or without
abbrev pub is_found : Option Record → Bool
is_found none = false
is_found (some r) = true

-- "the others are searched in order, and those that answer are stored, until W records stand or the list ends": the first W of the pairs with
-- start < stop whose search answers
unfoldable pub drawn : (ℕ → ℕ → Option Record) → List ℕ → ℕ → List StoredSegment
drawn find draws W = take W (select (λ s. is_searched (ends_of s) && is_found (find s.start s.stop)) (numbered 0 (pairs_of draws)))

-- ---- "A run has layers or draws, not both": what its draws give if it has any, else what its layers give
abbrev pub by_draws : {A : Type 0} → List ℕ → A → A → A
by_draws [] layered wild = layered
by_draws (d ∷ ds) layered wild = wild

-- the stored segments of a run of n rows, find being the search of a segment
abbrev pub stored_segments : (ℕ → ℕ → Option Record) → ℕ → Source → List StoredSegment
stored_segments find n s = by_draws s.draws (seeded n s.layers) (drawn find s.draws s.W)

-- "T is W"; without draws "the layers' counts summed"
abbrev pub most_stored : Source → ℕ
most_stored s = by_draws s.draws (layers_total s.layers) s.W

-- ---- 5 "also for an odd draw list"
unfoldable pub is_odd : List ℕ → Bool
is_odd draws = eqb (length draws % 2) 1

abbrev pub no5_draws : Source → Test
no5_draws s = test (is_odd s.draws) 5

-- ---- 6 "also for layers and draws both non-empty or W above 4,096"
abbrev pub most_wild : ℕ
most_wild = 4096

unfoldable pub both_given : List Float → List ℕ → Bool
both_given layers draws = not (is_empty layers) && not (is_empty draws)

abbrev pub no6_both : Source → Test
no6_both s = test (both_given s.layers s.draws) 6

abbrev pub no6_most : Source → Test
no6_most s = test (ltb most_wild s.W) 6

-- what is refused of layers, draws and W by 5 and 6, in number order
abbrev pub source_tests : Source → List Test
source_tests s = no5_draws s ∷ no6 s.layers ∷ no6_both s ∷ no6_most s ∷ []

-- ---- 8 "also for a draw with stop > n": any of the list's, one that is passed over or never reached too
abbrev pub is_past : ℕ → Segment → Bool
is_past n s = ltb n s.stop

unfoldable pub any_past : ℕ → List ℕ → Bool
any_past n draws = not (every (λ s. not (is_past n s)) (pairs_of draws))

abbrev pub no8_draws : ℕ → Source → Test
no8_draws n s = test (any_past n s.draws) 8

-- ---- the origin is the number of a pair, from 0, and that pair is the segment's ends
pub record PairAt (draws : List ℕ) (o : Origin) (s : Segment) : Type 0 where
  pub number : ℕ
  pub is : o ≡ draw number
  pub within : 2 * number + 1 < length draws
  pub start_is : get_or draws (2 * number) 0 ≡ s.start
  pub stop_is : get_or draws (2 * number + 1) 0 ≡ s.stop

-- ---- the stored draws, in a reader's words. proofs/Draws.antt has this for every search, list and W
pub record StoredDraws (find : ℕ → ℕ → Option Record) (draws : List ℕ) (W : ℕ) : Type 0 where
  -- each is a pair of the list with start < stop, and its search answers
  pub are : (s : StoredSegment) → s ∈ drawn find draws W → Pair s.start s.stop draws × (s.start < s.stop) × ((r : Record) × (find s.start s.stop ≡ some r))
  -- its origin is its place in the list
  pub placed : (s : StoredSegment) → s ∈ drawn find draws W → PairAt draws s.origin (ends_of s)
  -- each leaves its record: so the number stored is theirs
  pub counted : length (stored find (drawn find draws W)) ≡ length (drawn find draws W)
  -- W at most
  pub few : length (drawn find draws W) ≤ W
  -- where fewer than W stand, the list has ended: every such pair is among them
  pub all : length (drawn find draws W) < W
      → (a b : ℕ) (r : Record)
      → Pair a b draws
      → a < b
      → find a b ≡ some r
      → (o : Origin) × (record { start = a; stop = b; origin = o } ∈ drawn find draws W)
