-- What each export answers: 0 or the number; and what it leaves in lent slices and stores through lent places, each before and after.
use Rattle.std.specs.Prelude.{◌≡◌, Bool, true, false, List, map, ℕ, Float, length, get_or}
use Rattle.std.proofs.Math.Option.{Option, some, none}
use Rattle.scope.specs.Lists.{holding}
use Rattle.scope.specs.Asked.{Matrix, Shortest, Source, Settings}
use Rattle.scope.specs.Refusals.{given}
use Rattle.scope.specs.Calls.{length_answer, CandidatesAsked, candidates_call, GainAsked, gain_call, SearchAsked, search_call, TreeTold, run_of, counted_call, counts_told, PickAsked, pick_answer, GuessesAsked, guesses_answer, PermutationAsked, permutation_answer}
use Rattle.scope.specs.Tree.{Run}
use Rattle.scope.specs.Feed.{State, OpenAsked, open_call, FeedAsked, feed_call, close_answer, fed_run, fed_counted_call}
use Rattle.scope.specs.Why.{Why}
use Rattle.segmentation.specs.Segments.{Slices as RecordSlices, Held}
use Rattle.node.specs.Nodes.{to_node}
use Rattle.demand.specs.Demand.{Demand}
use Rattle.demand.specs.Because.{Because}
use Rattle.prepared.specs.Answers.{tree_asked}
use Rattle.entry_segments.specs.Left.{stored_told}
use Rattle.entry_tree.specs.Left.{Slices, record_slices, fed_asked}
use Rattle.entry_why.specs.Left.{why_told}
use Rattle.told.specs.Told.{number_of, value_or, told_or, reason_number, segment_of, kind_or, origin_number_or, text_length_or, first_or, second_or, not_above_or}

-- the minimal length
pub record LengthStored (relative : Float) (n r m₀ m₁ : ℕ) : Type 0 where
  pub number : r ≡ number_of (length_answer relative n)
  pub m : m₁ ≡ value_or (length_answer relative n) m₀

-- the candidates, and how many
pub record CandidatesStored (a : CandidatesAsked) (r : ℕ) (rows₀ rows₁ : List ℕ) (count₀ count₁ : ℕ) : Type 0 where
  pub number : r ≡ number_of (candidates_call a).answer
  pub rows : rows₁ ≡ holding (candidates_call a).rows rows₀
  pub count : count₁ ≡ value_or (candidates_call a).answer count₀

-- the gain, and the prefix sums
pub record GainStored (a : GainAsked) (r : ℕ) (sums₀ sums₁ : List Float) (gain₀ gain₁ : Float) : Type 0 where
  pub number : r ≡ number_of (gain_call a).answer
  pub sums : sums₁ ≡ holding (gain_call a).sums sums₀
  pub gain : gain₁ ≡ value_or (gain_call a).answer gain₀

-- the best split with its gain, and the prefix sums
pub record SearchStored (a : SearchAsked) (r : ℕ) (sums₀ sums₁ : List Float) (split₀ split₁ : ℕ) (gain₀ gain₁ : Float) : Type 0 where
  pub number : r ≡ number_of (search_call a).answer
  pub sums : sums₁ ≡ holding (search_call a).sums sums₀
  pub split : split₁ ≡ told_or (λ s k. s.split) (search_call a).answer split₀
  pub gain : gain₁ ≡ told_or (λ s g. s.gain) (search_call a).answer gain₀

-- the stored segments' records, how many, and the prefix sums
pub record SegmentsStored (x : Matrix) (short : Shortest) (forbidden : List ℕ) (source : Source) (r : ℕ) (before after : RecordSlices) (count₀ count₁ : ℕ) : Type 0 where
  pub number : r ≡ number_of (stored_told x short forbidden source before).answer
  pub held : Held (stored_told x short forbidden source before).sums (stored_told x short forbidden source before).records before after
  pub count : count₁ ≡ value_or (stored_told x short forbidden source before).answer count₀

-- what was told of the run q: the tree's nodes, its records, its cuts, the prefix sums, and the four counts; and of a run that is not refused, the demand on
-- its tree and its sheet
pub record RunStored (told : TreeTold) (q : Run) (r : ℕ) (before after : Slices) (counts₀ counts₁ : List ℕ) : Type 0 where
  pub number : r ≡ number_of told.answer
  pub held : Held told.sums told.records (record_slices before) (record_slices after)
  pub nodes : after.nodes ≡ holding (map to_node told.nodes) before.nodes
  pub cuts : after.cuts ≡ holding told.cuts before.cuts
  pub counts : counts₁ ≡ holding (counts_told told.answer) counts₀
  pub demand : r ≡ 0 → Demand q

-- of a tree where these are lent, and so many counts
abbrev pub TreeStored : Matrix → Settings → ℕ → Slices → Slices → List ℕ → List ℕ → Type 0
TreeStored x s r before after counts₀ counts₁ =
    RunStored (counted_call (tree_asked x s (record_slices before) (length before.nodes) (length before.cuts)) (length counts₀)) (run_of x s) r before after counts₀ counts₁

-- ---- a run that is fed

-- an opening: the first sums, and the count
pub record OpenStored (a : OpenAsked) (r : ℕ) (sums₀ sums₁ : List Float) (count₀ count₁ : ℕ) : Type 0 where
  pub number : r ≡ number_of (open_call a).answer
  pub sums : sums₁ ≡ holding (open_call a).sums sums₀
  pub count : count₁ ≡ told_or (λ s k. s.count) (open_call a).answer count₀

-- a lot: its sums, and the count, which was the state's
pub record FeedStored (a : FeedAsked) (r : ℕ) (sums₁ : List Float) (count₁ : ℕ) : Type 0 where
  pub number : r ≡ number_of (feed_call a).answer
  pub sums : sums₁ ≡ (feed_call a).sums
  pub count : count₁ ≡ told_or (λ s k. s.count) (feed_call a).answer a.state.count

-- closing
pub record CloseStored (s : State) (r : ℕ) : Type 0 where
  pub number : r ≡ number_of (close_answer s)

-- the later sheet where these are lent, and so many counts; the sums stay
abbrev pub FedStored : State → Settings → ℕ → Slices → Slices → List ℕ → List ℕ → Type 0
FedStored st s r before after counts₀ counts₁ =
    RunStored (fed_counted_call (fed_asked st s before) (length counts₀)) (fed_run st s before.sums) r before after counts₀ counts₁

-- the places that what is told of a row is stored through
pub record WhyPlaces : Type 0 where
  pub reason : ℕ
  pub start : ℕ
  pub stop : ℕ
  pub kind : ℕ
  pub number : ℕ
  pub length : ℕ
  pub a : ℕ
  pub b : ℕ
  pub gain : Float

-- what is told of a row, the stored segments' records, the prefix sums and the text; and of a row that is not refused, that what is told is so
pub record WhyStored (x : Matrix) (s : Settings) (row r : ℕ) (before after : RecordSlices) (text₀ text₁ : List ℕ) (places₀ places₁ : WhyPlaces) : Type 0 where
  pub number : r ≡ number_of (why_told x s row before text₀).answer
  pub held : Held (why_told x s row before text₀).sums (why_told x s row before text₀).records before after
  pub reason : places₁.reason ≡ told_or (λ w k. reason_number w) (why_told x s row before text₀).answer places₀.reason
  pub start : places₁.start ≡ told_or (λ w k. (segment_of w).start) (why_told x s row before text₀).answer places₀.start
  pub stop : places₁.stop ≡ told_or (λ w k. (segment_of w).stop) (why_told x s row before text₀).answer places₀.stop
  pub text : text₁ ≡ holding (why_told x s row before text₀).text text₀
  pub kind : places₁.kind ≡ told_or kind_or (why_told x s row before text₀).answer places₀.kind
  pub origin_number : places₁.number ≡ told_or origin_number_or (why_told x s row before text₀).answer places₀.number
  pub length : places₁.length ≡ told_or text_length_or (why_told x s row before text₀).answer places₀.length
  pub a : places₁.a ≡ told_or first_or (why_told x s row before text₀).answer places₀.a
  pub b : places₁.b ≡ told_or second_or (why_told x s row before text₀).answer places₀.b
  pub gain : places₁.gain ≡ told_or not_above_or (why_told x s row before text₀).answer places₀.gain
  pub because : (w : Why) → (why_told x s row before text₀).answer ≡ given w → Because (run_of x s) row w

-- the pick and its gain
pub record PickStored (a : PickAsked) (r split₀ split₁ : ℕ) (gain₀ gain₁ : Float) : Type 0 where
  pub number : r ≡ number_of (pick_answer a)
  pub split : split₁ ≡ told_or (λ s k. s.split) (pick_answer a) split₀
  pub gain : gain₁ ≡ told_or (λ s g. s.gain) (pick_answer a) gain₀

-- the forbidden list, where one is given
abbrev pub list_given : Bool → List ℕ → Option (List ℕ)
list_given true forbidden = some forbidden
list_given false forbidden = none

-- one to three guesses, and how many
pub record GuessesStored (a : GuessesAsked) (r first₀ first₁ second₀ second₁ third₀ third₁ count₀ count₁ : ℕ) : Type 0 where
  pub number : r ≡ number_of (guesses_answer a)
  pub first : first₁ ≡ told_or (λ l k. get_or l 0 k) (guesses_answer a) first₀
  pub second : second₁ ≡ told_or (λ l k. get_or l 1 k) (guesses_answer a) second₀
  pub third : third₁ ≡ told_or (λ l k. get_or l 2 k) (guesses_answer a) third₀
  pub count : count₁ ≡ told_or (λ l k. length l) (guesses_answer a) count₀

-- a test's counter, p and whether it is significant
pub record PermutationStored (a : PermutationAsked) (r counter₀ counter₁ : ℕ) (p₀ p₁ : Float) (significant₀ significant₁ : Bool) : Type 0 where
  pub number : r ≡ number_of (permutation_answer a)
  pub counter : counter₁ ≡ told_or (λ t k. t.counted) (permutation_answer a) counter₀
  pub p : p₁ ≡ told_or (λ t p. t.p) (permutation_answer a) p₀
  pub significant : significant₁ ≡ told_or (λ t b. t.significant) (permutation_answer a) significant₀
