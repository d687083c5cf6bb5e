-- "However the cells are cut up, the sums and the later sheet equal those of the whole matrix, where state and sums come back to each call as the last one
-- left them": proofs/Fed.antt has `WhileFed` of every opening that is not refused and every list of steps.
use Rattle.std.specs.Prelude.{◌≡◌, true, List, [], ◌∷◌, ◌++◌, ℕ, ◌*◌, ◌≤◌, ◌<◌, ◌+◌, Float, length}
use Rattle.scope.specs.Floats.{is_finite}
use Rattle.scope.specs.Lists.{at, every, holding}
use Rattle.scope.specs.Asked.{Matrix, Settings}
use Rattle.scope.specs.Refusals.{Answer, refused, given}
use Rattle.scope.specs.Sums.{plus, flat_sums}
use Rattle.scope.specs.Calls.{sums_of, Room, TreeAsked, TreeTold, tree_call, counted_call}
use Rattle.scope.specs.Feed.{State, opened, open_call, feed_call, close_answer, FedAsked, fed_call, fed_counted_call}

-- ---- what a lot leaves, in a reader's words: `after` is the sums `before` with the lot added after c cells of d columns
pub record Adds (lot : List Float) (d c : ℕ) (before after : List Float) : Type 0 where
  pub long : length after ≡ length before
  -- the entries from d + c on, as many as there are cells: each is (0 + cell) + the entry d before it
  pub each : (k : ℕ) → k < length lot → at after (d + c + k) ≡ plus (at lot k) (at after (c + k))
  -- the others stay
  pub earlier : (i : ℕ) → i < d + c → at after i ≡ at before i
  pub later : (i : ℕ) → d + c + length lot ≤ i → at after i ≡ at before i

-- ---- a call that a host makes while the deck feeds
pub data Step : Type 0 where
  lot : List Float → Step
  closing : Step

-- what it holds between calls, state and sums; and beside them the cells that were taken, put together
pub record Handed : Type 0 where
  pub state : State
  pub sums : List Float
  pub taken : List Float

-- a refusal leaves the state, and takes nothing
abbrev pub state_or : Answer State → State → State
state_or (refused k) before = before
state_or (given s) before = s

abbrev pub taken_by : Answer State → List Float → List Float
taken_by (refused k) cells = []
taken_by (given s) cells = cells

-- "A lot with a bad cell, or more cells than n*d, takes nothing and the run may go on. Closing early leaves the state open."
unfoldable pub handed_on : Handed → Step → Handed
handed_on h (lot cells) =
    let told = feed_call (record { state = h.state; lot = cells; sums = h.sums }) in
    record { state = state_or told.answer h.state; sums = told.sums; taken = h.taken ++ taken_by told.answer cells }
handed_on h closing = record { state = state_or (close_answer h.state) h.state; sums = h.sums; taken = h.taken }

unfoldable pub after : Handed → List Step → Handed
after h [] = h
after h (s ∷ steps) = after (handed_on h s) steps

-- from an opening of n rows of d columns, where the lent room held `found`
abbrev pub opened_in : ℕ → ℕ → List Float → Handed
opened_in n d found = record {
  state = opened n d;
  sums = holding (open_call (record { n = n; d = d; room = length found })).sums found;
  taken = [];
}

-- ---- once the cells taken are those of the matrix x

-- the later sheet that is asked for, and the whole call's
abbrev pub later_of : Handed → Settings → Room → FedAsked
later_of h s room = record { state = h.state; settings = s; sums = h.sums; records = room.records; nodes = room.nodes; cuts = room.cuts }

abbrev pub whole_of : Matrix → List Float → Settings → Room → TreeAsked
whole_of x found s room = record { matrix = x; settings = s; room = record { sums = length found; records = room.records; nodes = room.nodes; cuts = room.cuts } }

-- answer, records with their origins, nodes and cuts are the same
pub record SameSheet (later whole : TreeTold) : Type 0 where
  pub answer : later.answer ≡ whole.answer
  pub records : later.records ≡ whole.records
  pub nodes : later.nodes ≡ whole.nodes
  pub cuts : later.cuts ≡ whole.cuts

pub record AsWhole (x : Matrix) (found : List Float) (h : Handed) : Type 0 where
  -- the room holds what the whole call leaves there
  pub sums : h.sums ≡ holding (sums_of x) found
  pub closes : close_answer h.state ≡ given h.state
  -- with any settings and any room, refused or not
  pub sheet : (s : Settings) (room : Room) → SameSheet (fed_call (later_of h s room)) (tree_call (whole_of x found s room))
  pub host_sheet : (s : Settings) (room : Room) (counts : ℕ) → SameSheet (fed_counted_call (later_of h s room) counts) (counted_call (whole_of x found s room) counts)

-- ---- at any time
pub record SoFar (n d : ℕ) (found : List Float) (h : Handed) : Type 0 where
  -- the count is that of the cells taken, of which there are n*d at most, none of them bad
  pub state : h.state ≡ record { n = n; d = d; count = length h.taken }
  pub few : length h.taken ≤ n * d
  pub finite : every is_finite h.taken ≡ true
  -- the first d + count sums are those of the cells so far, and the rest is as found
  pub sums : h.sums ≡ holding (flat_sums h.taken d (length h.taken)) found

pub record WhileFed (n d : ℕ) (found : List Float) (h : Handed) : Type 0 where
  pub so_far : SoFar n d found h
  -- once they are n*d, those of a matrix
  pub whole : length h.taken ≡ n * d → AsWhole (record { cells = h.taken; n = n; d = d }) found h
