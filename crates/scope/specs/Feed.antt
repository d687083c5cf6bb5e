-- Rows while the deck feeds: "prefix sums taken from cells in whatever lots arrive, a lot ending mid-row or being empty", and the later sheet, which
-- "reads these sums and takes no matrix".
use Rattle.std.specs.Prelude.{List, [], ◌∷◌, ◌++◌, ℕ, zero, suc, ◌+◌, ◌*◌, ltb, Float, length, take, set, replicate}
use Rattle.scope.specs.Floats.{+0}
use Rattle.scope.specs.Lists.{at}
use Rattle.scope.specs.Asked.{Settings}
use Rattle.scope.specs.Refusals.{Test, test, first_of, Answer, unless, told_unless, left_unless, no1_sizes, no2, no3, no4, no5, no7}
use Rattle.scope.specs.Sums.{plus}
use Rattle.scope.specs.Draws.{source_tests, no8_draws}
use Rattle.scope.specs.Tree.{Run}
use Rattle.scope.specs.Calls.{Room, room_tests, run_on, TreeTold, run_follows}

-- the state: n rows of d columns, and how many of their cells were taken
pub record State : Type 0 where
  pub n : ℕ
  pub d : ℕ
  pub count : ℕ

-- "n*d cells", and the room that their sums need, as ever
abbrev pub cells_in : State → ℕ
cells_in s = s.n * s.d

abbrev pub sums_in : State → ℕ
sums_in s = (s.n + 1) * s.d

-- ---- "1 for a size and 7 as ever, 4 for a bad cell, then 13 for too many cells": those taken and so many more
abbrev pub no13 : State → ℕ → Test
no13 s more = test (ltb (cells_in s) (s.count + more)) 13

-- "14 for closing, or asking for the sheet, before n*d cells"
abbrev pub no14 : State → Test
no14 s = test (ltb s.count (cells_in s)) 14

-- ---- open: no cell is taken yet, and C[0] = 0 in every column
pub record OpenAsked : Type 0 where
  pub n : ℕ
  pub d : ℕ
  pub room : ℕ

abbrev pub opened : ℕ → ℕ → State
opened n d = record { n = n; d = d; count = 0 }

abbrev pub open_tests : OpenAsked → List Test
open_tests a = no1_sizes a.n a.d ∷ no7 (sums_in (opened a.n a.d)) a.room ∷ []

unfoldable pub open_refusal : OpenAsked → ℕ
open_refusal a = first_of (open_tests a)

pub record OpenTold : Type 0 where
  pub answer : Answer State
  pub sums : List Float

unfoldable pub open_call : OpenAsked → OpenTold
open_call a =
    let no = open_refusal a in
    record { answer = unless no (opened a.n a.d); sums = told_unless no (replicate a.d +0) }

-- ---- feed: a lot of cells, and the sums as they stand

-- the first k cells of a lot, after c cells: one more is the entry d + c + k, by the rule of prefix sums (0 + cell) + the entry d before it
unfoldable pub fed_sums : List Float → ℕ → ℕ → List Float → ℕ → List Float
fed_sums lot d c sums zero = sums
fed_sums lot d c sums (suc k) = let before = fed_sums lot d c sums k in set before (d + c + k) (plus (at lot k) (at before (c + k)))

abbrev pub feed_tests : State → List Float → ℕ → List Test
feed_tests s lot room = no1_sizes s.n s.d ∷ no4 lot ∷ no7 (sums_in s) room ∷ no13 s (length lot) ∷ []

unfoldable pub feed_refusal : State → List Float → ℕ → ℕ
feed_refusal s lot room = first_of (feed_tests s lot room)

pub record FeedAsked : Type 0 where
  pub state : State
  pub lot : List Float
  pub sums : List Float

-- so many cells more
abbrev pub with_cells : State → ℕ → State
with_cells s k = record { n = s.n; d = s.d; count = s.count + k }

-- the new state, and what the sums are then
pub record FeedTold : Type 0 where
  pub answer : Answer State
  pub sums : List Float

unfoldable pub feed_call : FeedAsked → FeedTold
feed_call a =
    let no = feed_refusal a.state a.lot (length a.sums) in
    record {
      answer = unless no (with_cells a.state (length a.lot));
      sums = left_unless no a.sums (fed_sums a.lot a.state.d a.state.count a.sums (length a.lot));
    }

-- ---- close: the state alone, which it answers with
abbrev pub close_tests : State → List Test
close_tests s = no1_sizes s.n s.d ∷ no13 s 0 ∷ no14 s ∷ []

unfoldable pub close_answer : State → Answer State
close_answer s = unless (first_of (close_tests s)) s

-- ---- the later sheet, over whatever sums it is lent

-- up to 6: there are no cells, so there is no 4
abbrev pub fed_run_tests : State → Settings → List Test
fed_run_tests st s = no1_sizes st.n st.d ∷ no2 s.shortest ∷ no3 s.threshold ∷ no5 s.forbidden ∷ source_tests s.source

-- up to 7, and from 8 on
abbrev pub fed_room_tests : State → Settings → Room → List Test
fed_room_tests st s room = fed_run_tests st s ++ room_tests st.n st.d s.shortest s.source room

abbrev pub fed_last_tests : State → Settings → List Test
fed_last_tests st s = no8_draws st.n s.source ∷ no13 st 0 ∷ no14 st ∷ []

abbrev pub fed_tests : State → Settings → Room → List Test
fed_tests st s room = fed_room_tests st s room ++ fed_last_tests st s

unfoldable pub fed_refusal : State → Settings → Room → ℕ
fed_refusal st s room = first_of (fed_tests st s room)

pub record FedAsked : Type 0 where
  pub state : State
  pub settings : Settings
  pub sums : List Float
  pub records : ℕ
  pub nodes : ℕ
  pub cuts : ℕ

abbrev pub fed_room : FedAsked → Room
fed_room a = record { sums = length a.sums; records = a.records; nodes = a.nodes; cuts = a.cuts }

-- the run over the sums of its rows: nothing behind them is read
abbrev pub fed_run : State → Settings → List Float → Run
fed_run st s sums = run_on (take (sums_in st) sums) st.n st.d s

-- nothing is told to the sums
unfoldable pub fed_call : FedAsked → TreeTold
fed_call a = run_follows (fed_run a.state a.settings a.sums) [] (fed_refusal a.state a.settings (fed_room a))

-- for a host, which lends a slice for the four counts too
abbrev pub fed_counted_tests : State → Settings → Room → ℕ → List Test
fed_counted_tests st s room counts = fed_room_tests st s room ++ (no7 4 counts ∷ fed_last_tests st s)

unfoldable pub fed_counted_refusal : State → Settings → Room → ℕ → ℕ
fed_counted_refusal st s room counts = first_of (fed_counted_tests st s room counts)

unfoldable pub fed_counted_call : FedAsked → ℕ → TreeTold
fed_counted_call a counts = run_follows (fed_run a.state a.settings a.sums) [] (fed_counted_refusal a.state a.settings (fed_room a) counts)
