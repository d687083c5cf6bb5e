-- "Why is row 212 not on the sheet?" What is told of a row of a run, from readings and settings alone.
use Rattle.std.specs.Prelude.{Bool, true, false, not, cond, ◌&&◌, ◌||◌, List, [], ◌∷◌, ◌++◌, ℕ, ◌+◌, ltb, leb, eqb, Float}
use Rattle.std.specs.Float.Ieee.{is_nan}
use Rattle.scope.specs.Asked.{Matrix, Shortest, end_of, Settings}
use Rattle.scope.specs.Refusals.{Test, test, first_of, Answer, unless, told_unless, no7}
use Rattle.scope.specs.Origin.{Origin, origin_text, origin_room}
use Rattle.scope.specs.Grid.{Record}
use Rattle.scope.specs.Layers.{Segment}
use Rattle.scope.specs.Draws.{most_stored, no8_draws}
use Rattle.scope.specs.Tree.{Run, stored_records, Tree, leaf, node, tree_of}
use Rattle.scope.specs.Calls.{sums_of, sums_room, run_tests, run_of}

-- ---- "it is a cut, and of which reached segment; or, within the uncut segment that holds it": where a row stands
pub data Place : Type 0 where
  at_cut : Segment → Origin → Place
  uncut_in : Segment → Place

-- from a segment down: it is cut at the row, by a record of some origin; or a row below the cut stands in the left part, and one above it in the right part
unfoldable pub place_of : ℕ → Tree → Place
place_of x (leaf start stop o) = uncut_in (record { start = start; stop = stop })
place_of x (node start stop c l r) =
    cond (eqb x c.split) (at_cut (record { start = start; stop = stop }) c.origin) (cond (ltb x c.split) (place_of x l) (place_of x r))

-- ---- "too near an end": x < start+m, or not x+m < stop; with the closed end "too near at the right means beyond stop-m"
unfoldable pub is_near : Shortest → Segment → ℕ → Bool
is_near s g x = ltb x (g.start + s.m) || not (ltb (x + s.m) (end_of s g.stop))

-- ---- "barred, with the first listed pair that bars it": a < x <= b
pub data Barring : Type 0 where
  by : ℕ → ℕ → Barring
  free : Barring

unfoldable pub first_barring : List ℕ → ℕ → Barring
first_barring [] x = free
first_barring (a ∷ []) x = free
first_barring (a ∷ b ∷ ps) x = cond (ltb a x && leb x b) (by a b) (first_barring ps x)

-- ---- what is told, each with the segment that it is told of; of a cut the chosen record's origin
pub data Why : Type 0 where
  cut : Segment → Origin → Why
  too_near : Segment → Why
  barred : ℕ → ℕ → Segment → Why
  no_number : Segment → Why
  not_above : Float → Segment → Why

-- "its gain is no number; its gain doesn't exceed the threshold, with that gain": the gain in the segment
abbrev pub by_gain : Float → Segment → Why
by_gain gain g = cond (is_nan gain) (no_number g) (not_above gain g)

-- "the first that applies"
abbrev pub first_reason : Bool → Barring → Float → Segment → Why
first_reason true barring gain g = too_near g
first_reason false (by a b) gain g = barred a b g
first_reason false free gain g = by_gain gain g

-- "within the uncut segment that holds it"
abbrev pub reason_in : Run → ℕ → Segment → Why
reason_in q x g = first_reason (is_near q.shortest g x) (first_barring q.forbidden x) (q.gain g.start g.stop x) g

abbrev pub by_place : Run → ℕ → Place → Why
by_place q x (at_cut g o) = cut g o
by_place q x (uncut_in g) = reason_in q x g

unfoldable pub why_of : Run → ℕ → Why
why_of q x = by_place q x (place_of x (tree_of q))

-- ---- "Refusals: 8 for a row at or past n, in its usual place"
abbrev pub no8_row : ℕ → ℕ → Test
no8_row n x = test (leb n x) 8

-- ---- the origin's text: only a cut has one
abbrev pub text_of : Why → List ℕ
text_of (cut g o) = origin_text o
text_of (too_near g) = []
text_of (barred a b g) = []
text_of (no_number g) = []
text_of (not_above gain g) = []

-- ---- why: "takes readings, settings and a row, trusting no sheet". No tree is kept: the room is that of the sums, the stored records, T, and the text
pub record WhyAsked : Type 0 where
  pub matrix : Matrix
  pub settings : Settings
  pub row : ℕ
  pub sums : ℕ
  pub records : ℕ
  pub text : ℕ

abbrev pub why_tests : WhyAsked → List Test
why_tests a =
    run_tests a.matrix a.settings
    ++ (no7 (sums_room a.matrix) a.sums
    ∷ no7 (most_stored a.settings.source) a.records
    ∷ no7 origin_room a.text
    ∷ no8_draws a.matrix.n a.settings.source
    ∷ no8_row a.matrix.n a.row
    ∷ [])

unfoldable pub why_refusal : WhyAsked → ℕ
why_refusal a = first_of (why_tests a)

pub record WhyTold : Type 0 where
  pub answer : Answer Why
  pub sums : List Float
  pub records : List Record
  pub text : List ℕ

unfoldable pub why_call : WhyAsked → WhyTold
why_call a =
    let no = why_refusal a in
    let q = run_of a.matrix a.settings in
    record {
      answer = unless no (why_of q a.row);
      sums = told_unless no (sums_of a.matrix);
      records = told_unless no (stored_records q);
      text = told_unless no (text_of (why_of q a.row));
    }
