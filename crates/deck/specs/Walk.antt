-- The input byte by byte: what the code keeps of it.
use Rattle.std.specs.Prelude.{cond, ℕ, ◌+◌, min, leb, eqb, Float, Option, Some, None, Result, Ok, Err}
use mathlib.Core.List.{List}
use Rattle.std.specs.List.{fold}
use Rattle.token.specs.declared.Token.{Token}
use Rattle.token.specs.Walk.{fresh, token_more}
use Rattle.line.specs.declared.Place.{Place}
use Rattle.line.specs.declared.Place.TheVariants.{Threshold, Cells, Malformed}
use Rattle.line.specs.declared.Given.{Given}
use Rattle.line.specs.declared.Event.TheVariants.{Nothing}
use Rattle.line.specs.declared.Ended.{Ended}
use Rattle.line.specs.Walk.{up_to, nothing, reads, ended, stored_cells, stored_forbidden}
use Rattle.deck.specs.declared.Phase.{Phase}
use Rattle.deck.specs.declared.Phase.TheVariants.{Begun, Barring, Feeding}
use Rattle.deck.specs.declared.BadLine.{BadLine}
use Rattle.deck.specs.declared.Open.{Open}
use Rattle.deck.specs.declared.Moved.{Moved}

-- ---- the state
abbrev pub State : Type 0
State = Result Open BadLine

-- line number k is the first malformed one
abbrev pub bad_line : ℕ → BadLine
bad_line k = record { 0 = k }

-- in a line that is begun, or not yet
abbrev pub in_line : Phase → ℕ → ℕ → Place → Given → Token → Open
in_line ph k at p g t = record { phase = ph; number = k; at = at; place = p; given = g; token = t }

-- before the first byte of line number k
abbrev pub ready : Phase → ℕ → Given → Open
ready ph k g = in_line ph k 0 Place.Word g fresh

abbrev pub start : State
start = Ok (ready Begun 1 nothing)

-- what a `cfg`, a `no` and a `row` line make of the phase: none where they are malformed there
abbrev pub after_cfg : Phase → Option Phase
after_cfg Begun = Some Barring
after_cfg Barring = None
after_cfg Feeding = None

abbrev pub after_no : Phase → Option Phase
after_no Begun = None
after_no Barring = Some Barring
after_no Feeding = None

abbrev pub after_row : Phase → Option Phase
after_row Begun = None
after_row Barring = Some Feeding
after_row Feeding = Some Feeding

-- a line has ended at the place
abbrev pub after_line : Phase → Place → Option Phase
after_line ph Place.Word = None
after_line ph (Place.Number x) = None
after_line ph Threshold = None
after_line ph Place.Row = None
after_line ph (Cells k) = after_row ph
after_line ph Place.Cfg = after_cfg ph
after_line ph Place.No = after_no ph
after_line ph Malformed = None

-- line numbers go up to the greatest `u64`, past any input's
abbrev pub next_line : ℕ → Given → Phase → State
next_line k g ph = Ok (ready ph (min (k + 1) 18446744073709551615) g)

abbrev pub turned : ℕ → Given → Option Phase → State
turned k g (Some ph) = next_line k g ph
turned k g None = Err (bad_line k)

abbrev pub judged : Open → Place → Given → State
judged o p g = cond (leb 1024 o.at) (Err (bad_line o.number)) (turned o.number g (after_line o.phase p))

-- ---- a byte: LF, tab, any other
abbrev pub field_done : Open → Ended
field_done o = ended o.place o.given (reads o.token)

abbrev pub line_end : Open → Moved
line_end o = record { state = judged o (field_done o).place (field_done o).given; event = (field_done o).event }

abbrev pub tabbed : Open → Moved
tabbed o = record { state = Ok (in_line o.phase o.number (up_to 1024 o.at) (field_done o).place (field_done o).given fresh); event = (field_done o).event }

abbrev pub byte_more : Open → ℕ → Moved
byte_more o b = record { state = Ok (in_line o.phase o.number (up_to 1024 o.at) o.place o.given (token_more o.token b)); event = Nothing }

abbrev pub open_step : Open → ℕ → Moved
open_step o b = cond (eqb b 10) (line_end o) (cond (eqb b 9) (tabbed o) (byte_more o b))

abbrev pub step : State → ℕ → Moved
step (Ok o) b = open_step o b
step (Err bad) b = record { state = Err bad; event = Nothing }

-- ---- a state and what the lent slices hold
pub record Run : Type 0 where
  pub state : State
  pub cells : List Float
  pub forbidden : List ℕ

abbrev pub run : State → List Float → List ℕ → Run
run s cells forbidden = record { state = s; cells = cells; forbidden = forbidden }

abbrev pub onto : Run → Moved → Run
onto x m = run m.state (stored_cells m.event x.cells) (stored_forbidden m.event x.forbidden)

abbrev pub step_run : Run → ℕ → Run
step_run x b = onto x (step x.state b)

-- a lot of bytes
unfoldable pub fed : Run → List ℕ → Run
fed x bs = fold step_run x bs

-- ---- the input's end
abbrev pub at_phase : Phase → ℕ → Given → Result Given BadLine
at_phase Begun k g = Err (bad_line k)
at_phase Barring k g = Ok g
at_phase Feeding k g = Ok g

abbrev pub at_end : Open → Result Given BadLine
at_end o = cond (eqb o.at 0) (at_phase o.phase o.number o.given) (Err (bad_line o.number))

abbrev pub read_of : State → Result Given BadLine
read_of (Ok o) = at_end o
read_of (Err bad) = Err bad
