-- What an answer means: the deck that the definitions read, or the line that they call malformed. What is written for it, and what makes that right.
use Rattle.std.specs.Prelude.{◌≡◌, ◌⊎◌, List, [], ◌∷◌, ℕ, ◌^◌, ◌-◌, ◌≤◌, ◌<◌, Float, length, Result, Ok, Err}
use Rattle.scope.specs.Text.{bytes, decimal, line}
use Rattle.scope.specs.Program.{Deck, Reading, barring, feeding, bad, read_input}
use Rattle.line.specs.declared.Given.{Given}
use Rattle.line.specs.Kept.{Kept}
use Rattle.deck.specs.declared.BadLine.{BadLine}
use Rattle.deck.specs.Walk.{State, start, Run, run, fed}

-- a deck that was read, and what is kept of it
pub record Told (cells₀ : List Float) (forbidden₀ : List ℕ) (g : Given) (cells : List Float) (forbidden : List ℕ) (r : Reading) : Type 0 where
  pub deck : Deck
  pub is_read : (r ≡ barring deck) ⊎ (r ≡ feeding deck)
  pub n_is : g.n ≡ deck.n
  pub d_is : g.d ≡ deck.d
  pub m_is : g.m ≡ deck.m
  pub threshold_is : g.threshold ≡ deck.threshold
  pub kept : Kept cells₀ forbidden₀ g cells forbidden deck.forbidden deck.cells

-- an answer, beside what the slices hold, and what the definitions read
abbrev pub Says : List Float → List ℕ → Result Given BadLine → List Float → List ℕ → Reading → Type 0
Says cells₀ forbidden₀ (Err b) cells forbidden r = r ≡ bad b.0
Says cells₀ forbidden₀ (Ok g) cells forbidden r = Told cells₀ forbidden₀ g cells forbidden r

-- after the whole input, from the start and slices that held so
abbrev pub after : List ℕ → List Float → List ℕ → Run
after input cells₀ forbidden₀ = fed (run start cells₀ forbidden₀) input

-- An answer at a state is right if it says what the definitions say of whichever input leads there, through slices that have room.
-- Line numbers are counted up to 2^64 - 1, so an input of 2^64 - 2 bytes or more is left out.
abbrev pub Right : State → Result Given BadLine → Type 0
Right s answer =
    (input : List ℕ) (cells₀ : List Float) (forbidden₀ : List ℕ)
    → length input < 2 ^ 64 - 2
    → 2048 ≤ length cells₀
    → 128 ≤ length forbidden₀
    → s ≡ (after input cells₀ forbidden₀).state
    → Says cells₀ forbidden₀ answer (after input cells₀ forbidden₀).cells (after input cells₀ forbidden₀).forbidden (read_input input)

-- ---- what is written: of a deck, by a rule over what is kept of it
abbrev pub read_text : (Given → List Float → List ℕ → List ℕ) → Result Given BadLine → List Float → List ℕ → List ℕ
read_text kept (Err b) cells forbidden = line (bytes "bad" ∷ decimal b.0 ∷ [])
read_text kept (Ok g) cells forbidden = kept g cells forbidden

-- A text is right for a reading if it answers, as P says, whichever input was read so, into slices that have room.
abbrev pub Said : (List ℕ → List ℕ → Type 0) → Result Given BadLine → List Float → List ℕ → List ℕ → Type 0
Said P read cells forbidden text =
    (input : List ℕ) (cells₀ : List Float) (forbidden₀ : List ℕ)
    → 2048 ≤ length cells₀
    → 128 ≤ length forbidden₀
    → Says cells₀ forbidden₀ read cells forbidden (read_input input)
    → P input text
