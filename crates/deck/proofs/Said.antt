-- What is written for a reading is the text that the definitions give whichever input was read so; from the first byte on, in lots of any sizes. Assumes nothing.
use mathlib.Core.Path.{◌≡◌, refl, sym, ◌∙◌, ap}
use mathlib.Core.Logic.{⊎_elim}
use mathlib.Core.List.{List, [], ◌∷◌, flatten}
use Rattle.std.specs.List.{fold}
use Rattle.std.specs.Prelude.{Result, Ok, Err}
use Prim.Native.Nat.{ℕ, ◌-◌, ◌^◌, ◌≤◌, ◌<◌}
use lib.Ieee.{Float}
use lib.ListN.{length}
use Rattle.scope.specs.Program.{Deck, Reading, Reads, with_rows, without_rows, reading_text, read_input}
use Rattle.line.specs.declared.Given.{Given}
use Rattle.deck.specs.declared.BadLine.{BadLine}
use Rattle.deck.specs.Walk.{start, Run, run, fed, read_of}
use Rattle.deck.specs.Meaning.{Told, Says, after, read_text, Said}
use Rattle.deck.proofs.Fed.{fed_lots}
use Rattle.deck.proofs.Whole.{answer_right}

-- an input whose lines make a deck has the deck's text
pub reads_text : (text : Deck → List ℕ) (input : List ℕ) (deck : Deck) → Reads input deck → reading_text text (read_input input) ≡ text deck
reads_text text input deck (with_rows e) = ap (reading_text text) e
reads_text text input deck (without_rows e) = ap (reading_text text) e

-- many lots, fed one after another, are one
lots_fed : (lots : List (List ℕ)) (x : Run) → fold fed x lots ≡ fed x (flatten lots)
unfolding fed flatten
lots_fed [] x = refl
lots_fed (l ∷ lots) x = lots_fed lots (fed x l) ∙ sym (fed_lots x l (flatten lots))

-- a rule over what is kept of a deck that gives the deck's text
abbrev pub Gives : (Given → List Float → List ℕ → List ℕ) → (Deck → List ℕ) → Type 0
Gives kept text =
    (cells₀ : List Float) (forbidden₀ : List ℕ) → 128 ≤ length forbidden₀ → (g : Given) (cells : List Float) (forbidden : List ℕ) (r : Reading) (told : Told cells₀ forbidden₀ g cells forbidden r) → kept g cells forbidden ≡ text told.deck

module _ (kept : Given → List Float → List ℕ → List ℕ) (text : Deck → List ℕ) (gives : Gives kept text) where
  module _ (cells₀ : List Float) (forbidden₀ : List ℕ) (room : 2048 ≤ length cells₀) (room₂ : 128 ≤ length forbidden₀) where
    read_said : (read : Result Given BadLine) (cells : List Float) (forbidden : List ℕ) (r : Reading) → Says cells₀ forbidden₀ read cells forbidden r → read_text kept read cells forbidden ≡ reading_text text r
    read_said (Err b) cells forbidden r says = sym (ap (reading_text text) says)
    read_said (Ok g) cells forbidden r told =
        gives cells₀ forbidden₀ room₂ g cells forbidden r told ∙ sym (⊎_elim (λ e. ap (reading_text text) e) (λ e. ap (reading_text text) e) told.is_read)

    -- a whole input
    input_said : (input : List ℕ) → length input < 2 ^ 64 - 2 → let x = after input cells₀ forbidden₀ in read_text kept (read_of x.state) x.cells x.forbidden ≡ reading_text text (read_input input)
    input_said input h =
        let x = after input cells₀ forbidden₀ in
        read_said (read_of x.state) x.cells x.forbidden (read_input input) (answer_right refl input cells₀ forbidden₀ h room room₂ refl)

    -- the same in lots
    pub lots_said : (lots : List (List ℕ)) → length (flatten lots) < 2 ^ 64 - 2
        → let x = fold fed (run start cells₀ forbidden₀) lots in read_text kept (read_of x.state) x.cells x.forbidden ≡ reading_text text (read_input (flatten lots))
    lots_said lots h = rw (lots_fed lots (run start cells₀ forbidden₀)) (input_said (flatten lots) h)

  -- THE LAW: it is right, where the input's text answers it
  pub said : (P : List ℕ → List ℕ → Type 0) → ((input written : List ℕ) → written ≡ reading_text text (read_input input) → P input written) → (read : Result Given BadLine) (cells : List Float) (forbidden : List ℕ) → Said P read cells forbidden (read_text kept read cells forbidden)
  said P answers read cells forbidden input cells₀ forbidden₀ room room₂ says =
      answers input (read_text kept read cells forbidden) (read_said cells₀ forbidden₀ room room₂ read cells forbidden (read_input input) says)
