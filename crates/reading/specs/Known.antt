-- The same where the reader tells which bytes it has left, by std's `Read::remaining`: all of them are read, each once and in order, in whatever lots they come.
-- A reader over memory tells them; standard input does not.
use Rattle.std.specs.Prelude.{◌≡◌, Option, Some, None, Result, Ok, Err, List, ℕ, ◌≤◌, ◌<◌, Float, length, take}
use Rattle.std.specs.Io.KnownBytes.{Consumes, IsAtEnd}
use Rattle.scope.specs.Program.{read_input}
use Rattle.line.specs.declared.Given.{Given}
use Rattle.deck.specs.declared.BadLine.{BadLine}
use Rattle.deck.specs.Walk.{State}
use Rattle.deck.specs.Meaning.{Says}
use Rattle.reading.specs.Taken.{Fed, Begun, Rest}
use Rattle.reading.specs.declared.Unreadable.{Unreadable}

-- ---- the first bytes: those that stand in the buffer, and there are no more where they don't fill it
abbrev pub FilledOf : Option (List ℕ) → Option (List ℕ) → List ℕ → Result ℕ Unreadable → Type 0
FilledOf old new kept (Ok n) = Consumes old new (take n kept) × (n < length kept → IsAtEnd new)
FilledOf old new kept (Err e) = Unit {0}

-- ---- the rest, in lots
-- the lot that is fed is the next bytes
pub record FedOf (old new : Option (List ℕ)) (s : State) (cells : List Float) (forbidden : List ℕ) (t : State) (cells' : List Float) (forbidden' : List ℕ) : Type 0 where
  pub lot : Fed s cells forbidden t cells' forbidden'
  pub took : Consumes old new lot.bytes

abbrev pub FetchedOf : Option (List ℕ) → Option (List ℕ) → State → List Float → List ℕ → List Float → List ℕ → Result (Option State) Unreadable → Type 0
FetchedOf old new s cells forbidden cells' forbidden' (Ok (Some t)) = FedOf old new s cells forbidden t cells' forbidden'
FetchedOf old new s cells forbidden cells' forbidden' (Ok None) = IsAtEnd old
FetchedOf old new s cells forbidden cells' forbidden' (Err e) = Unit {0}

pub record BegunOf (old new : Option (List ℕ)) (s₀ : State) (cells₀ : List Float) (forbidden₀ : List ℕ) (s : State) (cells : List Float) (forbidden : List ℕ) (turns : ℕ) : Type 0 where
  pub begun : Begun s₀ cells₀ forbidden₀ s cells forbidden turns
  pub took : Consumes old new begun.bytes

-- the reading at the state after these bytes
pub record RestOf (xs : List ℕ) (s₀ : State) (cells₀ : List Float) (forbidden₀ : List ℕ) (cells : List Float) (forbidden : List ℕ) (read : Result Given BadLine) : Type 0 where
  pub rest : Rest s₀ cells₀ forbidden₀ cells forbidden read
  pub all : rest.bytes ≡ xs

abbrev pub RestedOf : List ℕ → State → List Float → List ℕ → List Float → List ℕ → Result (Result Given BadLine) Unreadable → Type 0
RestedOf xs s₀ cells₀ forbidden₀ cells forbidden (Ok read) = RestOf xs s₀ cells₀ forbidden₀ cells forbidden read
RestedOf xs s₀ cells₀ forbidden₀ cells forbidden (Err e) = Unit {0}

-- ---- the whole input: the reading says what the definitions say of these bytes, read into slices that have room
abbrev pub TakenOf : List ℕ → List Float → List ℕ → List Float → List ℕ → Result (Result Given BadLine) Unreadable → Type 0
TakenOf xs cells₀ forbidden₀ cells forbidden (Ok read) = 2048 ≤ length cells₀ → 128 ≤ length forbidden₀ → Says cells₀ forbidden₀ read cells forbidden (read_input xs)
TakenOf xs cells₀ forbidden₀ cells forbidden (Err e) = Unit {0}
