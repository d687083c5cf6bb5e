-- How the input is read: its first bytes into a lent buffer, the rest in lots. No contract says which bytes a read of standard input delivers, so of the lots each
-- statement is of some bytes. Known.antt says which, where the reader tells its bytes.
use Rattle.std.specs.Prelude.{◌≡◌, List, ℕ, ◌*◌, ◌^◌, ◌≤◌, Float, length, Option, Some, None, Result, Ok, Err}
use Rattle.scope.specs.Program.{read_input}
use Rattle.line.specs.declared.Given.{Given}
use Rattle.deck.specs.declared.BadLine.{BadLine}
use Rattle.deck.specs.Walk.{State, run, fed}
use Rattle.deck.specs.Meaning.{Says, Right}
use Rattle.reading.specs.Told.{Held}
use Rattle.reading.specs.declared.Unreadable.{Unreadable}

-- ---- the first bytes: so many stand in the buffer
abbrev pub Filled : List ℕ → Result ℕ Unreadable → Type 0
Filled kept (Ok n) = n ≤ length kept
Filled kept (Err e) = Unit {0}

-- ---- the rest, in lots
-- a lot, fed to the state s and to the slices
pub record Fed (s : State) (cells : List Float) (forbidden : List ℕ) (t : State) (cells' : List Float) (forbidden' : List ℕ) : Type 0 where
  pub bytes : List ℕ
  pub few : length bytes ≤ 65536
  pub is : run t cells' forbidden' ≡ fed (run s cells forbidden) bytes

abbrev pub Fetched : State → List Float → List ℕ → List Float → List ℕ → Result (Option State) Unreadable → Type 0
Fetched s cells forbidden cells' forbidden' (Ok (Some t)) = Fed s cells forbidden t cells' forbidden'
Fetched s cells forbidden cells' forbidden' (Ok None) = (cells' ≡ cells) × (forbidden' ≡ forbidden)
Fetched s cells forbidden cells' forbidden' (Err e) = Unit {0}

-- the state after some bytes from the state s₀ on, read in so many turns
pub record Begun (s₀ : State) (cells₀ : List Float) (forbidden₀ : List ℕ) (s : State) (cells : List Float) (forbidden : List ℕ) (turns : ℕ) : Type 0 where
  pub bytes : List ℕ
  pub few : length bytes ≤ 65536 * turns
  pub is : run s cells forbidden ≡ fed (run s₀ cells₀ forbidden₀) bytes

-- the reading at the state after some bytes
pub record Rest (s₀ : State) (cells₀ : List Float) (forbidden₀ : List ℕ) (cells : List Float) (forbidden : List ℕ) (read : Result Given BadLine) : Type 0 where
  pub bytes : List ℕ
  pub few : length bytes ≤ 2 ^ 63
  pub state : State
  pub is : run state cells forbidden ≡ fed (run s₀ cells₀ forbidden₀) bytes
  pub right : Right state read

abbrev pub Rested : State → List Float → List ℕ → List Float → List ℕ → Result (Result Given BadLine) Unreadable → Type 0
Rested s₀ cells₀ forbidden₀ cells forbidden (Ok read) = Rest s₀ cells₀ forbidden₀ cells forbidden read
Rested s₀ cells₀ forbidden₀ cells forbidden (Err e) = Unit {0}

-- ---- the whole input
-- a reading that says what the definitions say of it, read into slices that have room
pub record Whole (kept : List ℕ) (cells₀ : List Float) (forbidden₀ : List ℕ) (cells : List Float) (forbidden : List ℕ) (read : Result Given BadLine) : Type 0 where
  pub bytes : List ℕ
  pub held : Held kept bytes
  pub says : 2048 ≤ length cells₀ → 128 ≤ length forbidden₀ → Says cells₀ forbidden₀ read cells forbidden (read_input bytes)

abbrev pub Taken : List ℕ → List Float → List ℕ → List Float → List ℕ → Result (Result Given BadLine) Unreadable → Type 0
Taken kept cells₀ forbidden₀ cells forbidden (Ok read) = Whole kept cells₀ forbidden₀ cells forbidden read
Taken kept cells₀ forbidden₀ cells forbidden (Err e) = Unit {0}
