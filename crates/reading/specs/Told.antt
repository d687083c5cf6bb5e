-- What a program's text answers. The input's first bytes stand in a lent buffer, which is named. No contract says which bytes a read of standard input
-- delivers, so of those behind them only this is said, that there are some. Known.antt says more, where the reader tells its bytes.
use Rattle.std.specs.Prelude.{◌≡◌, ◌⊎◌, List, ◌++◌, ℕ, ◌≤◌, length, take}

-- the input's bytes: the first n that stand in the buffer; or all that stand there, and some behind them
pub data Held (kept : List ℕ) : List ℕ → Type 0 where
  ended : (n : ℕ) → n ≤ length kept → Held kept (take n kept)
  longer : (more : List ℕ) → Held kept (kept ++ more)

-- what is to be written: nothing, or the answer to the input, as P says
pub data Told (P : List ℕ → List ℕ → Type 0) (kept text : List ℕ) : Type 0 where
  nothing : length text ≡ 0 → Told P kept text
  of : (bytes : List ℕ) → Held kept bytes → P bytes text → Told P kept text

-- the same of bytes that are all known: nothing, or the answer to these bytes, as P says
abbrev pub ToldOf : (List ℕ → List ℕ → Type 0) → List ℕ → List ℕ → Type 0
ToldOf P xs text = (length text ≡ 0) ⊎ P xs text
