-- Sorted rows and true permutations, in the words that a reader checks: beside `ordered` (Neighbours) and `is_permutation` (Permutations).
use Rattle.std.specs.Prelude.{◌≡◌, ◌⊎◌, true, false, List, ℕ, ◌+◌, ◌≤◌, ◌<◌, Float, get_or}
use Rattle.scope.specs.Floats.{+0}
use Rattle.scope.specs.Lists.{◌∈◌, Pairwise, Distinct}
use Rattle.scope.specs.Greatest.{numeric}
use Rattle.scope.specs.Neighbours.{is_nearer}

-- ---- "Rows sorted by distance, equal ones by lower index"
-- row a comes before row b: its distance is smaller, or b's is not smaller and a is the lower index
abbrev pub Before : List Float → ℕ → ℕ → Type 0
Before ds a b = (is_nearer ds a b ≡ true) ⊎ ((is_nearer ds b a ≡ false) × (a < b))

-- each row comes before every later one, so that none stands twice
abbrev pub Sorted : List Float → List ℕ → Type 0
Sorted ds l = Pairwise (Before ds) l

-- the members are the rows from lo to lo + n - 1, all of them and no others
pub record Rows (lo n : ℕ) (l : List ℕ) : Type 0 where
  pub all : (i : ℕ) → lo ≤ i → i < lo + n → i ∈ l
  pub inside : (i : ℕ) → i ∈ l → (lo ≤ i) × (i < lo + n)

pub record SortedRows (ds : List Float) (lo n : ℕ) (l : List ℕ) : Type 0 where
  pub sorted : Sorted ds l
  pub rows : Rows lo n l

-- no distance of these rows is NaN
abbrev pub NoNaN : List Float → ℕ → ℕ → Type 0
NoNaN ds lo n = (i : ℕ) → lo ≤ i → i < lo + n → numeric (get_or ds i +0) ≡ true

-- ---- "only a true one is accepted"
-- ---- refusal 11, "a permutation lacks an index of 0..L-1, holds one twice or out of range": none of the three
pub record Permutes (L : ℕ) (l : List ℕ) : Type 0 where
  pub all : (i : ℕ) → i < L → i ∈ l
  pub distinct : Distinct l
  pub inside : (i : ℕ) → i ∈ l → i < L
