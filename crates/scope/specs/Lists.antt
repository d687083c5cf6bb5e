-- Lists: what a lent slice holds, rows in a range, and what a test keeps.
use Rattle.std.specs.Prelude.{Bool, true, false, ◌&&◌, ◌≢◌, ℕ, zero, suc, ◌+◌, Float, length, get_or, drop}
use mathlib.Core.List.{List, [], ◌∷◌, ◌++◌, Memᴰ}
use Rattle.std.specs.Float.{nan}

-- "The first entries are as told, the rest unchanged": what a slice that held `before` holds afterwards.
abbrev pub holding : {A : Type 0} → List A → List A → List A
holding told before = told ++ drop (length told) before

-- the value at a place; past the end there is none
abbrev pub at : List Float → ℕ → Float
at s k = get_or s k nan

-- the count numbers from lo on, ascending
unfoldable pub upward : ℕ → ℕ → List ℕ
upward lo zero = []
upward lo (suc k) = upward lo k ++ ((lo + k) ∷ [])

-- x before xs if the test passed
abbrev pub keep : {A : Type 0} → Bool → A → List A → List A
keep true x xs = x ∷ xs
keep false x xs = xs

-- the members that pass a test, in order
unfoldable pub select : {A : Type 0} → (A → Bool) → List A → List A
select p [] = []
select p (x ∷ xs) = keep (p x) x (select p xs)

-- every member passes
unfoldable pub every : {A : Type 0} → (A → Bool) → List A → Bool
every p [] = true
every p (x ∷ xs) = p x && every p xs

abbrev pub is_empty : {A : Type 0} → List A → Bool
is_empty [] = true
is_empty (x ∷ xs) = false

-- ---- members, in a reader's words
module _ {A : Type 0} where
  infix 4 ◌∈◌
  -- a stands in l
  abbrev pub ◌∈◌ : A → List A → Type 0
  a ∈ l = Memᴰ a l

  -- each member stands in R to every later one
  abbrev pub Pairwise : (A → A → Type 0) → List A → Type 0
  Pairwise R [] = Unit {0}
  Pairwise R (x ∷ l) = ((y : A) → y ∈ l → R x y) × Pairwise R l

  -- nothing stands twice
  abbrev pub Distinct : List A → Type 0
  Distinct l = Pairwise ◌≢◌ l
