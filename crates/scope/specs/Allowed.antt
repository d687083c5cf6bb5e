-- Allowed rows, in the words that a reader checks: the candidates beside the list that is computed (Candidates).
use Rattle.std.specs.Prelude.{◌≡◌, Bool, true, false, List, [], ◌∷◌, ℕ, ◌+◌, ◌-◌, ◌≤◌, ◌<◌, eqb, length}
use Rattle.std.proofs.Math.Option.{Option, none, some}
use Rattle.scope.specs.Lists.{◌∈◌}
use Rattle.scope.specs.Asked.{Shortest, end_of}

-- the pair (a, b) stands in the flat list
pub data Pair (a b : ℕ) : List ℕ → Type 0 where
  here : {ps : List ℕ} → Pair a b (a ∷ b ∷ ps)
  later : {c d : ℕ} {ps : List ℕ} → Pair a b ps → Pair a b (c ∷ d ∷ ps)

-- "Rows x with start+m <= x < stop-m, except a < x <= b for some pair."; with the closed end "x = stop-m allowed"
pub record Allowed (s : Shortest) (forbidden : List ℕ) (start stop x : ℕ) : Type 0 where
  pub low : start + s.m ≤ x
  pub high : x + s.m < end_of s stop
  pub free : (a b : ℕ) → Pair a b forbidden → a < x → x ≤ b → ⊥

-- ascending, and not below lo: so nothing stands twice
abbrev pub Ascending : ℕ → List ℕ → Type 0
Ascending lo [] = Unit {0}
Ascending lo (x ∷ xs) = (lo ≤ x) × Ascending (x + 1) xs

-- "equal guesses both stay": without a list, in two rows, which only the closed end admits
abbrev pub stands_twice : Option (List ℕ) → ℕ → ℕ → Bool
stands_twice none start stop = eqb (stop - start) 2
stands_twice (some forbidden) start stop = false

-- what a call for guesses gives: one to three rows, each of them allowed; ascending, but of two rows the one allowed row twice
pub record AllowedGuesses (s : Shortest) (forbidden : List ℕ) (twice : Bool) (start stop : ℕ) (l : List ℕ) : Type 0 where
  pub some : 1 ≤ length l
  pub few : length l ≤ 3
  pub ascending : twice ≡ false → Ascending 0 l
  pub equal : twice ≡ true → l ≡ (start + 1) ∷ (start + 1) ∷ []
  pub allowed : (x : ℕ) → x ∈ l → Allowed s forbidden start stop x
