-- Marks: which rows the pairs of a forbidden list bar, an entry for each row, made once for many looks. Assumes nothing.
use Rattle.std.specs.Prelude.{◌≡◌, Bool, false, ◌&&◌, ◌||◌, List, ℕ, ◌≤◌, ◌<◌, ltb, leb, length, get_or}
use Rattle.scope.specs.Candidates.{is_barred}

-- the entry of a row; none is marked past the last
abbrev pub mark_at : List Bool → ℕ → Bool
mark_at marks x = get_or marks x false

-- cleared
pub record Unmarked (marks marks' : List Bool) : Type 0 where
  pub long : length marks' ≡ length marks
  pub none : (x : ℕ) → mark_at marks' x ≡ false

-- the rows that a pair (a, b) bars are marked besides, and no other
pub record PairMarked (a b : ℕ) (marks marks' : List Bool) : Type 0 where
  pub long : length marks' ≡ length marks
  pub told : (x : ℕ) → x ≤ 4096 → mark_at marks' x ≡ (ltb a x && leb x b) || mark_at marks x

-- a row up to 4,096 is marked exactly if some pair of the list bars it: "a < x <= b for some pair"
pub record Marked (forbidden : List ℕ) (marks : List Bool) : Type 0 where
  pub long : 4096 < length marks
  pub told : (x : ℕ) → x ≤ 4096 → mark_at marks x ≡ is_barred forbidden x

-- what a look at a row asks for: the marks of the list; a list without a pair bars nothing, and has none
abbrev pub MarkedIfAny : List ℕ → List Bool → Type 0
MarkedIfAny forbidden marks = 2 ≤ length forbidden → Marked forbidden marks
