-- Candidates.
use Rattle.std.specs.Prelude.{Bool, false, ◌&&◌, ◌||◌, not, List, [], ◌∷◌, ℕ, ◌+◌, ◌-◌, ◌*◌, ltb, leb}
use Rattle.scope.specs.Lists.{upward, select, is_empty}
use Rattle.scope.specs.Asked.{Shortest, end_of}
use Rattle.scope.specs.Refusals.{Test, test}

-- "except a < x <= b for some pair"; the pairs stand flat, a then b
unfoldable pub is_barred : List ℕ → ℕ → Bool
is_barred [] x = false
is_barred (a ∷ []) x = false
is_barred (a ∷ b ∷ ps) x = (ltb a x && leb x b) || is_barred ps x

-- "start+m <= x < stop-m", and "x = stop-m allowed" with the closed end: the range's first row, and how many rows it has, "0 if negative"
abbrev pub first_row : Shortest → ℕ → ℕ
first_row s start = start + s.m

unfoldable pub range_size : Shortest → ℕ → ℕ → ℕ
range_size s start stop = end_of s stop - start - 2 * s.m

-- the rows of the range that no pair bars, ascending
unfoldable pub candidates : Shortest → List ℕ → ℕ → ℕ → List ℕ
candidates s forbidden start stop = select (λ x. not (is_barred forbidden x)) (upward (first_row s start) (range_size s start stop))

-- 10: "a candidate range exists but every row of it is forbidden"
unfoldable pub all_barred : Shortest → List ℕ → ℕ → ℕ → Bool
all_barred s forbidden start stop = ltb 0 (range_size s start stop) && is_empty (candidates s forbidden start stop)

abbrev pub no10 : Shortest → List ℕ → ℕ → ℕ → Test
no10 s forbidden start stop = test (all_barred s forbidden start stop) 10
