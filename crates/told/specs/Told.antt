-- How an answer reaches a host: a number, and what is stored through a lent place.
use Rattle.std.specs.Prelude.{◌≡◌, cond, List, ℕ, ltb, Float, length, set}
use Rattle.scope.specs.Refusals.{Answer, refused, given}
use Rattle.scope.specs.Origin.{kind_of, number_of as originNumber, origin_text}
use Rattle.scope.specs.Layers.{Segment}
use Rattle.scope.specs.Calls.{Counts}
use Rattle.scope.specs.Why.{Why, cut, too_near, barred, no_number, not_above}

-- 0, or the number of the refusal
abbrev pub number_of : {A : Type 0} → Answer A → ℕ
number_of (refused k) = k
number_of (given a) = 0

-- a lent place holds a part of what is given, or what it held
abbrev pub told_or : {X A : Type 0} → (X → A → A) → Answer X → A → A
told_or part (refused k) before = before
told_or part (given x) before = part x before

-- all of it
abbrev pub value_or : {A : Type 0} → Answer A → A → A
value_or = told_or (λ x before. x)

-- ---- the tree

-- the nodes that are lent on beside so many counts: none where those are less than four
unfoldable pub counted_room : ℕ → ℕ → ℕ
counted_room nodes counts = cond (ltb counts 4) 0 nodes

-- four counts in a lent slice, as far as it has room
abbrev pub four_in : ℕ → ℕ → ℕ → ℕ → List ℕ → List ℕ
four_in nodes records cuts stored before = set (set (set (set before 0 nodes) 1 records) 2 cuts) 3 stored

-- what `tell` answers, and stores
pub record GrownTold (grown : Answer Counts) (r : ℕ) (counts₀ counts₁ : List ℕ) : Type 0 where
  pub number : r ≡ number_of grown
  pub counts : counts₁ ≡ told_or (λ c. four_in c.nodes c.records c.cuts c.stored) grown counts₀

-- ---- what is told of a row

-- which reason
abbrev pub reason_number : Why → ℕ
reason_number (cut g o) = 0
reason_number (too_near g) = 1
reason_number (barred a b g) = 2
reason_number (no_number g) = 3
reason_number (not_above gain g) = 4

-- the segment that it is told of
abbrev pub segment_of : Why → Segment
segment_of (cut g o) = g
segment_of (too_near g) = g
segment_of (barred a b g) = g
segment_of (no_number g) = g
segment_of (not_above gain g) = g

-- the kind and the number of a cut's origin, and how long its text is, or what three places held
abbrev pub kind_or : Why → ℕ → ℕ
kind_or (cut g o) before = kind_of o
kind_or _ before = before

abbrev pub origin_number_or : Why → ℕ → ℕ
origin_number_or (cut g o) before = originNumber o
origin_number_or _ before = before

abbrev pub text_length_or : Why → ℕ → ℕ
text_length_or (cut g o) before = length (origin_text o)
text_length_or _ before = before

-- the first and the second of the pair that bars, or what two places held
abbrev pub first_or : Why → ℕ → ℕ
first_or (barred a b g) before = a
first_or _ before = before

abbrev pub second_or : Why → ℕ → ℕ
second_or (barred a b g) before = b
second_or _ before = before

-- the gain that does not exceed the threshold, or what a place held
abbrev pub not_above_or : Why → Float → Float
not_above_or (not_above gain g) before = gain
not_above_or _ before = before
