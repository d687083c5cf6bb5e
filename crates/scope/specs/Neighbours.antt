-- Neighbours: ordering, counts, prediction.
use Rattle.std.specs.Prelude.{Bool, not, cond, ◌&&◌, List, [], ◌∷◌, ◌++◌, ℕ, zero, suc, ◌+◌, ◌-◌, ◌*◌, leb, ltb, eqb, Float, length, get_or, take}
use Rattle.std.specs.Float.Ieee.{lt}
use Rattle.scope.specs.Floats.{◌⊕◌, ◌⊖◌, ◌⊘◌, whole, +0}
use Rattle.scope.specs.Lists.{at, select}
use Rattle.scope.specs.Rounding.{whole_root}
use Rattle.scope.specs.Gain.{square}

-- ---- "Squared distance: columns in order, from 0."

-- the difference of the rows i and j in column c
unfoldable pub difference : List Float → ℕ → ℕ → ℕ → ℕ → Float
difference cells d i j c = at cells (i * d + c) ⊖ at cells (j * d + c)

-- the squared distance over the first c columns
unfoldable pub squares : List Float → ℕ → ℕ → ℕ → ℕ → Float
squares cells d i j zero = +0
squares cells d i j (suc c) = squares cells d i j c ⊕ square (difference cells d i j c)

-- the squared distances of row i to the first k rows
unfoldable pub distances : List Float → ℕ → ℕ → ℕ → List Float
distances cells d i zero = []
distances cells d i (suc k) = distances cells d i k ++ (squares cells d i k d ∷ [])

-- ---- "Rows sorted by distance, equal ones by lower index"

-- row a is nearer than row b, by their distances
abbrev pub is_nearer : List Float → ℕ → ℕ → Bool
is_nearer ds a b = lt (get_or ds a +0) (get_or ds b +0)

-- x goes in front of the first row that is no nearer than x
unfoldable pub insert : List Float → ℕ → List ℕ → List ℕ
insert ds x [] = x ∷ []
insert ds x (y ∷ l) = cond (is_nearer ds y x) (y ∷ insert ds x l) (x ∷ y ∷ l)

-- the count rows from lo on, sorted: the first of them, put into the order of the rest
unfoldable pub ordered : List Float → ℕ → ℕ → List ℕ
ordered ds lo zero = []
ordered ds lo (suc k) = insert ds lo (ordered ds (suc lo) k)

-- the order of all n rows as seen from row i
unfoldable pub order_of : List Float → ℕ → ℕ → ℕ → List ℕ
order_of cells n d i = ordered (distances cells d i n) 0 n

-- the orders of the first i rows, one after another
unfoldable pub orders : List Float → ℕ → ℕ → ℕ → List ℕ
orders cells n d zero = []
orders cells n d (suc i) = orders cells n d i ++ order_of cells n d i

-- ---- "For each row: .., keep rows in [start, stop), take at most k, count those >= split."; document 02: "the row itself is dropped, wherever it stands"

-- the order without the row
unfoldable pub others : ℕ → List ℕ → List ℕ
others row order = select (λ j. not (eqb j row)) order

-- the neighbours of a row in [start, stop), nearest first
unfoldable pub neighbours : ℕ → ℕ → ℕ → List ℕ → List ℕ
neighbours start stop row order = take (whole_root (stop - start)) (select (λ j. leb start j && ltb j stop) (others row order))

unfoldable pub count_of : List Float → ℕ → ℕ → ℕ → ℕ → ℕ → ℕ → ℕ
count_of cells n d start stop split row = length (select (λ j. leb split j) (neighbours start stop row (order_of cells n d row)))

-- "Prediction: count/k", k = "whole square root of L = stop-start": for the first i rows of the segment
unfoldable pub predictions : List Float → ℕ → ℕ → ℕ → ℕ → ℕ → ℕ → List Float
predictions cells n d start stop split zero = []
predictions cells n d start stop split (suc i) =
    predictions cells n d start stop split i ++ ((whole (count_of cells n d start stop split (start + i)) ⊘ whole (whole_root (stop - start))) ∷ [])
