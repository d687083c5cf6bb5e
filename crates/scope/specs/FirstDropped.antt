-- Neighbours by document 01's own rule, "drop the first of its order": word for word what they were before the row itself was dropped, under the same
-- names; what did not change is imported. Nothing uses them but the law beside (Others).
use Rattle.std.specs.Prelude.{◌&&◌, List, [], ◌∷◌, ◌++◌, ℕ, zero, suc, ◌+◌, ◌-◌, leb, ltb, Float, length, take, drop}
use Rattle.scope.specs.Floats.{◌⊘◌, whole}
use Rattle.scope.specs.Lists.{select}
use Rattle.scope.specs.Rounding.{whole_root}
use Rattle.scope.specs.Neighbours.{order_of}
use Rattle.scope.specs.Calls.{PredictAsked}

-- "drop the first of its order"
unfoldable pub others : ℕ → List ℕ → List ℕ
others row order = drop 1 order

unfoldable pub neighbours : ℕ → ℕ → ℕ → List ℕ → List ℕ
neighbours start stop row order = take (whole_root (stop - start)) (select (λ j. leb start j && ltb j stop) (others row order))

unfoldable pub count_of : List Float → ℕ → ℕ → ℕ → ℕ → ℕ → ℕ → ℕ
count_of cells n d start stop split row = length (select (λ j. leb split j) (neighbours start stop row (order_of cells n d row)))

unfoldable pub predictions : List Float → ℕ → ℕ → ℕ → ℕ → ℕ → ℕ → List Float
predictions cells n d start stop split zero = []
predictions cells n d start stop split (suc i) =
    predictions cells n d start stop split i ++ ((whole (count_of cells n d start stop split (start + i)) ⊘ whole (whole_root (stop - start))) ∷ [])

abbrev pub predictions_of : PredictAsked → List Float
predictions_of a =
    let x = a.order.matrix in
    predictions x.cells x.n x.d a.start a.stop a.split (a.stop - a.start)
