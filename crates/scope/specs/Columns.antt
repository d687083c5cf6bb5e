-- The gain by column sums: the same as Gain over the flat prefix sums, in document 01's own letters. C i c is C[i] of column c, from row 0 on.
use Rattle.std.specs.Prelude.{cond, ◌||◌, List, ℕ, zero, suc, ◌-◌, eqb, Float}
use Rattle.scope.specs.Floats.{◌⊕◌, ◌⊖◌, ◌⊗◌, ◌⊘◌, whole, +0}
use Rattle.scope.specs.Sums.{column}
use Rattle.scope.specs.Gain.{square}

-- "for columns in order, from 0, add t*t with t = (s1*C[stop] + s2*C[start]) - s*C[x]": the first k columns
unfoldable pub column_terms : (ℕ → ℕ → Float) → ℕ → ℕ → ℕ → Float → Float → ℕ → Float
column_terms C start stop x s1 s2 zero = +0
column_terms C start stop x s1 s2 (suc k) =
    column_terms C start stop x s1 s2 k ⊕ square ((s1 ⊗ C stop k ⊕ s2 ⊗ C start k) ⊖ (s1 ⊕ s2) ⊗ C x k)

-- "0 at x = start or x = stop. Else s1 = x-start, s2 = stop-x, s = s1+s2; .. divide by (s*s1)*s2."
unfoldable pub column_gain : List Float → ℕ → ℕ → ℕ → ℕ → Float
column_gain cells d start stop x =
    let C : ℕ → ℕ → Float = λ i c. column cells d c i in
    let s1 = whole (x - start) in
    let s2 = whole (stop - x) in
    cond (eqb x start || eqb x stop) +0 (column_terms C start stop x s1 s2 d ⊘ ((s1 ⊕ s2) ⊗ s1 ⊗ s2))
