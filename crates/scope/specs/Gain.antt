-- Gain.
use Rattle.std.specs.Prelude.{cond, ◌||◌, List, ℕ, zero, suc, ◌+◌, ◌-◌, ◌*◌, eqb, Float}
use Rattle.scope.specs.Floats.{◌⊕◌, ◌⊖◌, ◌⊗◌, ◌⊘◌, whole, +0}
use Rattle.scope.specs.Lists.{at}

-- "t*t"
abbrev pub square : Float → Float
square t = t ⊗ t

-- "t = (s1*C[stop] + s2*C[start]) - s*C[x]", the three entries of C being at stop, start and x
unfoldable pub term : List Float → ℕ → ℕ → ℕ → Float → Float → Float
term C start stop x s1 s2 = square ((s1 ⊗ at C stop ⊕ s2 ⊗ at C start) ⊖ (s1 ⊕ s2) ⊗ at C x)

-- "for columns in order, from 0, add t*t": the first k columns; start, stop and x are where their rows begin in C
unfoldable pub terms : List Float → ℕ → ℕ → ℕ → Float → Float → ℕ → Float
terms C start stop x s1 s2 zero = +0
terms C start stop x s1 s2 (suc k) = terms C start stop x s1 s2 k ⊕ term C (start + k) (stop + k) (x + k) s1 s2

-- "s1 = x-start, s2 = stop-x, s = s1+s2; .. divide by (s*s1)*s2"
unfoldable pub inner_gain : List Float → ℕ → ℕ → ℕ → ℕ → Float
inner_gain C d start stop x =
    let s1 = whole (x - start) in
    let s2 = whole (stop - x) in
    terms C (start * d) (stop * d) (x * d) s1 s2 d ⊘ ((s1 ⊕ s2) ⊗ s1 ⊗ s2)

-- "0 at x = start or x = stop. Else .." : the gain of the split x of [start, stop), C being the prefix sums of d columns
unfoldable pub gain_of : List Float → ℕ → ℕ → ℕ → ℕ → Float
gain_of C d start stop x = cond (eqb x start || eqb x stop) +0 (inner_gain C d start stop x)
