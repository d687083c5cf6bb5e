-- Prefix sums.
use Rattle.std.specs.Prelude.{List, [], ◌∷◌, ◌++◌, ℕ, zero, suc, ◌+◌, ◌*◌, Float, replicate}
use Rattle.scope.specs.Floats.{◌⊕◌, +0}
use Rattle.scope.specs.Lists.{at}

-- "(0 + x[i]) + C[i]"
abbrev pub plus : Float → Float → Float
plus x c = (+0 ⊕ x) ⊕ c

-- "C[0] = 0; C[i+1] = (0 + x[i]) + C[i] per column": C[i] of the column c of a matrix of d columns, row after row
unfoldable pub column : List Float → ℕ → ℕ → ℕ → Float
column cells d c zero = +0
column cells d c (suc i) = plus (at cells (i * d + c)) (column cells d c i)

-- The same flat, row after row, one entry after another: d zeros, and then for cell k the entry d + k is (0 + cell k) + entry k.
unfoldable pub flat_sums : List Float → ℕ → ℕ → List Float
flat_sums cells d zero = replicate d +0
flat_sums cells d (suc k) = flat_sums cells d k ++ (plus (at cells k) (at (flat_sums cells d k) k) ∷ [])

-- the (n+1)*d sums of n rows; C[i] of column c stands at i*d + c
unfoldable pub prefix_sums : List Float → ℕ → ℕ → List Float
prefix_sums cells n d = flat_sums cells d (n * d)
