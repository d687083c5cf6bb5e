-- Rounding helpers.
use Rattle.std.specs.Prelude.{true, false, cond, ℕ, zero, suc, ◌+◌, ◌-◌, ◌*◌, ◌/◌, leb, Float}
use Rattle.std.specs.Float.{nan, inf, fin, Format, binary32}
use Rattle.std.specs.Float.Ieee.{up, down, round}
use Rattle.scope.specs.Floats.{◌⊗◌, whole}

-- the value of a format that is nearest to x, "ties to even"; a NaN stays one, and so does an infinity
unfoldable pub nearest_of : Format → Float → Float
nearest_of f nan = nan
nearest_of f (inf s) = inf s
nearest_of f (fin s m e) = round f s (m * up e) (down e)

-- "f64 to nearest f32"
abbrev pub to_f32 : Float → Float
to_f32 x = nearest_of binary32 x

-- "truncation .. to a whole number, of an f64 from 0 to below 2^32": x without its fraction. fin s m e is m times up e / down e
unfoldable pub truncation : Float → ℕ
truncation nan = 0
truncation (inf s) = 0
truncation (fin true m e) = 0
truncation (fin false m e) = m * up e / down e

-- a fraction, rounded up to a whole number
unfoldable pub ceil_div : ℕ → ℕ → ℕ
ceil_div a b = (a + (b - 1)) / b

-- "ceiling": the least whole number that is not below x
unfoldable pub ceiling : Float → ℕ
unfolding ceil_div
ceiling nan = 0
ceiling (inf s) = 0
ceiling (fin true m e) = 0
ceiling (fin false m e) = ceil_div (m * up e) (down e)

-- "m from a relative length r is the ceiling of the f64 product r*n"
unfoldable pub minimal_length : Float → ℕ → ℕ
minimal_length r n = ceiling (r ⊗ whole n)

-- "whole square root": the greatest k with k*k at most L
unfoldable pub whole_root : ℕ → ℕ
whole_root zero = 0
whole_root (suc l) = let k = whole_root l in cond (leb ((k + 1) * (k + 1)) (suc l)) (k + 1) k
