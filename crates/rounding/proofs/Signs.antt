-- The nearest `f32` of what is not above zero: a NaN, a zero, and what is below zero. Assumes nothing.
use Rattle.std.proofs.Common.{◌≡◌, zero, suc, ◌*◌, ◌^◌, Bool, true, false, not, ◌&&◌, T, ℤ, pos, negsuc, refl, ap, true≢false, zero-lt-suc, mul-pos, arith, eqb→eq, pow_pos, ltb-false, ltb-true, lt-ltb}
use mathlib.Core.Bool.{false≢true}
use native.Mathlib.Nat.{pow-succ'}
use lib.Ieee.{Float, nan, inf, fin, Format, binary32, up, down, round, neg, lt, fits, is_nan}
use lib.Ieee.Fits.{up_pos}
use Rattle.scope.specs.Floats.{+0}
use Rattle.scope.specs.Rounding.{nearest_of, to_f32}
use Rattle.scope.proofs.Negated.{neg_round}

pub nearest_nan : (x : Float) → is_nan x ≡ true → nan ≡ to_f32 x
unfolding nearest_of is_nan
nearest_nan nan h = refl
nearest_nan (inf s) h = absurd (false≢true h)
nearest_nan (fin s m e) h = absurd (false≢true h)

-- ---- below zero: the negative of what the negative rounds to
pub negative_above : (x : Float) → lt x +0 ≡ true → lt +0 (neg x) ≡ true
unfolding lt neg
negative_above nan h = absurd (false≢true h)
negative_above (inf true) h = refl
negative_above (inf false) h = absurd (false≢true h)
negative_above (fin true m e) h = lt-ltb (0 * down e) (m * up e * 1) (omega (arith, ltb-true))
negative_above (fin false m e) h = absurd (omega (arith, ltb-true))

pub nearest_negative : (f : Format) (x : Float) → neg (nearest_of f (neg x)) ≡ nearest_of f x
unfolding nearest_of neg
nearest_negative f nan = refl
nearest_negative f (inf true) = refl
nearest_negative f (inf false) = refl
nearest_negative f (fin s m e) = neg_round f s (m * up e) (down e)

-- ---- a zero, as it is
zero_exponent : (f : Format) (s : Bool) (e : ℤ) → T (fits f (fin s 0 e)) → e ≡ pos 0
unfolding fits
zero_exponent f s (pos zero) t = refl
zero_exponent f s (pos (suc k)) t = absurd (omega (arith, eqb→eq (2 ^ suc k * 1) 1 t, pow-succ' 2 k, pow_pos k))
zero_exponent f s (negsuc k) t = absurd (omega (arith, eqb→eq (1 * 2 ^ suc k) 1 t, pow-succ' 2 k, pow_pos k))

-- what is no NaN, and neither above zero nor below it
pub is_zero : (f : Format) (x : Float) → T (fits f x) → is_nan x ≡ false → lt +0 x ≡ false → lt x +0 ≡ false → (s : Bool) × (x ≡ fin s 0 (pos 0))
unfolding lt is_nan
is_zero f nan t n a b = absurd (true≢false n)
is_zero f (inf true) t n a b = absurd (true≢false b)
is_zero f (inf false) t n a b = absurd (true≢false a)
is_zero f (fin s zero e) t n a b = (s, ap (fin s 0) (zero_exponent f s e t))
is_zero f (fin true (suc m) e) t n a b = let p = mul-pos (zero-lt-suc m) (up_pos e) in absurd (omega (arith, ltb-false))
is_zero f (fin false (suc m) e) t n a b = let p = mul-pos (zero-lt-suc m) (up_pos e) in absurd (omega (arith, ltb-false))

pub nearest_zero : (s : Bool) → fin s 0 (pos 0) ≡ to_f32 (fin s 0 (pos 0))
unfolding nearest_of round
nearest_zero s = refl

pub zero_narrow : (s : Bool) → T (fits binary32 (fin s 0 (pos 0)) && not (is_nan (fin s 0 (pos 0))))
unfolding fits is_nan
zero_narrow s = tt
