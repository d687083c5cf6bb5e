-- The least length from a relative one: r * n is in range, and its ceiling from 1 to 2048. Assumes nothing.
use Rattle.std.proofs.Common.{◌≡◌, ℕ, ◌*◌, ◌^◌, ◌<◌, ◌≤◌, true, false, T, pos, refl, ◌∙◌, le_trans, le_refl, mul-le-mul_right, zero-lt-suc, mul-le-mul, mul-pos, le-mul_of_pos_right, arith, lit<, pow_pos, ltb-true, lt-ltb}
use mathlib.Core.Bool.{false≢true}
use lib.Pow.{pow-lt}
use lib.Ieee.{Float, nan, inf, fin, Format, binary64, low, up, down, round, mul, lt, le, fits}
use lib.Ieee.Bits.{is_true}
use lib.Ieee.Fits.{down_pos, up_pos}
use lib.Ieee.Order.{round_mono}
use lib.Ieee.Positive.{first_pos}
use Rattle.scope.specs.Floats.{◌⊗◌, whole, +0, half}
use Rattle.scope.specs.Rounding.{minimal_length}
use Rattle.scope.specs.Greatest.{numeric}
use Rattle.scope.proofs.Order.{lt_co}
use Rattle.scope.proofs.Finite.{held}
use Rattle.rounding.specs.Range.{in_range}
use Rattle.rounding.proofs.Order.{at_most_not}
use Rattle.rounding.proofs.Values.{Valued, valued, part_value, lt_values, whole_value, numeric_valued, prec_pos, products}
use Rattle.rounding.proofs.Whole.{ceiling_above}
use Rattle.rounding.proofs.Within.{Within, within, within_whole, within_mul, in_range_lem, ceiling_within}

-- ---- "strictly between 0 and 0.5"
relative_within : (r : Float) → lt +0 r ≡ true → lt r half ≡ true → Within 2 0 1 r
unfolding lt
relative_within nan h k = absurd (false≢true h)
relative_within (inf true) h k = absurd (false≢true h)
relative_within (inf false) h k = absurd (false≢true k)
relative_within (fin true m e) h k = absurd (false≢true h)
relative_within (fin false m e) h k = within m e (omega arith) (omega (arith, ltb-true))

-- ---- what is no less than the format's least value, 1 / 2 ^ low, does not round to zero
numeric_from : {a c : ℕ} {l : Float} → Valued a c l → (x : Float) → T (le l x) → numeric x ≡ true
unfolding le
numeric_from (valued m e p) nan s = absurd s
numeric_from (valued m e p) (inf t) s = refl
numeric_from (valued m e p) (fin t n d) s = refl

round_above : (f : Format) (a b : ℕ) → 0 < b → b ≤ a * 2 ^ low f → lt +0 (round f false a b) ≡ true
round_above f a b B h =
    let x = round f false a b in
    let l = round f false 1 (2 ^ low f) in
    let vl = part_value f (low f) 1 (le_refl (low f)) (pow-lt {i = 0} (prec_pos f)) in
    let s = round_mono f 1 (2 ^ low f) a b (pow_pos (low f)) B (omega arith) in
    let above : lt +0 l ≡ true = lt_values {a = 0} (zero-lt-suc 0) (pow_pos (low f)) (valued 0 (pos 0) refl) vl ∙ lt-ltb (0 * 2 ^ low f) (1 * 1) (omega arith) in
    lt_co +0 x l (numeric_from vl x s) above (at_most_not l x (numeric_valued vl) (numeric_from vl x s) (is_true _ s))

no_smaller : (x y p q w : ℕ) → 0 < x → p ≤ w → q ≤ y → p * q ≤ x * y * w
no_smaller x y p q w X h i = le_trans (mul-le-mul h i) (simp products (simp products at (le-mul_of_pos_right (w * y) X)))

-- a value of the format, times a whole number
mul_above : (f : Format) {k lo hi n : ℕ} {x y : Float} → Within k lo hi x → T (fits f x) → lt +0 x ≡ true → Valued n 1 y → 1 ≤ n → lt +0 (mul f x y) ≡ true
unfolding mul lt
mul_above f (within m e p q) F P (valued i g v) N =
    let M = first_pos m (up e) (omega (arith, ltb-true)) in
    let N' : down g ≤ i * up g = omega (arith, mul-le-mul_right (down g) N) in
    round_above f (m * up e * (i * up g)) (down e * down g) (mul-pos (down_pos e) (down_pos g)) (no_smaller (m * up e) (i * up g) (down e) (down g) (2 ^ low f) (mul-pos M (up_pos e)) (held f false m e (is_true _ F)).lowest N')

-- ---- "the ceiling of the f64 product r*n"
module _ (r : Float) (n : ℕ) (above : lt +0 r ≡ true) (below : lt r half ≡ true) (rows : n ≤ 4096) where
  product_within : Within 1 0 2048 (r ⊗ whole n)
  product_within = within_mul binary64 0 (relative_within r above below) (within_whole binary64 n (omega arith)) (lit< tt) (lit< tt) (omega arith) (omega arith) (omega arith) (lit< tt)

  pub minimal_length_range : in_range (r ⊗ whole n)
  minimal_length_range = in_range_lem product_within (lit< tt)

  -- the product is not zero, for an `f64` r and an n of 1 or more
  pub minimal_length_least : T (fits binary64 r) → 1 ≤ n → 1 ≤ minimal_length r n
  unfolding minimal_length
  minimal_length_least held some =
      ceiling_above (r ⊗ whole n) minimal_length_range (mul_above binary64 (relative_within r above below) held above (whole_value binary64 n (omega arith)) some)

  pub minimal_length_most : minimal_length r n ≤ 2048
  unfolding minimal_length
  minimal_length_most = (ceiling_within product_within).1
