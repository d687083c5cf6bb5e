-- Truncation and ceiling of a value in range: the greatest whole number that is not above it, and the least that is not below it, in either format. Assumes nothing.
use Rattle.std.proofs.Common.{◌≡◌, ℕ, zero, suc, ◌+◌, ◌-◌, ◌*◌, ◌/◌, ◌^◌, ◌<◌, ◌≤◌, true, false, not, T, ltb, ◌↔◌, ℤ, pos, sym, refl, ap, ◌∙◌, true≢false, le_trans, le_refl, le_of_suc-le-suc, zero-lt-suc, suc-mul, div-lt_iff_lt-mul, add-mul, mul-pos, le-div_iff_mul-le, zero-add, zero-mul, mul-one, le_of_mul-le-mul_right, arith, lt→ltb, ltb-false, ltb-true, le-ltb}
use mathlib.Core.Logic.Iff
use mathlib.Core.Bool.{false≢true}
use native.Mathlib.Nat.{zero-div, div-eq_of_lt, lt-div-mul-add}
use lib.Ieee.{Float, nan, inf, fin, Format, binary64, prec, up, down, round, lt, le, of_int, to_unsigned, is_nan}
use lib.Ieee.Fits.{up_pos, down_pos}
use lib.Ieee.Positive.{num, den, den_pos}
use Rattle.scope.specs.Floats.{+0}
use Rattle.scope.specs.Rounding.{truncation, ceiling, ceil_div}
use Rattle.rounding.specs.Range.{in_range}
use Rattle.rounding.proofs.Order.{at_most_not}
use Rattle.rounding.proofs.Values.{Valued, valued, whole_value, lt_values}

-- in range: -0, or finite, not negative and below 2 ^ 32
pub data Ranged : Float → Type 0 where
  minus : (e : ℤ) → Ranged (fin true 0 e)
  size : (m : ℕ) (e : ℤ) → m * up e < 4294967296 * down e → Ranged (fin false m e)

pub ranged : (x : Float) → in_range x → Ranged x
unfolding le lt
ranged nan h = absurd (false≢true h.0)
ranged (inf true) h = absurd (false≢true h.0)
ranged (inf false) h = absurd (false≢true h.1)
ranged (fin true zero e) h = minus e
ranged (fin true (suc m) e) h =
    let p = mul-pos (zero-lt-suc m) (up_pos e) in
    let q = at_most_not +0 (fin true (suc m) e) refl refl h.0 in
    absurd (omega (arith, ltb-false))
ranged (fin false m e) h = size m e (omega (arith, ltb-true))

-- what std's truncation asks
pub asked : {x : Float} → Ranged x → T (lt (fin true 1 (pos 0)) x) × T (lt x (fin false 1 (pos 64)))
unfolding lt
asked (minus e) = let d = down_pos e in omega (arith, lt→ltb)
asked (size m e r) = let d = down_pos e in omega (arith, lt→ltb)

no_nan : {x : Float} → Ranged x → T (not (is_nan x))
unfolding is_nan
no_nan (minus e) = tt
no_nan (size m e r) = tt

-- what it gives is the truncation
pub truncated : {x : Float} → Ranged x → (to_unsigned 64 x ≡ truncation x) × (truncation x < 4294967296)
unfolding to_unsigned truncation
truncated (minus e) = (refl, zero-lt-suc _)
truncated (size m e r) = let h = (div-lt_iff_lt-mul (down_pos e)).1 r in (omega arith, omega arith)

-- the fraction that x is, cut and rounded up
truncation_is : {x : Float} → Ranged x → truncation x ≡ num x / den x
unfolding truncation
truncation_is (minus e) = sym (ap (λ (a : ℕ). a / down e) (zero-mul (up e)) ∙ zero-div (down e))
truncation_is (size m e r) = refl

ceiling_is : {x : Float} → Ranged x → ceiling x ≡ ceil_div (num x) (den x)
unfolding ceiling ceil_div
ceiling_is (minus e) = let d = down_pos e in sym (div-eq_of_lt (omega (arith, zero-mul (up e))))
ceiling_is (size m e r) = refl

-- ONE FACT OVER THE FORMAT: a whole number n, as a float w, is below x or above it as n is below or above the fraction that x is
below_x : {x w : Float} {n : ℕ} → Valued n 1 w → Ranged x → lt w x ≡ ltb (n * den x) (num x)
unfolding lt
below_x {n = n} (valued k g v) (minus e) = sym (le-ltb (n * down e) (0 * up e) (omega arith))
below_x {n = n} v (size m e r) = lt_values (zero-lt-suc 0) (down_pos e) v (valued m e refl) ∙ ap (ltb (n * down e)) (mul-one (m * up e))

above_x : {x w : Float} {n : ℕ} → Valued n 1 w → Ranged x → lt x w ≡ ltb (num x) (n * den x)
unfolding lt
above_x (valued k g v) (minus e) = simp (zero-mul, zero-add) (simp zero-mul at (lt_values (down_pos e) (zero-lt-suc 0) (valued 0 e refl) (valued k g v)))
above_x {n = n} v (size m e r) = lt_values (down_pos e) (zero-lt-suc 0) (valued m e refl) v ∙ ap (λ (a : ℕ). ltb a (n * down e)) (mul-one (m * up e))

-- ---- the connections: each says all that there is to say of the number
pub ceil_div_least : (a b n : ℕ) → 0 < b → (ceil_div a b ≤ n) ↔ (a ≤ n * b)
unfolding ceil_div
ceil_div_least a b n B = (
  λ h. let l = (div-lt_iff_lt-mul {x = a + (b - 1)} {y = suc n} B).0 (omega arith) in omega (arith, suc-mul n b),
  λ h. le_of_suc-le-suc ((div-lt_iff_lt-mul B).1 (omega (arith, suc-mul n b))),
)

module _ (f : Format) (x : Float) (n : ℕ) (in_range_lem : in_range x) (no_gaps : n ≤ 2 ^ prec f) where
  w : Valued n 1 (of_int f (pos n))
  w = whole_value f n no_gaps

  r : Ranged x
  r = ranged x in_range_lem

  -- the greatest whole number that is not above x
  pub truncation_greatest : (n ≤ truncation x) ↔ (lt x (of_int f (pos n)) ≡ false)
  truncation_greatest = rw (truncation_is r, above_x w r) (Iff.trans (le-div_iff_mul-le (den_pos x)) (le-ltb (num x) (n * den x), ltb-false (num x) (n * den x)))

  -- the least whole number that is not below x
  pub ceiling_least : (ceiling x ≤ n) ↔ (lt (of_int f (pos n)) x ≡ false)
  ceiling_least = rw (ceiling_is r, below_x w r) (Iff.trans (ceil_div_least (num x) (den x) n (den_pos x)) (le-ltb (n * den x) (num x), ltb-false (n * den x) (num x)))

zero_is : of_int binary64 (pos 0) ≡ +0
unfolding of_int round
zero_is = refl

pub ceiling_above : (x : Float) → in_range x → lt +0 x ≡ true → 1 ≤ ceiling x
ceiling_above x h p =
    let some : ¬ (ceiling x ≤ 0) = λ l. true≢false (sym p ∙ rw zero_is at ((ceiling_least binary64 x 0 h (omega arith)).0 l)) in
    omega arith

-- the ceiling is the truncation or one more
pub truncation_ceiling : (x : Float) → in_range x → (truncation x ≤ ceiling x) × (ceiling x ≤ truncation x + 1)
truncation_ceiling x h =
    let r = ranged x h in
    let D = den_pos x in
    let low = (le-div_iff_mul-le {x = num x / den x} {y = num x} D).0 (le_refl _) in
    let up = (ceil_div_least (num x) (den x) (ceil_div (num x) (den x)) D).0 (le_refl _) in
    rw (truncation_is r, ceiling_is r) (le_of_mul-le-mul_right (le_trans low up) D, (ceil_div_least (num x) (den x) (num x / den x + 1) D).1 (omega (arith, lt-div-mul-add {a = num x} D, add-mul (num x / den x) 1 (den x))))

-- and one comparison, of the truncation t with x, tells which
module _ (f : Format) (x : Float) (t : ℕ) (in_range_lem : in_range x) (is : t ≡ truncation x) (no_gaps : t ≤ 2 ^ prec f) where
  pub ceiling_next : lt (of_int f (pos t)) x ≡ true → t + 1 ≡ ceiling x
  ceiling_next h =
      let above : ¬ (ceiling x ≤ t) = λ l. true≢false (sym h ∙ (ceiling_least f x t in_range_lem no_gaps).0 l) in
      omega (arith, truncation_ceiling x in_range_lem)

  pub ceiling_same : lt (of_int f (pos t)) x ≡ false → t ≡ ceiling x
  ceiling_same h = omega (arith, truncation_ceiling x in_range_lem, (ceiling_least f x t in_range_lem no_gaps).1 h)
