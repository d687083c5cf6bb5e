-- Bounds of a value, and how they go through rounding and the operations, in either format. Assumes nothing.
use Rattle.std.proofs.Common.{ℕ, ◌+◌, ◌-◌, ◌*◌, ◌^◌, ◌<◌, ◌≤◌, true, false, not, T, ℤ, pos, sym, refl, ap, ◌∙◌, le_trans, le_of_eq, le_refl, lt_of_lt_of_le, lt_of_le_of_lt, mul-le-mul_right, zero-lt-suc, mul_comm, add-mul, mul-le-mul, mul-lt-mul_of_pos_right, mul-pos, ne_of_gt, le-div_iff_mul-le, mul-one, le_of_mul-le-mul_right, arith, pow_pos, ltb-false, le-ltb, lt-ltb, ne_eqb}
use native.Mathlib.Nat.{div-le_of_le-mul, mul-sub}
use lib.Ieee.{Float, nan, inf, fin, Format, prec, low, up, down, round, mul, sub, div, lt, le, of_int}
use lib.Ieee.Bits.{is_true}
use lib.Ieee.Fits.{down_pos}
use lib.Ieee.Order.{round_mono}
use lib.Ieee.Positive.{first_pos, through}
use lib.Ieee.Scale.{finite, round_val, round_under}
use Rattle.scope.specs.Floats.{+0}
use Rattle.scope.specs.Rounding.{nearest_of, truncation, ceiling, ceil_div}
use Rattle.rounding.specs.Range.{in_range}
use Rattle.rounding.proofs.Order.{le_not_lt, at_most_not}
use Rattle.rounding.proofs.Values.{Valued, valued, value, part_value, lt_values, numeric_valued, products}
use Rattle.rounding.proofs.Whole.{ceil_div_least}

-- x is finite and not negative, and k * x lies from lo to hi
pub data Within (k lo hi : ℕ) : Float → Type 0 where
  within : (m : ℕ) (e : ℤ) → lo * down e ≤ m * up e * k → m * up e * k ≤ hi * down e → Within k lo hi (fin false m e)

-- ---- rounding, to a format that holds the bounds: what lies between them rounds to what lies between them
between_finite : {a c b d : ℕ} {l h : Float} → Valued a c l → Valued b d h → (x : Float) → T (le l x) → T (le x h) → T (finite x)
unfolding le
between_finite (valued m e p) (valued n g q) nan s t = s
between_finite (valued m e p) (valued n g q) (inf true) s t = s
between_finite (valued m e p) (valued n g q) (inf false) s t = t
between_finite (valued m e p) (valued n g q) (fin u k d) s t = tt

between_within : {k lo hi a c : ℕ} {l h x : Float} → 0 < k → Valued lo k l → Valued hi k h → Valued a c x → T (le l x) → T (le x h) → Within k lo hi x
between_within {l = l} {h = h} K vl vh (valued m e p) s t =
    let x = fin false m e in
    let above = lt_values (down_pos e) K (valued m e refl) vl in
    let below = lt_values K (down_pos e) vh (valued m e refl) in
    within m e (ltb-false _ _ (sym above ∙ at_most_not l x (numeric_valued vl) refl (is_true _ s))) (ltb-false _ _ (sym below ∙ at_most_not x h refl (numeric_valued vh) (is_true _ t)))

pub within_round : (f : Format) (t a b : ℕ) {lo hi : ℕ} → 0 < b → t ≤ low f → lo * b ≤ a * 2 ^ t → a * 2 ^ t ≤ hi * b → hi < 2 ^ prec f → Within (2 ^ t) lo hi (round f false a b)
within_round f t a b {lo} {hi} B room p q digits =
    let x = round f false a b in
    let vl = part_value f t lo room (lt_of_le_of_lt (le_of_mul-le-mul_right (le_trans p q) B) digits) in
    let vh = part_value f t hi room digits in
    let s = round_mono f lo (2 ^ t) a b (pow_pos t) B p in
    let u = round_mono f a b hi (2 ^ t) B (pow_pos t) q in
    between_within (pow_pos t) vl vh (value x (round_val f a b (round_under f a b (between_finite vl vh x s u)))) s u

pub within_nearest : (f : Format) {lo hi : ℕ} {x : Float} → Within 1 lo hi x → hi < 2 ^ prec f → Within 1 lo hi (nearest_of f x)
unfolding nearest_of
within_nearest f (within m e p q) digits = within_round f 0 (m * up e) (down e) (down_pos e) (omega arith) p q digits

-- n, in parts of 1 / 2 ^ t and whole
pub within_parts : (f : Format) (t n : ℕ) → t ≤ low f → n * 2 ^ t < 2 ^ prec f → Within (2 ^ t) (n * 2 ^ t) (n * 2 ^ t) (of_int f (pos n))
unfolding of_int
within_parts f t n room digits = within_round f t n 1 (zero-lt-suc 0) room (omega arith) (omega arith) digits

pub within_whole : (f : Format) (n : ℕ) → n < 2 ^ prec f → Within 1 n n (of_int f (pos n))
within_whole f n digits = rw mul-one at (within_parts f 0 n (omega arith) (omega arith))

-- ---- the operations, rounded
-- x / p and y / q are from a / k and c / l on, and so their product from lo / w on; and up to
product_low : (x p k y q l a c lo w : ℕ) → 0 < k → 0 < l → a * p ≤ x * k → c * q ≤ y * l → lo * (k * l) ≤ a * c * w → lo * (p * q) ≤ x * y * w
product_low x p k y q l a c lo w K L h i j =
    le_of_mul-le-mul_right {k = k * l} (simp products (le_trans (simp products at (mul-le-mul_right (p * q) j)) (simp products at (mul-le-mul_right w (mul-le-mul h i))))) (mul-pos K L)

product_high : (x p k y q l b d hi w : ℕ) → 0 < k → 0 < l → x * k ≤ b * p → y * l ≤ d * q → b * d * w ≤ hi * (k * l) → x * y * w ≤ hi * (p * q)
product_high x p k y q l b d hi w K L h i j =
    le_of_mul-le-mul_right {k = k * l} (simp products (le_trans (simp products at (mul-le-mul_right w (mul-le-mul h i))) (simp products at (mul-le-mul_right (p * q) j)))) (mul-pos K L)

pub within_mul : (f : Format) (t : ℕ) {k a b l c d lo hi : ℕ} {x y : Float} → Within k a b x → Within l c d y → 0 < k → 0 < l → t ≤ low f
    → lo * (k * l) ≤ a * c * 2 ^ t → b * d * 2 ^ t ≤ hi * (k * l) → hi < 2 ^ prec f → Within (2 ^ t) lo hi (mul f x y)
unfolding mul
within_mul f t {k} {a} {b} {l} {c} {d} {lo} {hi} (within m e p q) (within n g r s) K L room low high digits =
    within_round f t (m * up e * (n * up g)) (down e * down g) (mul-pos (down_pos e) (down_pos g)) room
    (product_low (m * up e) (down e) k (n * up g) (down g) l a c lo (2 ^ t) K L p r low)
    (product_high (m * up e) (down e) k (n * up g) (down g) l b d hi (2 ^ t) K L q s high)
    digits

-- x / y is x times the fraction that 1 / y is
pub within_div : (f : Format) (t : ℕ) {k a b l c d lo hi : ℕ} {x y : Float} → Within k a b x → Within l c d y → 0 < k → 0 < c → t ≤ low f
    → lo * (k * d) ≤ a * l * 2 ^ t → b * l * 2 ^ t ≤ hi * (k * c) → hi < 2 ^ prec f → Within (2 ^ t) lo hi (div f x y)
unfolding div
within_div f t {k} {a} {b} {l} {c} {d} {lo} {hi} (within m e p q) (within n g r s) K C room low high digits =
    let y-pos = first_pos (n * up g) l (lt_of_lt_of_le (mul-pos C (down_pos g)) r) in
    let n_pos = first_pos n (up g) y-pos in
    let D = lt_of_lt_of_le C (le_of_mul-le-mul_right (le_trans r s) (down_pos g)) in
    rw (ne_eqb n 0 (ne_of_gt n_pos), mul_comm (n * up g) (down e))
    (within_round f t (m * up e * down g) (down e * (n * up g)) (mul-pos (down_pos e) y-pos) room
    (product_low (m * up e) (down e) k (down g) (n * up g) d a l lo (2 ^ t) K D p (rw (mul_comm l, mul_comm (down g) d) s) low)
    (product_high (m * up e) (down e) k (down g) (n * up g) c b l hi (2 ^ t) K C q (rw (mul_comm l, mul_comm (down g) c) r) high)
    digits)

-- a difference that does not go below 0
difference_high : (x p y q b c hi w : ℕ) → x * w ≤ b * p → c * q ≤ y * w → b ≤ hi + c → (x * q - y * p) * w ≤ hi * (p * q)
difference_high x p y q b c hi w h i j =
    let u = simp products at (mul-le-mul_right q h) in
    let v = simp products at (mul-le-mul_right p i) in
    let z = simp products at (rw (add-mul hi c (p * q)) at (mul-le-mul_right (p * q) j)) in
    rw (mul_comm (x * q - y * p) w, mul-sub w) (simp products (omega arith))

pub within_sub : (f : Format) (t : ℕ) {a b c d hi : ℕ} {x y : Float} → Within (2 ^ t) a b x → Within (2 ^ t) c d y → t ≤ low f → d ≤ a → b ≤ hi + c → hi < 2 ^ prec f → Within (2 ^ t) 0 hi (sub f x y)
unfolding sub
within_sub f t {a} {b} {c} {d} {hi} (within m e p q) (within n g r s) room h high digits =
    let y≤x : n * up g * down e ≤ m * up e * down g = through (n * up g) d (m * up e) (down g) (2 ^ t) (down e) (pow_pos t) s (le_trans (mul-le-mul_right (down e) h) p) in
    rw (le-ltb (m * up e * down g) (n * up g * down e) y≤x)
    (within_round f t (m * up e * down g - n * up g * down e) (down e * down g) (mul-pos (down_pos e) (down_pos g)) room (omega arith) (difference_high (m * up e) (down e) (n * up g) (down g) b c hi (2 ^ t) q r high) digits)

-- ---- what bounds tell
pub in_range_lem : {lo hi : ℕ} {x : Float} → Within 1 lo hi x → hi < 4294967296 → in_range x
unfolding lt
in_range_lem (within m e p q) h =
    let not_below : 0 * down e ≤ m * up e * 1 = omega arith in
    (le_not_lt +0 (fin false m e) refl refl ∙ ap not (le-ltb _ _ not_below), lt-ltb _ _ (lt_of_le_of_lt q (mul-lt-mul_of_pos_right h (down_pos e))))

pub truncation_within : {lo hi : ℕ} {x : Float} → Within 1 lo hi x → (lo ≤ truncation x) × (truncation x ≤ hi)
unfolding truncation
truncation_within {lo} {hi} (within m e p q) = ((le-div_iff_mul-le (down_pos e)).1 (omega arith), div-le_of_le-mul (down e) (omega (arith, mul_comm hi (down e))))

pub ceiling_within : {lo hi : ℕ} {x : Float} → Within 1 lo hi x → (lo ≤ ceiling x) × (ceiling x ≤ hi)
unfolding ceiling
ceiling_within {lo} {hi} (within m e p q) =
    let least = ceil_div_least (m * up e) (down e) in
    (le_of_mul-le-mul_right (le_trans p (le_trans (le_of_eq (mul-one (m * up e))) ((least (ceil_div (m * up e) (down e)) (down_pos e)).0 (le_refl _)))) (down_pos e), (least hi (down_pos e)).1 (omega arith))
