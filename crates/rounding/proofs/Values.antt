-- Values that are finite and not negative, by any fraction a / c that they equal. Assumes nothing.
use Rattle.std.proofs.Common.{◌≡◌, ℕ, suc, ◌+◌, ◌-◌, ◌*◌, ◌^◌, ◌<◌, ◌≤◌, Bool, true, false, ltb, ℤ, pos, sym, refl, ap, ◌∙◌, true≢false, lt_of_lt_of_le, mul-le-mul_right, mul_assoc, mul_comm, mul-lt-mul_of_pos_right, mul-pos, sub-add_cancel, mul_left_comm, arith, pow_pos, pow_mono, pow-add, shl_lt, ltb-false, ltb-true, le-ltb, lt-ltb}
use lib.Ieee.{Float, nan, inf, fin, Format, prec, emax, low, up, down, round, lt, of_int}
use lib.Ieee.Exact.{HasValue, round_exact}
use lib.Ieee.Back.{round_whole}
use lib.Ieee.Fits.{down_pos, reach, two, two-le_pos}
use Rattle.scope.specs.Greatest.{numeric}

pub prec_pos : (f : Format) → 0 < prec f
prec_pos f = two-le_pos (prec f) (two f)

-- a product's factors, in one order
pub ruleset products = (mul_assoc, mul_comm, mul_left_comm)

-- x is finite, not negative, and a / c
pub data Valued (a c : ℕ) : Float → Type 0 where
  valued : (m : ℕ) (e : ℤ) → m * up e * c ≡ a * down e → Valued a c (fin false m e)

pub value : {a c : ℕ} (x : Float) → HasValue x false a c → Valued a c x
value nan h = absurd h
value (inf s) h = absurd h
value (fin true m e) h = absurd (true≢false h.0)
value (fin false m e) h = valued m e h.1

pub numeric_valued : {a c : ℕ} {x : Float} → Valued a c x → numeric x ≡ true
numeric_valued (valued m e p) = refl

-- a whole number, where the format has no gaps
pub whole_value : (f : Format) (n : ℕ) → n ≤ 2 ^ prec f → Valued n 1 (of_int f (pos n))
unfolding of_int
whole_value f n h = value _ (round_whole f false n h)

-- n / 2 ^ t, if n has no more digits than the format and 1 / 2 ^ t is no smaller than its least value
pub part_value : (f : Format) (t n : ℕ) → t ≤ low f → n < 2 ^ prec f → Valued n (2 ^ t) (round f false n (2 ^ t))
part_value f t n h digits = value _ (round_exact f false n (2 ^ t) n (low f - t) (pow_pos t) digits fits same)
  where
    fits : n * 2 ^ (low f - t) < 2 ^ (low f + suc (emax f))
    fits = lt_of_lt_of_le (shl_lt (prec f) (low f - t) digits) (pow_mono (omega (arith, reach f)))

    same : n * 2 ^ low f ≡ n * 2 ^ (low f - t) * 2 ^ t
    same = rw (mul_assoc n (2 ^ (low f - t)) (2 ^ t), ← pow-add 2 (low f - t) t, sub-add_cancel h)

ltb_scale : (a b c : ℕ) → 0 < c → ltb (a * c) (b * c) ≡ ltb a b
ltb_scale a b c C = go (ltb a b) refl
  where
    go : (t : Bool) → ltb a b ≡ t → ltb (a * c) (b * c) ≡ t
    go true h = lt-ltb _ _ (mul-lt-mul_of_pos_right (ltb-true a b h) C)
    go false h = le-ltb _ _ (mul-le-mul_right c (ltb-false a b h))

-- x / p is a / c, and y / q is b / d
ltb_fractions : (x p a c y q b d : ℕ) → 0 < p → 0 < c → 0 < q → 0 < d → x * c ≡ a * p → y * d ≡ b * q → ltb (x * q) (y * p) ≡ ltb (a * d) (b * c)
ltb_fractions x p a c y q b d P C Q D h k =
    let left : x * q * (c * d) ≡ a * d * (p * q) = simp products (simp products at (ap (λ (z : ℕ). z * (q * d)) h)) in
    let right : y * p * (c * d) ≡ b * c * (p * q) = simp products (simp products at (ap (λ (z : ℕ). z * (p * c)) k)) in
    sym (ltb_scale (x * q) (y * p) (c * d) (mul-pos C D)) ∙ rw (left, right) (ltb_scale (a * d) (b * c) (p * q) (mul-pos P Q))

-- the order of two values is that of their fractions
pub lt_values : {x y : Float} {a c b d : ℕ} → 0 < c → 0 < d → Valued a c x → Valued b d y → lt x y ≡ ltb (a * d) (b * c)
unfolding lt
lt_values {a = a} {c = c} {b = b} {d = d} C D (valued m e p) (valued n g q) =
    ltb_fractions (m * up e) (down e) a c (n * up g) (down g) b d (down_pos e) C (down_pos g) D p q
