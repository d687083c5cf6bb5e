-- The bit pattern of a rounded fraction, over the format: where the format drops k digits, and q is the nearest whole number of the units of 2 ^ k that are left,
-- it is k * hid + q, and from the pattern of the infinity on the result is that. Assumes nothing.
use Rattle.std.proofs.Common.{◌≡◌, ℕ, suc, ◌+◌, ◌-◌, ◌*◌, ◌/◌, ◌%◌, ◌^◌, ◌<◌, ◌≤◌, false, ◌⊎◌, sym, refl, ap, ◌∙◌, inl, inr, ⊎_elim, le_trans, le_refl, lt_of_lt_of_le, lt_of_le_of_lt, mul-le-mul_right, suc-mul, div-lt_iff_lt-mul, add-mul, mul-le-mul, eq-or-lt_of_le, mul-lt-mul_of_pos_right, mul-pos, le-div_iff_mul-le, zero-add, not-le_of_lt, mul-div_cancel, arith, lit<, pow_pos, pow_mono, pow-add, shl_lt, le-ltb}
use mathlib.Core.Logic.{⊎_map}
use Prim.Native.Nat.{compare}
use native.Mathlib.Decide.{dec_lt}
use native.Mathlib.Nat.{mul-lt-mul_of_pos_left, pow-succ'}
use lib.Pow.{pow-lt, shl-shr}
use lib.Ieee.{Float, inf, Format, binary32, binary64, prec, emax, low, size, units, round, hid, ones, of_bits, to_bits}
use lib.Ieee.Digits.{size-lt, size-le}
use lib.Ieee.Fits.{round-fits, round_is, down_pos, nearest-le}
use lib.Ieee.Nearest.{closest, nearest-ge}
use lib.Ieee.Order.{drop}
use lib.Ieee.Scale.{grid, overflow, round_val}
use lib.Ieee.Bits.{of_bits-to_bits}
use Rattle.rounding.proofs.Values.{Valued, valued, value, prec_pos, products}

-- ---- a value that is not negative, of n units: its pattern
abbrev pattern : Format → ℕ → ℕ
pattern f n = (size n - prec f) * hid f + n / 2 ^ (size n - prec f)

to_bits_valued : (f : Format) {x : Float} {n : ℕ} → Valued n (2 ^ low f) x → to_bits f x ≡ pattern f n
unfolding to_bits
to_bits_valued f {n = n} (valued m e h) =
    rw (h, mul-div_cancel n (down_pos e)) (ap (λ (z : ℕ). z + n / 2 ^ (size n - prec f)) (zero-add ((size n - prec f) * hid f)))

-- a whole number's digits beyond the first p of them
digits_over : (n p k : ℕ) → 0 < p → n < 2 ^ (p + k) → (k ≡ 0) ⊎ (2 ^ (p - 1 + k) ≤ n) → size n - p ≡ k
digits_over n p k P h (inl z) = omega (arith, size-le n (p + k) h)
digits_over n p k P h (inr g) =
    let more : ¬ (size n ≤ p - 1 + k) = λ l. not-le_of_lt (lt_of_lt_of_le (size-lt n) (pow_mono l)) g in
    omega (arith, size-le n (p + k) h)

-- q units of 2 ^ k have all the digits that the format keeps, or k = 0
abbrev Normal : Format → ℕ → ℕ → Type 0
Normal f k q = (k ≡ 0) ⊎ (hid f ≤ q)

twice_hid : (f : Format) → 2 ^ prec f ≡ 2 * hid f
twice_hid binary32 = refl
twice_hid binary64 = refl

pattern_under : (f : Format) (k q : ℕ) → Normal f k q → q < 2 ^ prec f → pattern f (q * 2 ^ k) ≡ k * hid f + q
pattern_under f k q w h =
    let all : (k ≡ 0) ⊎ (2 ^ (prec f - 1 + k) ≤ q * 2 ^ k) = ⊎_map (λ z. z) (λ g. rw pow-add (mul-le-mul_right (2 ^ k) g)) w in
    rw (digits_over (q * 2 ^ k) (prec f) k (prec_pos f) (shl_lt (prec f) k h) all, shl-shr q k)

-- a q of one digit more is 2 * hid: the pattern is that of hid units of 2 ^ (k + 1)
pattern_is : (f : Format) (k q : ℕ) → Normal f k q → q ≤ 2 ^ prec f → pattern f (q * 2 ^ k) ≡ k * hid f + q
pattern_is f k q w h =
    elim (eq-or-lt_of_le h) [
      | inr l ↦ pattern_under f k q w l
      | inl e ↦
          let twice : q ≡ 2 * hid f = e ∙ twice_hid f in
          let same : q * 2 ^ k ≡ hid f * 2 ^ suc k = rw (twice, pow-succ') (simp products) in
          let under : hid f < 2 ^ prec f = omega (arith, twice_hid f, pow_pos (prec f - 1)) in
          rw (same, pattern_under f (suc k) (hid f) (inr (le_refl (hid f))) under) (omega (arith, suc-mul k (hid f)))
    ]

-- ---- the pattern is below the infinity's exactly if the value is below the overflow, hid * 2 ^ (2 * emax) units
module _ (h E k q : ℕ) (H : 0 < h) (P : 0 < E) (top : q ≤ 2 * h) (w : (k ≡ 0) ⊎ (h ≤ q)) where
  abbrev Against : Type 0
  Against = (k * h + q < (E + 1) * h → q * 2 ^ k < h * 2 ^ E) × ((E + 1) * h ≤ k * h + q → h * 2 ^ E ≤ q * 2 ^ k)

  next : (E + 1) * h ≡ E * h + h
  next = omega (arith, add-mul E 1 h)

  double : h * 2 ^ suc k ≡ 2 * h * 2 ^ k
  double = rw pow-succ' (simp products)

  larger : E ≤ k → Against
  larger g =
      let all : h ≤ q = ⊎_elim (λ (z : k ≡ 0). absurd (omega arith)) (λ l. l) w in
      (λ b. absurd (omega (arith, next, mul-le-mul_right h g)), λ b. mul-le-mul all (pow_mono g))

  last : suc k ≡ E → Against
  last e =
      rw (next, ← e, double)
      (λ b. mul-lt-mul_of_pos_right (omega (arith, suc-mul k h)) (pow_pos k), λ b. mul-le-mul_right (2 ^ k) (omega (arith, suc-mul k h)))

  smaller : suc k < E → Against
  smaller l = (
    λ b. lt_of_le_of_lt (mul-le-mul_right (2 ^ k) top) (rw (← double) (mul-lt-mul_of_pos_left (pow-lt l) H)),
    λ b. absurd (omega (arith, next, suc-mul (suc k) h, suc-mul k h, mul-le-mul_right h l)),
  )

  against : Against
  against = elim (dec_lt k E) [ no g ↦ larger (omega arith) | yes l ↦ elim (eq-or-lt_of_le l) [ inl e ↦ last e | inr s ↦ smaller s ] ]

overflow_is : (f : Format) → overflow f ≡ hid f * 2 ^ (2 * emax f)
overflow_is binary32 = pow-add 2 23 254
overflow_is binary64 = pow-add 2 52 2046

emax_pos : (f : Format) → 0 < 2 * emax f
emax_pos binary32 = lit< tt
emax_pos binary64 = lit< tt

-- ---- the bit pattern of a rounded fraction
module _ (f : Format) (a c k : ℕ) (C : 0 < c) (hi : a * 2 ^ low f < 2 ^ (prec f + k) * c) (lo : (k ≡ 0) ⊎ (2 ^ (prec f - 1 + k) * c ≤ a * 2 ^ low f)) where
  abbrev n : ℕ
  n = a * 2 ^ low f

  abbrev u : ℕ
  u = c * 2 ^ k

  -- what the format keeps of the fraction
  abbrev pub kept : ℕ
  kept = closest n u

  U : 0 < u
  U = mul-pos C (pow_pos k)

  dropped : drop (prec f) n c ≡ k
  dropped = digits_over (n / c) (prec f) k (prec_pos f) ((div-lt_iff_lt-mul C).1 hi) (⊎_map (λ z. z) (λ g. (le-div_iff_mul-le C).1 g) lo)

  grouped : (j : ℕ) → 2 ^ (j + k) * c ≡ 2 ^ j * u
  grouped j = rw (pow-add 2 j k) (simp products)

  normal : Normal f k kept
  normal = ⊎_map (λ z. z) (λ g. le_trans ((le-div_iff_mul-le U).1 (rw (← grouped (prec f - 1)) g)) (nearest-ge (n / u) (compare (n % u * 2) u))) lo

  at_most : kept ≤ 2 * hid f
  at_most = rw (← twice_hid f) (le_trans (nearest-le (n / u) (compare (n % u * 2) u)) ((div-lt_iff_lt-mul U).1 (rw (← grouped (prec f)) hi)))

  grid_is : grid f a c ≡ kept * 2 ^ k
  grid_is = rw dropped

  bounds : (k * hid f + kept < ones f * hid f → kept * 2 ^ k < overflow f) × (ones f * hid f ≤ k * hid f + kept → overflow f ≤ kept * 2 ^ k)
  bounds = rw (overflow_is f) (against (hid f) (2 * emax f) k kept (pow_pos (prec f - 1)) (emax_pos f) at_most normal)

  pub round_bits : k * hid f + kept < ones f * hid f → of_bits f (k * hid f + kept) ≡ round f false a c
  round_bits b =
      let v = value (round f false a c) (round_val f a c (rw grid_is (bounds.0 b))) in
      let pattern_of : to_bits f (round f false a c) ≡ k * hid f + kept = to_bits_valued f v ∙ ap (pattern f) grid_is ∙ pattern_is f k kept normal (rw twice_hid at_most) in
      ap (of_bits f) (sym pattern_of) ∙ of_bits-to_bits f (round f false a c) (round-fits f false a c)

  pub round_overflows : ones f * hid f ≤ k * hid f + kept → inf false ≡ round f false a c
  unfolding units
  round_overflows b = rw (round_is f false a c, dropped, le-ltb (kept * 2 ^ k) (overflow f) (bounds.1 b))
