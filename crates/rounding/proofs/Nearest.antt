-- An `f64` above zero to the nearest `f32`, from its bit pattern: its exponent's field E, and its 53 digits D. Assumes nothing.
use Rattle.std.proofs.Common.{◌≡◌, ℕ, suc, ◌+◌, ◌-◌, ◌*◌, ◌^◌, ◌<◌, ◌≤◌, false, ◌⊎◌, sym, refl, ap, ◌∙◌, inl, inr, le_trans, lt_of_lt_of_le, mul-le-mul_right, mul_assoc, mul-pos, zero-mul, arith, lit≤, pow_pos, pow_mono, pow-add, shl_lt}
use native.Mathlib.Decide.{dec_lt}
use lib.Ieee.{Float, inf, Format, binary32, binary64, prec, low, up, down, round, hid, ones, of_bits}
use lib.Ieee.Fits.{down_pos}
use lib.Ieee.Nearest.{closest, closest_same}
use lib.Ieee.Scale.{round_same}
use Rattle.scope.specs.Rounding.{nearest_of, to_f32}
use Rattle.rounding.proofs.Values.{Valued, valued}
use Rattle.rounding.proofs.Pattern.{round_bits, round_overflows}
use Rattle.rounding.proofs.Quotient.{closest_zero}
use Rattle.rounding.proofs.Digits.{Read, infinite, subnormal, normal}

-- rounding sees only the value
nearest_valued : (f : Format) {x : Float} {a c : ℕ} → 0 < c → Valued a c x → round f false a c ≡ nearest_of f x
unfolding nearest_of
nearest_valued f {a = a} {c = c} C (valued m e h) = round_same f false a c (m * up e) (down e) C (down_pos e) (sym h)

-- less than half a unit rounds to zero
vanishes : (f : Format) (a c : ℕ) → 0 < c → a * 2 ^ low f * 2 < c → of_bits f 0 ≡ round f false a c
vanishes f a c C h =
    let n = a * 2 ^ low f in
    let none : closest n (c * 2 ^ 0) ≡ 0 = closest_zero n (c * 2 ^ 0) (omega arith) in
    let hi : n < 2 ^ (prec f + 0) * c = omega (arith, mul-le-mul_right c (pow_pos (prec f + 0))) in
    let zero_bits : 0 * hid f + 0 < ones f * hid f = omega (arith, mul-pos {m = ones f} (omega arith) (pow_pos (prec f - 1))) in
    let bits : of_bits f (0 * hid f + closest n (c * 2 ^ 0)) ≡ round f false a c = round_bits f a c 0 C hi (inl refl) (rw none zero_bits) in
    rw (none, zero-mul) at bits

-- ---- d * 2 ^ j / 2 ^ M in units of 1 / 2 ^ L, k digits of which are dropped: the powers of two add up
module _ (d j L k M : ℕ) where
  scaled_closest : (s : ℕ) → j + L + s ≡ M + k → closest (d * 2 ^ j * 2 ^ L) (2 ^ M * 2 ^ k) ≡ closest d (2 ^ s)
  scaled_closest s e =
      closest_same (d * 2 ^ j * 2 ^ L) (2 ^ M * 2 ^ k) d (2 ^ s) (mul-pos (pow_pos M) (pow_pos k)) (pow_pos s)
      (rw (mul_assoc d (2 ^ j) (2 ^ L), ← pow-add 2 j L, mul_assoc d (2 ^ (j + L)) (2 ^ s), ← pow-add 2 (j + L) s, e, pow-add 2 M k))

  scaled_high : (w p : ℕ) → d < 2 ^ w → w + (j + L) ≤ p + k + M → d * 2 ^ j * 2 ^ L < 2 ^ (p + k) * 2 ^ M
  scaled_high w p h l = rw (mul_assoc d (2 ^ j) (2 ^ L), ← pow-add 2 j L, ← pow-add 2 (p + k) M) (lt_of_lt_of_le (shl_lt w (j + L) h) (pow_mono l))

  scaled_low : (w p : ℕ) → 2 ^ w ≤ d → p + k + M ≤ w + (j + L) → 2 ^ (p + k) * 2 ^ M ≤ d * 2 ^ j * 2 ^ L
  scaled_low w p h l = rw (mul_assoc d (2 ^ j) (2 ^ L), ← pow-add 2 j L, ← pow-add 2 (p + k) M) (le_trans (pow_mono l) (rw (pow-add 2 w (j + L)) (mul-le-mul_right (2 ^ (j + L)) h)))

-- ---- of an x with the field E and the digits t: what the code does
module _ {x : Float} {E t : ℕ} (r : Read binary64 E t x) (t-below : t < 2 ^ 52) where
  abbrev D : ℕ
  D = 2 ^ 52 + t

  D_below : D < 2 ^ 53
  D_below = omega arith

  half : (a w : ℕ) → a < 2 ^ w → w + 149 + 1 ≤ 1074 → a * 2 ^ 149 * 2 < 2 ^ 1074
  half a w h l = lt_of_lt_of_le (shl_lt (w + 149) 1 (shl_lt w 149 h)) (pow_mono l)

  pub narrow_zero : E < 873 → of_bits binary32 0 ≡ to_f32 x
  narrow_zero h =
      elim r [
        | infinite e i ↦ absurd (omega arith)
        | subnormal e v ↦ vanishes binary32 t (2 ^ 1074) (pow_pos 1074) (half t 52 t-below (lit≤ tt)) ∙ nearest_valued binary32 (pow_pos 1074) v
        | normal j e v ↦ vanishes binary32 (D * 2 ^ j) (2 ^ 1074) (pow_pos 1074) (half (D * 2 ^ j) (53 + j) (shl_lt 53 j D_below) (omega arith)) ∙ nearest_valued binary32 (pow_pos 1074) v
      ]

  -- what is kept of the digits: the unit doubles with each step below the normal values
  abbrev q : ℕ
  q = closest D (2 ^ 29 * 2 ^ (897 - E))

  module _ (j : ℕ) (e : E ≡ suc j) (v : Valued (D * 2 ^ j) (2 ^ 1074) x) where
    abbrev k : ℕ
    k = E - 897

    kept_is : closest (D * 2 ^ j * 2 ^ 149) (2 ^ 1074 * 2 ^ k) ≡ q
    kept_is = scaled_closest D j 149 k 1074 (29 + (897 - E)) (omega arith) ∙ ap (closest D) (pow-add 2 29 (897 - E))

    hi : D * 2 ^ j * 2 ^ 149 < 2 ^ (24 + k) * 2 ^ 1074
    hi = scaled_high D j 149 k 1074 53 24 D_below (omega arith)

    lo : (k ≡ 0) ⊎ (2 ^ (23 + k) * 2 ^ 1074 ≤ D * 2 ^ j * 2 ^ 149)
    lo = elim (dec_lt E 897) [ yes l ↦ inl (omega arith) | no g ↦ inr (scaled_low D j 149 k 1074 52 23 (omega arith) (omega arith)) ]

    usual_bits : k * 2 ^ 23 + q < 255 * 2 ^ 23 → of_bits binary32 (k * 2 ^ 23 + q) ≡ to_f32 x
    usual_bits h = rw (← kept_is) (round_bits binary32 (D * 2 ^ j) (2 ^ 1074) k (pow_pos 1074) hi lo (rw kept_is h)) ∙ nearest_valued binary32 (pow_pos 1074) v

    usual_infinite : 255 * 2 ^ 23 ≤ k * 2 ^ 23 + q → inf false ≡ to_f32 x
    usual_infinite h = round_overflows binary32 (D * 2 ^ j) (2 ^ 1074) k (pow_pos 1074) hi lo (rw kept_is h) ∙ nearest_valued binary32 (pow_pos 1074) v

  pub narrow_bits : 873 ≤ E → (E - 897) * 2 ^ 23 + q < 255 * 2 ^ 23 → of_bits binary32 ((E - 897) * 2 ^ 23 + q) ≡ to_f32 x
  narrow_bits g h = elim r [ infinite e i ↦ absurd (omega arith) | subnormal e v ↦ absurd (omega arith) | normal j e v ↦ usual_bits j e v h ]

  pub narrow_infinite : 873 ≤ E → 255 * 2 ^ 23 ≤ (E - 897) * 2 ^ 23 + q → inf false ≡ to_f32 x
  unfolding nearest_of
  narrow_infinite g h = elim r [ infinite e i ↦ rw i | subnormal e v ↦ absurd (omega arith) | normal j e v ↦ usual_infinite j e v h ]
