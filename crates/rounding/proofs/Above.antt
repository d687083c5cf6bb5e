-- What `nearest_above` computes of the bit pattern of an x above zero. Assumes nothing.
use Rattle.std.proofs.Common.{◌≡◌, ℕ, ◌+◌, ◌-◌, ◌*◌, ◌/◌, ◌%◌, ◌^◌, ◌<◌, ◌≤◌, true, T, sym, ap, ◌∙◌, subst, mod-lt, mul-pos, div-le_self, arith, lit<, pow_pos, shl_exact}
use Prim.Native.Nat.{compare}
use lib.Ieee.{Float, binary32, binary64, lt, fits, of_bits, to_bits}
use lib.Ieee.Bits.{to_bits-lt}
use lib.Ieee.Fits.{nearest-le}
use lib.Ieee.Nearest.{closest}
use Rattle.scope.specs.Floats.{+0}
use Rattle.scope.specs.Rounding.{to_f32}
use Rattle.rounding.proofs.Digits.{Read, reads}
use Rattle.rounding.proofs.Nearest.{narrow_zero, narrow_bits, narrow_infinite}

-- an `f64` is what the format holds
module _ (x : Float) (holds : fits binary64 x ≡ true) (above : lt +0 x ≡ true) where
  abbrev bits : ℕ
  bits = to_bits binary64 x

  held : T (fits binary64 x)
  held = subst T (sym holds) tt

  pub bits_below : bits < 2 ^ 64
  bits_below = to_bits-lt binary64 x held

  read : Read binary64 (bits / 2 ^ 52) (bits % 2 ^ 52) x
  read = reads binary64 x held above

  low : bits % 2 ^ 52 < 2 ^ 52
  low = mod-lt bits (pow_pos 52)

  pub zero_answer : bits / 2 ^ 52 < 873 → of_bits binary32 0 ≡ to_f32 x
  zero_answer h = narrow_zero read low h

  -- the unit doubles s times, and none of it is shifted out
  module _ {s : ℕ} (s_is : s ≡ 897 - bits / 2 ^ 52) (g : 873 ≤ bits / 2 ^ 52) where
    unit_is : 2 ^ 29 * 2 ^ s % 2 ^ 64 ≡ 2 ^ 29 * 2 ^ (897 - bits / 2 ^ 52)
    unit_is = shl_exact 30 s 64 (lit< tt) (omega arith) ∙ ap (λ (s : ℕ). 2 ^ 29 * 2 ^ s) s_is

    pub unit_above : 0 < 2 ^ 29 * 2 ^ s % 2 ^ 64
    unit_above = rw unit_is (mul-pos (pow_pos 29) (pow_pos _))

  -- what is kept of the digits is no more than they are
  pub kept_most : (kept u : ℕ) → kept ≡ closest (2 ^ 52 + bits % 2 ^ 52) u → kept ≤ 2 ^ 54
  kept_most kept u is =
      let D = 2 ^ 52 + bits % 2 ^ 52 in
      omega (arith, is, low, nearest-le (D / u) (compare (D % u * 2) u), div-le_self D u)

  -- the f32's pattern
  module _ {s kept field : ℕ} (s_is : s ≡ 897 - bits / 2 ^ 52) (kept_is : kept ≡ closest (2 ^ 52 + bits % 2 ^ 52) (2 ^ 29 * 2 ^ s % 2 ^ 64)) (field_is : field ≡ bits / 2 ^ 52 - 897) (g : 873 ≤ bits / 2 ^ 52) where
    pattern_is : field * 2 ^ 23 + kept ≡ (bits / 2 ^ 52 - 897) * 2 ^ 23 + closest (2 ^ 52 + bits % 2 ^ 52) (2 ^ 29 * 2 ^ (897 - bits / 2 ^ 52))
    pattern_is = rw (field_is, kept_is, unit_is s_is g)

    pub finite_answer : field * 2 ^ 23 + kept < 255 * 2 ^ 23 → of_bits binary32 (field * 2 ^ 23 + kept) ≡ to_f32 x
    finite_answer h = ap (of_bits binary32) pattern_is ∙ narrow_bits read low g (rw (← pattern_is) h)

    pub infinite_answer : 255 * 2 ^ 23 ≤ field * 2 ^ 23 + kept → of_bits binary32 (255 * 2 ^ 23) ≡ to_f32 x
    unfolding of_bits
    infinite_answer h = narrow_infinite read low g (rw (← pattern_is) h)
