-- The gain of all-zero readings is 0, so that a run of them at a threshold below 0 has as many nodes as any. Assumes nothing.
use mathlib.Core.Path.{◌≡◌, refl, ◌∙◌}
use mathlib.Core.Bool.{Bool, true, false}
use mathlib.Core.List.{List}
use Prim.Native.Nat.{ℕ, zero, suc, ◌+◌, ◌-◌, ◌*◌, ◌≤◌, ◌<◌}
use native.Mathlib.Nat.{zero-mul, mul-pos, mul-le-mul_right, mul-le-mul, suc-mul}
use native.Mathlib.Omega.{arith}
use borrow.Author.Tests.{ne_eqb}
use lib.IntN.{ℤ, pos}
use lib.ListN.{length}
use lib.Ieee.{Float, nan, fin, binary64, up, down, sum, add, sub, mul, eq}
use lib.Ieee.Fits.{down_pos}
use Rattle.scope.specs.Floats.{◌⊕◌, ◌⊗◌, whole, +0}
use Rattle.scope.specs.Lists.{at, every}
use Rattle.scope.specs.Sums.{plus, column}
use Rattle.scope.specs.Columns.{column_terms, column_gain}
use Rattle.scope.specs.Calls.{gain_in}
use Rattle.scope.proofs.Members.{at_in, every_of}
use Rattle.scope.proofs.Sums.{gain_by_columns}
use Rattle.scope.proofs.Zeros.{round_0, zero_is}
use Rattle.demand.proofs.Wholes.{Is, whole_is, add_is, mul_is, mul_0, div_0}

-- ---- a cell that equals 0, and the sums
sum_0 : (s : Bool) (a b c : ℕ) → a ≡ 0 → b ≡ 0 → 0 < c → sum binary64 false a s b c ≡ +0
unfolding sum
sum_0 true a b c h k p = rw (h, k) (round_0 c p)
sum_0 false a b c h k p = rw (h, k) (round_0 c p)

add_0 : (s : Bool) (e : ℤ) → +0 ⊕ fin s 0 e ≡ +0
unfolding add
add_0 s e = sum_0 s (0 * 1 * down e) (0 * up e * 1) (1 * down e) (omega arith) (omega (arith, zero-mul (up e))) (omega (arith, down_pos e))

plus_0 : (x : Float) → eq x +0 ≡ true → plus x +0 ≡ +0
plus_0 x h = let (s, e, w) = zero_is x h in rw (w, add_0 s e) (add_0 false (pos 0))

module _ (cells : List Float) (n d : ℕ) (filled : length cells ≡ n * d) (zeros : every (λ x. eq x +0) cells ≡ true) where
  column_0 : (c i : ℕ) → c < d → i ≤ n → column cells d c i ≡ +0
  unfolding column
  column_0 c zero h l = refl
  column_0 c (suc i) h l =
      let below : i * d + c < n * d = omega (arith, mul-le-mul_right d l, suc-mul i d) in
      rw (column_0 c i h (omega arith)) (plus_0 (at cells (i * d + c)) (every_of (λ x. eq x +0) cells zeros (at cells (i * d + c)) (at_in cells (i * d + c) nan (omega arith))))

  -- ---- the gain
  module _ (small : n ≤ 4096) (start stop x : ℕ) (low : start < x) (high : x < stop) (fits : stop ≤ n) where
    abbrev s1 : ℕ
    s1 = x - start

    abbrev s2 : ℕ
    s2 = stop - x

    s1_is : Is (whole s1) s1
    s1_is = whole_is s1 (omega arith)

    s2_is : Is (whole s2) s2
    s2_is = whole_is s2 (omega arith)

    s_is : whole s1 ⊕ whole s2 ≡ whole (s1 + s2)
    s_is = add_is (whole s1) (whole s2) s1 s2 s1_is s2_is

    terms_0 : (k : ℕ) → k ≤ d → column_terms (λ i c. column cells d c i) start stop x (whole s1) (whole s2) k ≡ +0
    unfolding column_terms add sub mul
    terms_0 zero h = refl
    terms_0 (suc k) h =
        rw (
          terms_0 k (omega arith),
          column_0 k start h (omega arith),
          column_0 k stop h fits,
          column_0 k x h (omega arith),
          mul_0 (whole s1) s1 s1_is,
          mul_0 (whole s2) s2 s2_is,
          s_is,
          mul_0 (whole (s1 + s2)) (s1 + s2) (whole_is (s1 + s2) (omega arith)),
        )

    product : (s1 + s2) * s1 ≤ 4096 * 4096
    product = mul-le-mul {n₂ = 4096} {m₂ = 4096} (omega arith) (omega arith)

    divisor : (whole s1 ⊕ whole s2) ⊗ whole s1 ⊗ whole s2 ≡ whole ((s1 + s2) * s1 * s2)
    divisor =
        rw (s_is, mul_is (whole (s1 + s2)) (whole s1) (s1 + s2) s1 (whole_is (s1 + s2) (omega arith)) s1_is)
        (mul_is (whole ((s1 + s2) * s1)) (whole s2) ((s1 + s2) * s1) s2 (whole_is ((s1 + s2) * s1) (omega (arith, product))) s2_is)

    gain_0 : column_gain cells d start stop x ≡ +0
    unfolding column_gain
    gain_0 =
        let b : (s1 + s2) * s1 * s2 ≤ 4096 * 4096 * 4096 = mul-le-mul {n₂ = 4096 * 4096} {m₂ = 4096} product (omega arith) in
        let p : 0 < (s1 + s2) * s1 * s2 = mul-pos (mul-pos (omega arith) (omega arith)) (omega arith) in
        rw (ne_eqb x start (λ e. omega arith), ne_eqb x stop (λ e. omega arith), terms_0 d (omega arith), divisor)
        (div_0 (whole ((s1 + s2) * s1 * s2)) ((s1 + s2) * s1 * s2) p (whole_is ((s1 + s2) * s1 * s2) (omega arith)))

    pub zero_gain : gain_in (record { cells = cells; n = n; d = d }) start stop x ≡ +0
    zero_gain = gain_by_columns cells d n start stop x fits (omega arith) (omega arith) ∙ gain_0
