-- A layer's count, length and starts: each value that is rounded is in range, and each segment lies in the run. Assumes nothing.
use Rattle.std.proofs.Common.{◌≡◌, ℕ, ◌-◌, ◌*◌, ◌/◌, ◌^◌, ◌<◌, ◌≤◌, Bool, true, false, cond, eqb, pos, negsuc, refl, inl, inr, mul-le-mul_right, mul_comm, eq-zero-or-pos, div-le_self, div-mul-le_self, arith, lit<, lit≤, ltb-false, ltb-true}
use mathlib.Core.Bool.{and-eq-true_iff, false≢true}
use native.Mathlib.Nat.{lt-div-mul-add}
use borrow.Author.Tests.{eqb-false}
use lib.Ieee.{Float, nan, inf, fin, binary32, binary64, lt, le}
use lib.Ieee.Fits.{down_pos}
use Rattle.scope.specs.Floats.{◌⊖◌, ◌⊗◌, ◌⊘◌, whole}
use Rattle.scope.specs.Refusals.{is_layer}
use Rattle.scope.specs.Rounding.{to_f32, truncation, ceiling}
use Rattle.scope.specs.Layers.{layer_length, layer_count, layer_step, layer_start, layer_stop}
use Rattle.rounding.specs.Range.{in_range}
use Rattle.rounding.proofs.Order.{at_most_not}
use Rattle.rounding.proofs.Values.{products}
use Rattle.rounding.proofs.Within.{Within, within, within_nearest, within_parts, within_whole, within_mul, within_div, within_sub, in_range_lem, truncation_within, ceiling_within}

-- ---- the values of a layer: from 1/4096 to 1
from_least : (v : Float) → le (fin false 1 (negsuc 11)) v ≡ true → lt v (fin false 1 (pos 0)) ≡ true → Within 4096 1 4096 v
unfolding lt le
from_least nan h k = absurd (false≢true h)
from_least (inf true) h k = absurd (false≢true h)
from_least (inf false) h k = absurd (false≢true k)
from_least (fin true m e) h k = let l = at_most_not (fin false 1 (negsuc 11)) (fin true m e) refl refl h in absurd (omega (arith, ltb-false, down_pos e))
from_least (fin false m e) h k =
    let l = at_most_not (fin false 1 (negsuc 11)) (fin false m e) refl refl h in
    within m e (omega (arith, ltb-false)) (omega (arith, ltb-true))

layer_within : (v : Float) → is_layer v ≡ true → Within 4096 1 4096 v
layer_within v h = let both = (and-eq-true_iff (le (fin false 1 (negsuc 11)) v) (lt v (fin false 1 (pos 0)))).0 h in from_least v both.0 both.1

-- n / B, cut to 26 binary digits behind the point, is no less than 4095/4096 of it
cut_enough : (n B : ℕ) → 0 < B → B ≤ 8190 → 4095 * n * 1 * 2 ^ 26 ≤ n * 2 ^ 26 / B * (4096 * B)
cut_enough n B P most =
    let q = n * 2 ^ 26 / B in
    let last = lt-div-mul-add {a = n * 2 ^ 26} P in
    let grouped : q * (4096 * B) ≡ 4096 * (q * B) = simp products in
    elim (eq-zero-or-pos n) [ inl z ↦ omega arith | inr p ↦ omega arith ]

-- ---- "count = 2*ceil(f32(1/v)) - 1"
module _ (v : Float) (is_layer_lem : is_layer v ≡ true) where
  inverse_within : Within 1 1 4096 (to_f32 (fin false 1 (pos 0) ⊘ v))
  inverse_within =
      within_nearest binary32 (within_div binary64 0 {k = 1} {a = 1} {b = 1} (within 1 (pos 0) (lit≤ tt) (lit≤ tt)) (layer_within v is_layer_lem) (lit< tt) (lit< tt) (lit≤ tt) (lit≤ tt) (lit≤ tt) (lit< tt)) (lit< tt)

  pub layer_count_range : in_range (to_f32 (fin false 1 (pos 0) ⊘ v))
  layer_count_range = in_range_lem inverse_within (lit< tt)

  pub layer_count_ceiling : (1 ≤ ceiling (to_f32 (fin false 1 (pos 0) ⊘ v))) × (ceiling (to_f32 (fin false 1 (pos 0) ⊘ v)) ≤ 4096)
  layer_count_ceiling = ceiling_within inverse_within

  pub layer_count_bounds : (1 ≤ layer_count v) × (layer_count v ≤ 8191)
  unfolding layer_count
  layer_count_bounds = let c = layer_count_ceiling in omega arith

  -- ---- "len = n*v"
  module _ (n : ℕ) (rows : n ≤ 4096) where
    length_within : Within 1 0 n (to_f32 (layer_length n v))
    unfolding layer_length
    length_within =
        within_nearest binary32 (within_mul binary64 0 (within_whole binary64 n (omega arith)) (layer_within v is_layer_lem) (lit< tt) (lit< tt) (lit≤ tt) (omega arith) (omega arith) (omega arith)) (omega arith)

    pub layer_length_range : in_range (to_f32 (layer_length n v))
    layer_length_range = in_range_lem length_within (omega arith)

    pub layer_length_ceiling : ceiling (to_f32 (layer_length n v)) ≤ n
    layer_length_ceiling = (ceiling_within length_within).1

    -- ---- the starts. The length is n/4096 at least, so n - length is 4095/4096 of n at most: what the steps are rounded up by does not take a start past n
    rest_within : Within 4096 0 (4095 * n) (whole n ⊖ layer_length n v)
    unfolding layer_length
    rest_within =
        let w = within_parts binary64 12 n (lit≤ tt) (omega arith) in
        let l = within_mul binary64 12 {lo = n} {hi = 4096 * n} (within_whole binary64 n (omega arith)) (layer_within v is_layer_lem) (lit< tt) (lit< tt) (lit≤ tt) (omega arith) (omega arith) (omega arith) in
        within_sub binary64 12 w l (lit≤ tt) (omega arith) (omega arith) (omega arith)

    module _ (several : layer_count v ≡ 1 → ⊥) where
      abbrev steps : ℕ
      steps = layer_count v - 1

      several_steps : 0 < steps
      several_steps = omega (arith, layer_count_bounds)

      -- the step's bound: an f64, and steps of it are n at most
      abbrev cut : ℕ
      cut = n * 2 ^ 26 / steps

      cut_below : cut * steps ≤ n * 2 ^ 26
      cut_below = div-mul-le_self (n * 2 ^ 26) steps

      step_within : Within (2 ^ 26) 0 cut (layer_step n v)
      unfolding layer_step
      step_within =
          let w = within_whole binary64 steps (omega (arith, layer_count_bounds)) in
          within_div binary64 26 rest_within w (lit< tt) several_steps (lit≤ tt) (omega arith)
          (cut_enough n steps several_steps (omega (arith, layer_count_bounds)))
          (omega (arith, div-le_self (n * 2 ^ 26) steps))

      module _ (id : ℕ) (counted : id < layer_count v) where
        start_within : Within 1 0 n (to_f32 (whole id ⊗ layer_step n v))
        start_within =
            let w = within_whole binary64 id (omega (arith, layer_count_bounds)) in
            let most : id * cut ≤ steps * cut = mul-le-mul_right cut (omega arith) in
            within_nearest binary32 (within_mul binary64 0 w step_within (lit< tt) (lit< tt) (lit≤ tt) (omega arith) (omega (arith, cut_below, mul_comm cut steps)) (omega arith)) (omega arith)

        pub layer_start_range : in_range (to_f32 (whole id ⊗ layer_step n v))
        layer_start_range = in_range_lem start_within (omega arith)

    -- ---- each segment lies in the run
    module _ (id : ℕ) (counted : id < layer_count v) where
      pub layer_start_most : layer_start n v id ≤ n
      unfolding layer_start
      layer_start_most = go (eqb (layer_count v) 1) refl
        where
          go : (t : Bool) → eqb (layer_count v) 1 ≡ t → cond t 0 (truncation (to_f32 (whole id ⊗ layer_step n v))) ≤ n
          go true h = omega arith
          go false h = (truncation_within (start_within (eqb-false (layer_count v) 1 h) id counted)).1

      pub layer_inside : (layer_start n v id ≤ layer_stop n v id) × (layer_stop n v id ≤ n)
      unfolding layer_stop
      layer_inside = let s = layer_start_most in omega arith
