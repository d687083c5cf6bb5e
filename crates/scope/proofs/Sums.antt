-- The flat prefix sums are the column sums, row after row, from row 0; and the gain over them is the gain by columns. Assumes nothing.
use mathlib.Core.Path.{◌≡◌, refl, sym, ap, ◌∙◌}
use mathlib.Core.List.{List, [], ◌++◌}
use Prim.Native.Nat.{ℕ, zero, suc, ◌+◌, ◌-◌, ◌*◌, ◌≤◌, ◌<◌}
use native.Mathlib.Nat.{add-zero, add-suc, mul-le-mul_right, zero-add, suc-mul}
use native.Mathlib.Numerals.{add-one}
use native.Mathlib.Omega.{arith}
use lib.Ieee.{Float, nan}
use lib.ListN.{length, set, drop, length-append, length-replicate, get_or-replicate, get_or-append}
use lib.Seq.{get_or_at}
use Rattle.scope.specs.Floats.{whole, +0}
use Rattle.scope.specs.Lists.{at}
use Rattle.scope.specs.Sums.{plus, column, flat_sums, prefix_sums}
use Rattle.scope.specs.Gain.{term, terms, inner_gain, gain_of}
use Rattle.scope.specs.Columns.{column_terms, column_gain}
use Rattle.scope.specs.Calls.{gain_in}
use Rattle.scope.proofs.Lists.{store_more}

module _ (cells : List Float) (d : ℕ) where
  pub length_flat : (k : ℕ) → length (flat_sums cells d k) ≡ d + k
  unfolding flat_sums
  length_flat zero = length-replicate d +0 ∙ omega arith
  length_flat (suc k) = length-append (flat_sums cells d k) _ ∙ rw (length_flat k) (omega arith)

  -- a cell more: entry d + k is stored from cell k and entry k
  pub sums_step : (k : ℕ) (l : List Float) {m : List Float} → 0 < d → m ≡ flat_sums cells d k ++ drop (d + k) l → d + k < length l
      → set m (d + k) (plus (at cells k) (at m k)) ≡ flat_sums cells d (suc k) ++ drop (d + suc k) l
  unfolding flat_sums
  sums_step k l some em h =
      let inside : k < length (flat_sums cells d k) = rw length_flat (omega arith) in
      let here : at (flat_sums cells d k ++ drop (d + k) l) k ≡ at (flat_sums cells d k) k = get_or-append (flat_sums cells d k) _ nan k inside in
      rw (em, here) (store_more (flat_sums cells d k) l (d + k) _ (length_flat k) h ∙ rw (add-one, add-suc))

  -- an entry, once it stands there, stays
  stays : (k j i : ℕ) → i < d + k → at (flat_sums cells d (k + j)) i ≡ at (flat_sums cells d k) i
  unfolding flat_sums
  stays k zero i h = rw add-zero
  stays k (suc j) i h =
      let e : k + suc j ≡ suc (k + j) = omega arith in
      let l = length_flat (k + j) in
      rw e (get_or-append (flat_sums cells d (k + j)) _ nan i (omega arith) ∙ stays k j i h)

  -- "d zeros, and then .. the entry d + k is (0 + cell k) + entry k", in the whole table
  first_row_lem : (n i : ℕ) → i < d → at (flat_sums cells d n) i ≡ +0
  unfolding flat_sums
  first_row_lem n i h = ap (λ (z : ℕ). at (flat_sums cells d z) i) (sym (zero-add n)) ∙ stays 0 n i (omega arith) ∙ get_or-replicate d i +0 nan h

  next_entry : (n k : ℕ) → k < n → 0 < d → at (flat_sums cells d n) (d + k) ≡ plus (at cells k) (at (flat_sums cells d n) k)
  unfolding flat_sums
  next_entry n k h p =
      let e : n ≡ suc k + (n - suc k) = omega arith in
      ap (λ (z : ℕ). at (flat_sums cells d z) (d + k)) e
      ∙ stays (suc k) (n - suc k) (d + k) (omega arith)
      ∙ last k
      ∙ ap (plus (at cells k)) (sym (ap (λ (z : ℕ). at (flat_sums cells d z) k) e ∙ stays (suc k) (n - suc k) k (omega arith) ∙ before k p))
    where
      last : (k : ℕ) → at (flat_sums cells d (suc k)) (d + k) ≡ plus (at cells k) (at (flat_sums cells d k) k)
      last k = get_or_at (flat_sums cells d k) _ [] nan (d + k) (length_flat k)

      before : (k : ℕ) → 0 < d → at (flat_sums cells d (suc k)) k ≡ at (flat_sums cells d k) k
      before k p = get_or-append (flat_sums cells d k) _ nan k (let l = length_flat k in omega arith)

  -- C[i] of column c stands at i*d + c
  pub flat_is_column : (n c i : ℕ) → c < d → i ≤ n → at (prefix_sums cells n d) (i * d + c) ≡ column cells d c i
  unfolding prefix_sums column
  flat_is_column n c zero h l = first_row_lem (n * d) (0 * d + c) (omega arith) ∙ refl
  flat_is_column n c (suc i) h l =
      let e : suc i * d + c ≡ d + (i * d + c) = omega (arith, suc-mul i d) in
      let b : i * d + c < n * d = omega (arith, mul-le-mul_right d l, suc-mul i d) in
      rw e (next_entry (n * d) (i * d + c) b (omega arith) ∙ ap (plus (at cells (i * d + c))) (flat_is_column n c i h (omega arith)))

  module _ (n start stop x : ℕ) (within : stop ≤ n) (first : start ≤ n) (there : x ≤ n) where
    terms_by_columns : (s1 s2 : Float) (k : ℕ) → k ≤ d
        → terms (prefix_sums cells n d) (start * d) (stop * d) (x * d) s1 s2 k ≡ column_terms (λ (i c : ℕ). column cells d c i) start stop x s1 s2 k
    unfolding terms term column_terms
    terms_by_columns s1 s2 zero h = refl
    terms_by_columns s1 s2 (suc k) h =
        rw (terms_by_columns s1 s2 k (omega arith), flat_is_column n k start h first, flat_is_column n k stop h within, flat_is_column n k x h there)

    pub gain_by_columns : gain_in (record { cells = cells; n = n; d = d }) start stop x ≡ column_gain cells d start stop x
    unfolding gain_of inner_gain column_gain
    gain_by_columns = rw (terms_by_columns (whole (x - start)) (whole (stop - x)) d (omega arith))
