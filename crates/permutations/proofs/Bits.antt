-- Marks as bits: to mark a value sets its bit, and leaves every other value's as it was. Assumes nothing.
use Rattle.std.proofs.Common.{◌≡◌, ℕ, zero, suc, ◌+◌, ◌-◌, ◌/◌, ◌%◌, ◌^◌, ◌<◌, ◌≤◌, Bool, true, false, eqb, List, length, get_or, replicate, refl, ap, ◌∙◌, ⊎_elim, mod-lt, pow-suc, arith, get_or-set_other, get_or-set_same, pow_pos, pow-add, eqb-true}
use native.Mathlib.Nat.{zero-div, mul-mod_left, div-eq_of_lt, div_self}
use borrow.Author.Tests.{eqb-false}
use lib.ListN.{get_or-eq_default}
use Rattle.std.proofs.lemmas.List.{get_or-replicate, length-replicate}
use lib.Bits.{bit_or, or_shr, or_mod, or_zero_r}
use lib.Pow.{pow-lt, shl-shr}
use Rattle.permutations.specs.Marks.{is_marked, with_mark}
use Rattle.permutations.proofs.Times.{past}

-- ---- the bit j of 2 ^ k
power_shifted : (i j : ℕ) → 2 ^ (i + j) / 2 ^ j ≡ 2 ^ i
power_shifted i j = rw (pow-add 2 i j) (shl-shr (2 ^ i) j)

power_same : (k : ℕ) → 2 ^ k / 2 ^ k % 2 ≡ 1
power_same k = rw (div_self (pow_pos k))

power_other : (j k : ℕ) → (j ≡ k → ⊥) → 2 ^ k / 2 ^ j % 2 ≡ 0
power_other j k n = ⊎_elim above below (past k j)
  where
    above : k ≤ j → 2 ^ k / 2 ^ j % 2 ≡ 0
    above h = let s : k < j = omega arith in rw (div-eq_of_lt (pow-lt s))

    below : j < k → 2 ^ k / 2 ^ j % 2 ≡ 0
    below h = let e : k ≡ suc (k - j - 1) + j = omega arith in rw (e, power_shifted (suc (k - j - 1)) j, pow-suc 2 (k - j - 1)) (mul-mod_left (2 ^ (k - j - 1)) 2)

-- ---- the bit j of a number x with the bit k
with_power : (x j k : ℕ) → bit_or x (2 ^ k) / 2 ^ j % 2 ≡ bit_or (x / 2 ^ j % 2) (2 ^ k / 2 ^ j % 2)
with_power x j k = ap (λ (n : ℕ). n % 2) (or_shr x (2 ^ k) j) ∙ or_mod (x / 2 ^ j) (2 ^ k / 2 ^ j) 1

with_same : (x k : ℕ) → bit_or x (2 ^ k) / 2 ^ k % 2 ≡ 1
with_same x k = with_power x k k ∙ rw (power_same k) (go (x / 2 ^ k % 2) (mod-lt (x / 2 ^ k) (omega arith)))
  where
    go : (bit : ℕ) → bit < 2 → bit_or bit 1 ≡ 1
    go zero h = refl
    go (suc zero) h = refl
    go (suc (suc bit)) h = absurd (omega arith)

with_other : (x j k : ℕ) → (j ≡ k → ⊥) → bit_or x (2 ^ k) / 2 ^ j % 2 ≡ x / 2 ^ j % 2
with_other x j k n = with_power x j k ∙ rw (power_other j k n) (or_zero_r _)

-- ---- marks
pub none_marked : (v n : ℕ) → is_marked v (replicate n 0) ≡ false
none_marked v n = rw (none (v % 65536), zero-div (2 ^ (v / 65536)))
  where
    none : (k : ℕ) → ◌≡◌ {A = ℕ} (get_or (replicate n 0) k 0) 0
    none k = ⊎_elim (λ (h : n ≤ k). get_or-eq_default (replicate n 0) 0 (omega (arith, length-replicate {A = ℕ} n 0))) (λ (h : k < n). get_or-replicate n k 0 0 h) (past n k)

module _ (n : ℕ) (marks : List ℕ) (h : n % 65536 < length marks) where
  pub mark_same : is_marked n (with_mark n marks) ≡ true
  mark_same = rw (get_or-set_same marks (n % 65536) _ 0 h, with_same (get_or marks (n % 65536) 0) (n / 65536))

  pub mark_other : (k : ℕ) → (k ≡ n → ⊥) → is_marked k (with_mark n marks) ≡ is_marked k marks
  mark_other k d = go (eqb (k % 65536) (n % 65536)) refl
    where
      go : (b : Bool) → eqb (k % 65536) (n % 65536) ≡ b → is_marked k (with_mark n marks) ≡ is_marked k marks
      go true e =
          let same : k % 65536 ≡ n % 65536 = eqb-true _ _ e in
          rw (same, get_or-set_same marks (n % 65536) _ 0 h, with_other (get_or marks (n % 65536) 0) (k / 65536) (n / 65536) (λ q. d (omega arith)))
      go false e = rw (get_or-set_other marks (n % 65536) (k % 65536) _ 0 (eqb-false _ _ e))
