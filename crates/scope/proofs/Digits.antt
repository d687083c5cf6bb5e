-- How many digits a decimal number takes: k+1 at most, if it is below 10^(k+1), or if no more are written. Assumes nothing.
use mathlib.Core.Logic.{◌⊎◌, inl, inr}
use mathlib.Core.Bool.{Bool, true, false, cond}
use mathlib.Core.List.{List, [], ◌∷◌, ◌++◌}
use Prim.Native.Nat.{ℕ, zero, suc, ◌*◌, ◌/◌, ◌%◌, ◌^◌, ◌≤◌, ◌<◌}
use native.Mathlib.Nat.{pow-suc}
use native.Mathlib.Omega.{arith}
use borrow.Author.Tests.{lt-ltb}
use lib.Dec.{ltb}
use lib.ListN.{length, length-append}
use Rattle.scope.specs.Text.{digit, decimal_of}

pub digits_few : (k m v : ℕ) → (v < 10 ^ suc k) ⊎ (m ≤ suc k) → length (decimal_of m v) ≤ suc k
unfolding decimal_of
digits_few k zero v h = omega arith
digits_few zero (suc m) v (inl h) = rw (lt-ltb v 10 (omega arith)) (omega arith)
digits_few zero (suc zero) v (inr h) = one (ltb v 10)
  where
    one : (b : Bool) → length (cond b (digit v ∷ []) (digit (v % 10) ∷ [])) ≤ 1
    one true = omega arith
    one false = omega arith
digits_few zero (suc (suc m)) v (inr h) = absurd (omega arith)
digits_few (suc k) (suc m) v h = go (ltb v 10) (decimal_of m (v / 10)) (digits_few k m (v / 10) (fewer h))
  where
    fewer : (v < 10 ^ suc (suc k)) ⊎ (suc m ≤ suc (suc k)) → (v / 10 < 10 ^ suc k) ⊎ (m ≤ suc k)
    fewer (inl h) = let below : v < 10 ^ suc k * 10 = rw pow-suc at h in inl (omega arith)
    fewer (inr h) = inr (omega arith)

    go : (b : Bool) (front : List ℕ) → length front ≤ suc k → length (cond b (digit v ∷ []) (front ++ (digit (v % 10) ∷ []))) ≤ suc (suc k)
    go true front l = omega arith
    go false front l = rw length-append (omega arith)
