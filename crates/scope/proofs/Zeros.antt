-- Floats that are 0: what 0 rounds to, a finite float less itself, and that a float without a sign is 0 or above it. Assumes nothing.
use mathlib.Core.Path.{◌≡◌, refl}
use mathlib.Core.Bool.{Bool, true, false, not, cond, ◌&&◌, ◌||◌, false≢true, beq}
use Prim.Native.Nat.{ℕ, zero, suc, ◌+◌, ◌-◌, ◌*◌, ◌<◌}
use native.Mathlib.Nat.{mul-pos}
use native.Mathlib.Omega.{arith}
use borrow.Author.Tests.{eqb-true, eqb-false, lt-ltb, le-ltb}
use lib.Dec.{eqb}
use lib.IntN.{ℤ}
use lib.Ieee.{Float, nan, inf, fin, binary64, up, down, round, sum, neg, add, sub, lt, eq}
use lib.Ieee.Fits.{down_pos, up_pos}
use lib.Ieee.Scale.{round_same}
use Rattle.scope.specs.Floats.{◌⊖◌, +0, is_finite}
use Rattle.scope.proofs.Signs.{unsigned}
use Rattle.scope.proofs.Members.{first_of_lem}

pub round_0 : (d : ℕ) → 0 < d → round binary64 false 0 d ≡ +0
unfolding round
round_0 d h = round_same binary64 false 0 d 0 1 h (omega arith) (omega arith)

pub less_itself : (x : Float) → is_finite x ≡ true → x ⊖ x ≡ +0
unfolding sub add neg sum
less_itself nan h = absurd (false≢true h)
less_itself (inf s) h = absurd (false≢true h)
less_itself (fin s m e) h =
    let a = m * up e * down e in
    let none : a - a ≡ 0 = omega arith in
    rw (le-ltb a a (omega arith), none) (go s (a + a) (down e * down e) (mul-pos (down_pos e) (down_pos e)))
  where
    go : (s : Bool) (b c : ℕ) → 0 < c → cond (beq s (not s)) (round binary64 s b c) (round binary64 (s && false) 0 c) ≡ +0
    go true b c h = round_0 c h
    go false b c h = round_0 c h

-- without a sign nothing is below 0
pub none_below : (x : Float) → unsigned x ≡ true → lt x +0 ≡ false
unfolding lt
none_below nan h = refl
none_below (inf true) h = absurd (false≢true h)
none_below (inf false) h = refl
none_below (fin true m e) h = absurd (false≢true h)
none_below (fin false m e) h = le-ltb (m * up e * 1) (0 * 1 * down e) (omega arith)

-- what is not 0 is above it
pub above_0 : (x : Float) → unsigned x ≡ true → eq x +0 ≡ false → lt +0 x ≡ true
unfolding lt eq
above_0 nan h k = absurd (false≢true h)
above_0 (inf true) h k = absurd (false≢true h)
above_0 (inf false) h k = refl
above_0 (fin true m e) h k = absurd (false≢true h)
above_0 (fin false m e) h k = let other = eqb-false (m * up e * 1) (0 * 1 * down e) (first_false _ k) in lt-ltb (0 * 1 * down e) (m * up e * 1) (omega (arith, other))
  where
    first_false : (b : Bool) → (b && true) ≡ false → b ≡ false
    first_false true h = h
    first_false false h = refl

-- what equals 0 is one, with a sign or without
pub zero_is : (x : Float) → eq x +0 ≡ true → (s : Bool) × (e : ℤ) × (x ≡ fin s 0 e)
unfolding eq
zero_is nan h = absurd (false≢true h)
zero_is (inf s) h = absurd (false≢true h)
zero_is (fin s zero e) h = (s, e, refl)
zero_is (fin s (suc m) e) h =
    let t = first_of_lem (eqb (suc m * up e * 1) (0 * 1 * down e)) (beq s false || eqb (suc m * up e * 1) 0) h in
    let p : 0 < suc m * up e = mul-pos (omega arith) (up_pos e) in
    absurd (omega (arith, eqb-true (suc m * up e * 1) (0 * 1 * down e) t))

-- and is not above 0
pub none_above : (x : Float) → eq x +0 ≡ true → lt +0 x ≡ false
unfolding lt
none_above x h = let (s, e, is) = zero_is x h in rw is (go s e)
  where
    go : (s : Bool) (e : ℤ) → lt +0 (fin s 0 e) ≡ false
    go true e = refl
    go false e = le-ltb (0 * 1 * down e) (0 * up e * 1) (omega arith)
