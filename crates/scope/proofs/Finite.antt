-- A value of a format stays as it is when it is rounded to that format, so that it is still finite when 0 is added to it: over the format. Assumes nothing.
use mathlib.Core.Path.{◌≡◌, refl, sym, ◌∙◌}
use mathlib.Core.Bool.{Bool, true, false, cond, ◌&&◌}
use Prim.Native.Nat.{ℕ, zero, suc, ◌+◌, ◌-◌, ◌*◌, ◌%◌, ◌^◌, ◌≤◌, ◌<◌}
use native.Mathlib.Decide.{dec_lt}
use native.Mathlib.Nat.{mul-pos, mul-le-mul_right, zero-mul, one-mul, mul-one, zero-add, sub-zero, mul_assoc, mul_comm, mul_left_comm, sub-add_cancel, mul-lt-mul_of_pos_right, lt_of_mul-lt-mul_right}
use native.Mathlib.Omega.{arith}
use borrow.Author.Tests.{ltb-true, ltb-false, leb-true, eqb-true}
use lib.Dec.{leb, ltb, eqb}
use lib.IntN.{ℤ, pos, negsuc}
use lib.Pow.{pow-add, pow_pos, pow-lt}
use lib.Ieee.{Float, nan, inf, fin, Format, prec, emax, low, up, down, round, sum, add, fits}
use lib.Ieee.Exact.{HasValue, round_exact}
use lib.Ieee.Fits.{up_pos, down_pos}
use Rattle.scope.specs.Floats.{+0, is_finite}
use Rattle.scope.proofs.Members.{first_of_lem, second_of}

value_finite : (x : Float) (s : Bool) (a c : ℕ) → HasValue x s a c → is_finite x ≡ true
value_finite nan s a c h = absurd h
value_finite (inf t) s a c h = absurd h
value_finite (fin t m e) s a c h = refl

-- 2 ^ e is 2 ^ j of the format's smallest values
in_units : (l : ℕ) (e : ℤ) → down e ≤ 2 ^ l → (j : ℕ) × (up e * 2 ^ l ≡ 2 ^ j * down e)
in_units l (pos k) h = (k + l, rw (pow-add 2 k l) (sym (mul-one _)))
in_units l (negsuc k) h = (l - suc k, one-mul (2 ^ l) ∙ go (dec_lt l (suc k)))
  where
    go : Dec (l < suc k) → 2 ^ l ≡ 2 ^ (l - suc k) * 2 ^ suc k
    go (yes less) = absurd (omega (arith, pow-lt less))
    go (no more) = let fits : suc k ≤ l = omega arith in rw (← pow-add 2 (l - suc k) (suc k), sub-add_cancel fits)

-- what the format holds of m * 2 ^ e: the digits, the lowest and the highest exponent
pub record Held (f : Format) (m : ℕ) (e : ℤ) : Type 0 where
  pub digits : m < 2 ^ prec f
  pub lowest : down e ≤ 2 ^ low f
  pub highest : m * up e < 2 ^ suc (emax f) * down e

pub held : (f : Format) (s : Bool) (m : ℕ) (e : ℤ) → fits f (fin s m e) ≡ true → Held f m e
unfolding fits
held f s zero e h =
    record {
      digits = pow_pos (prec f);
      lowest = omega (arith, eqb-true (up e * down e) 1 h, mul-le-mul_right (down e) (up_pos e), pow_pos (low f));
      highest = omega (arith, zero-mul (up e), mul-pos (pow_pos (suc (emax f))) (down_pos e));
    }
held f s (suc m) e h =
    let a = eqb (suc m % 2) 1 in
    let b = ltb (suc m) (2 ^ prec f) in
    let c = leb (down e) (2 ^ low f) in
    let abc = first_of_lem (a && b && c) _ h in
    record {
      digits = ltb-true (suc m) (2 ^ prec f) (second_of a b (first_of_lem (a && b) c abc));
      lowest = leb-true (down e) (2 ^ low f) (second_of (a && b) c abc);
      highest = ltb-true (suc m * up e) (2 ^ suc (emax f) * down e) (second_of (a && b && c) _ h);
    }

module _ (f : Format) (m : ℕ) (e : ℤ) (h : Held f m e) where
  -- it is rounded to itself
  kept : (s : Bool) → HasValue (round f s (m * up e) (down e)) s (m * up e) (down e)
  kept s =
      let (j, same) = in_units (low f) e h.lowest in
      let units : m * up e * 2 ^ low f ≡ m * 2 ^ j * down e = rw (mul_assoc m (up e) (2 ^ low f), same, mul_assoc m (2 ^ j) (down e)) in
      let scaled : 2 ^ suc (emax f) * down e * 2 ^ low f ≡ 2 ^ (low f + suc (emax f)) * down e = rw (pow-add 2 (low f) (suc (emax f))) (simp (mul_assoc, mul_comm, mul_left_comm)) in
      round_exact f s (m * up e) (down e) m j (down_pos e) h.digits
      (lt_of_mul-lt-mul_right (down e) (rw (← units, ← scaled) (mul-lt-mul_of_pos_right h.highest (pow_pos (low f)))))
      units

  -- and so is 0 plus it
  added_to_0 : (s : Bool) → is_finite (sum f false 0 s (m * up e) (down e)) ≡ true
  unfolding sum
  added_to_0 false = rw (zero-add (m * up e)) (value_finite (round f false (m * up e) (down e)) false _ _ (kept false))
  added_to_0 true = go (ltb 0 (m * up e)) refl
    where
      go : (b : Bool) → ltb 0 (m * up e) ≡ b → is_finite (cond b (round f true (m * up e - 0) (down e)) (round f (false && ltb (m * up e) 0) (0 - m * up e) (down e))) ≡ true
      go true t = rw (sub-zero (m * up e)) (value_finite (round f true (m * up e) (down e)) true _ _ (kept true))
      go false t =
          let none : 0 - m * up e ≡ m * up e = omega (arith, ltb-false 0 (m * up e) t) in
          rw none (value_finite (round f false (m * up e) (down e)) false _ _ (kept false))

pub zero_plus_finite : (f : Format) (x : Float) → fits f x ≡ true → is_finite x ≡ true → is_finite (add f +0 x) ≡ true
unfolding add
zero_plus_finite f nan h k = k
zero_plus_finite f (inf s) h k = k
zero_plus_finite f (fin s m e) h k = rw (zero-mul (down e), mul-one (m * up e), one-mul (down e)) (added_to_0 f m e (held f s m e h) s)
