-- The order of floats, of all but NaN: x is at most y exactly if y is not below x. Assumes nothing.
use Rattle.std.proofs.Common.{◌≡◌, ℕ, ◌+◌, ◌*◌, ◌≤◌, Bool, true, false, not, ◌&&◌, ◌||◌, eqb, ltb, sym, refl, ◌∙◌, inl, inr, le_of_eq, le_of_lt, add_comm, eq-or-lt_of_le, ne_of_gt, arith, ltb-false, ltb-true, le-ltb, lt-ltb, eq-eqb, ne_eqb, eqb-true}
use mathlib.Core.Bool.{or-not_self, false≢true}
use native.Mathlib.Decide.{dec_lt}
use borrow.Author.Tests.{eqb-false, not-true}
use lib.Ieee.{Float, nan, inf, fin, up, down, below, level, lt, le}
use Rattle.scope.specs.Greatest.{numeric}

-- of a and b, t being the test whether they are equal
at_most : (a b : ℕ) (t : Bool) → (a ≡ b → t ≡ true) → ((a ≡ b → ⊥) → t ≡ false) → (ltb a b || (t && true)) ≡ not (ltb b a)
at_most a b t same other =
    elim (dec_lt a b) [
      | yes l ↦ simp (lt-ltb a b l, le-ltb b a (le_of_lt l))
      | no n ↦
          let g : b ≤ a = omega arith in
          elim (eq-or-lt_of_le g) [
            | inl e ↦ simp (le-ltb a b g, same (sym e), le-ltb b a (le_of_eq (sym e)))
            | inr l ↦ simp (le-ltb a b g, other (ne_of_gt l), lt-ltb b a l)
          ]
    ]

both_zero : (a b : ℕ) → (eqb a b && eqb a 0) ≡ not (ltb 0 (b + a))
both_zero a b = go (eqb a b) (eqb a 0) (ltb 0 (b + a)) refl refl refl
  where
    go : (x y z : Bool) → eqb a b ≡ x → eqb a 0 ≡ y → ltb 0 (b + a) ≡ z → (x && y) ≡ not z
    go true true true p q r = absurd (omega (arith, eqb-true, ltb-true))
    go true true false p q r = refl
    go true false true p q r = refl
    go true false false p q r = absurd (eqb-false a 0 q (omega (arith, ltb-false)))
    go false y true p q r = refl
    go false y false p q r = absurd (eqb-false a b p (omega (arith, ltb-false)))

-- of ±a and ±b
level_or_below : (s t : Bool) (a b : ℕ) → (below s a t b || level s a t b) ≡ not (below t b s a)
level_or_below false false a b = at_most a b (eqb a b) (eq-eqb a b) (ne_eqb a b)
level_or_below true true a b = at_most b a (eqb a b) (λ e. eq-eqb a b (sym e)) (λ n. ne_eqb a b (λ e. n (sym e)))
level_or_below false true a b = both_zero a b
level_or_below true false a b = rw (both_zero, add_comm b a) (or-not_self (ltb 0 (a + b)))

pub le_not_lt : (x y : Float) → numeric x ≡ true → numeric y ≡ true → le x y ≡ not (lt y x)
unfolding le lt
le_not_lt nan y p q = absurd (false≢true p)
le_not_lt (inf s) nan p q = absurd (false≢true q)
le_not_lt (inf true) (inf true) p q = refl
le_not_lt (inf true) (inf false) p q = refl
le_not_lt (inf false) (inf true) p q = refl
le_not_lt (inf false) (inf false) p q = refl
le_not_lt (inf true) (fin t n d) p q = refl
le_not_lt (inf false) (fin t n d) p q = refl
le_not_lt (fin s m e) nan p q = absurd (false≢true q)
le_not_lt (fin s m e) (inf true) p q = refl
le_not_lt (fin s m e) (inf false) p q = refl
le_not_lt (fin s m e) (fin t n d) p q = level_or_below s t (m * up e * down d) (n * up d * down e)

pub at_most_not : (x y : Float) → numeric x ≡ true → numeric y ≡ true → le x y ≡ true → lt y x ≡ false
at_most_not x y p q h = not-true (lt y x) (sym (le_not_lt x y p q) ∙ h)
