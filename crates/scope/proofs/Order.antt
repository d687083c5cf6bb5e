-- The order of floats: `lt` is asymmetric, and a numeric value between two others is above the one or below the other. Assumes nothing.
use mathlib.Core.Path.{◌≡◌, refl, sym, ◌∙◌}
use mathlib.Core.Logic.{◌⊎◌, inl, inr}
use mathlib.Core.Bool.{Bool, true, false, true≢false, false≢true}
use Prim.Native.Nat.{ℕ, zero, suc, ◌+◌, ◌*◌, ◌≤◌, ◌<◌}
use native.Mathlib.Nat.{mul-pos}
use native.Mathlib.Omega.{arith}
use borrow.Author.Tests.{ltb-true, ltb-false, lt-ltb, le-ltb}
use lib.Dec.{ltb}
use lib.IntN.{ℤ, pos, negsuc}
use lib.Pow.{pow_pos}
use lib.Ieee.{Float, nan, inf, fin, up, down, below, lt}
use lib.Ieee.Positive.{through, first_pos}
use Rattle.scope.specs.Greatest.{numeric}

down_pos : (e : ℤ) → 0 < down e
down_pos (pos k) = omega arith
down_pos (negsuc k) = pow_pos (suc k)

pub both : {X : Type 0} {b : Bool} → b ≡ true → b ≡ false → X
both h k = absurd (true≢false (sym h ∙ k))

-- X / p < Z / r, and not Y / q < Z / r, and so X / p < Y / q: for signs s, u, v and denominators above 0
module _ (X p Y q Z r : ℕ) (P : 0 < p) (Q : 0 < q) (R : 0 < r) where
  up_to : X * r < Z * p → Z * q ≤ Y * r → ltb (X * q) (Y * p) ≡ true
  up_to h k = go (ltb (X * q) (Y * p)) refl
    where
      go : (b : Bool) → ltb (X * q) (Y * p) ≡ b → b ≡ true
      go true t = refl
      go false t = absurd (let back : Z * p ≤ X * r = through Z Y X r q p Q k (ltb-false (X * q) (Y * p) t) in omega arith)

  down_to : Z * p < X * r → Y * r ≤ Z * q → ltb (Y * p) (X * q) ≡ true
  down_to h k = go (ltb (Y * p) (X * q)) refl
    where
      go : (b : Bool) → ltb (Y * p) (X * q) ≡ b → b ≡ true
      go true t = refl
      go false t = absurd (let back : X * r ≤ Z * p = through X Y Z p q r Q (ltb-false (Y * p) (X * q) t) k in omega arith)

  -- X or Y is above 0
  some : 0 < X ⊎ 0 < Y → 0 < X * q + Y * p
  some (inl x) = omega (arith, mul-pos x Q)
  some (inr y) = omega (arith, mul-pos y P)

below_co : (s u v : Bool) (X p Y q Z r : ℕ) → 0 < p → 0 < q → 0 < r → below s (X * r) v (Z * p) ≡ true → below u (Y * r) v (Z * q) ≡ false → below s (X * q) u (Y * p) ≡ true
below_co false false false X p Y q Z r P Q R h k = up_to X p Y q Z r P Q R (ltb-true _ _ h) (ltb-false _ _ k)
below_co false false true X p Y q Z r P Q R h k = absurd (false≢true h)
below_co false true false X p Y q Z r P Q R h k =
    absurd (let z = mul-pos (first_pos Z p (omega (arith, ltb-true))) Q in omega (arith, ltb-false))
below_co false true true X p Y q Z r P Q R h k = absurd (false≢true h)
below_co true false false X p zero q zero r P Q R h k = lt-ltb _ _ (some X p 0 q 0 r P Q R (inl (first_pos X r (omega (arith, ltb-true)))))
below_co true false false X p zero q (suc z) r P Q R h k = absurd (omega (arith, ltb-false))
below_co true false false X p (suc y) q Z r P Q R h k = lt-ltb _ _ (some X p (suc y) q Z r P Q R (inr (omega arith)))
below_co true false true X p Y q Z r P Q R h k = lt-ltb _ _ (some X p Y q Z r P Q R (inl (first_pos X r (omega (arith, ltb-true)))))
below_co true true false X p zero q zero r P Q R h k = lt-ltb (0 * p) (X * q) (let x = mul-pos (first_pos X r (omega (arith, ltb-true))) Q in omega arith)
below_co true true false X p (suc y) q Z r P Q R h k = absurd (omega (arith, ltb-false))
below_co true true false X p zero q (suc z) r P Q R h k = absurd (omega (arith, ltb-false))
below_co true true true X p Y q Z r P Q R h k = down_to X p Y q Z r P Q R (ltb-true _ _ h) (ltb-false _ _ k)

-- x < z, and not y < z, and so x < y, if y is numeric
pub lt_co : (x y z : Float) → numeric y ≡ true → lt x z ≡ true → lt y z ≡ false → lt x y ≡ true
unfolding lt
lt_co nan y z n h k = absurd (false≢true h)
lt_co (inf s) nan z n h k = absurd (false≢true n)
lt_co (inf true) (inf true) z n h k = both h k
lt_co (inf true) (inf false) z n h k = refl
lt_co (inf false) (inf u) nan n h k = absurd (false≢true h)
lt_co (inf false) (inf u) (inf v) n h k = absurd (false≢true h)
lt_co (inf false) (inf u) (fin v o c) n h k = absurd (false≢true h)
lt_co (inf true) (fin u b d) z n h k = refl
lt_co (inf false) (fin u b d) nan n h k = absurd (false≢true h)
lt_co (inf false) (fin u b d) (inf v) n h k = absurd (false≢true h)
lt_co (inf false) (fin u b d) (fin v o c) n h k = absurd (false≢true h)
lt_co (fin s a e) nan z n h k = absurd (false≢true n)
lt_co (fin s a e) (inf false) z n h k = refl
lt_co (fin s a e) (inf true) nan n h k = absurd (false≢true h)
lt_co (fin s a e) (inf true) (inf v) n h k = both h k
lt_co (fin s a e) (inf true) (fin v o c) n h k = absurd (true≢false k)
lt_co (fin s a e) (fin u b d) nan n h k = absurd (false≢true h)
lt_co (fin s a e) (fin u b d) (inf v) n h k = both h k
lt_co (fin s a e) (fin u b d) (fin v o c) n h k =
    below_co s u v (a * up e) (down e) (b * up d) (down d) (o * up c) (down c) (down_pos e) (down_pos d) (down_pos c) h k

below_asym : (s t : Bool) (a b : ℕ) → below s a t b ≡ true → below t b s a ≡ false
below_asym false false a b h = le-ltb b a (omega (arith, ltb-true))
below_asym false true a b h = absurd (false≢true h)
below_asym true false a b h = refl
below_asym true true a b h = le-ltb a b (omega (arith, ltb-true))

pub lt_asym : (x y : Float) → lt x y ≡ true → lt y x ≡ false
unfolding lt
lt_asym nan y h = absurd (false≢true h)
lt_asym (inf s) nan h = refl
lt_asym (inf true) (inf true) h = refl
lt_asym (inf true) (inf false) h = refl
lt_asym (inf false) (inf t) h = absurd (false≢true h)
lt_asym (inf true) (fin t n d) h = refl
lt_asym (inf false) (fin t n d) h = absurd (false≢true h)
lt_asym (fin s m e) nan h = refl
lt_asym (fin s m e) (inf true) h = absurd (false≢true h)
lt_asym (fin s m e) (inf false) h = refl
lt_asym (fin s m e) (fin t n d) h = below_asym s t (m * up e * down d) (n * up d * down e) h

-- what is above something is numeric, and above minus infinity
pub lt_numeric : (x y : Float) → lt x y ≡ true → numeric y ≡ true
unfolding lt
lt_numeric nan y h = absurd (false≢true h)
lt_numeric (inf s) nan h = h
lt_numeric (inf s) (inf t) h = refl
lt_numeric (inf s) (fin t n d) h = refl
lt_numeric (fin s m e) nan h = h
lt_numeric (fin s m e) (inf t) h = refl
lt_numeric (fin s m e) (fin t n d) h = refl

pub lt_irrefl : (x : Float) → lt x x ≡ false
lt_irrefl x = go (lt x x) refl
  where
    go : (b : Bool) → lt x x ≡ b → lt x x ≡ false
    go true h = lt_asym x x h
    go false h = h

pub lt_trans : (x y z : Float) → lt x y ≡ true → lt y z ≡ true → lt x z ≡ true
lt_trans x y z h k = lt_co x z y (lt_numeric y z k) h (lt_asym y z k)

pub lt_lowest : (x y : Float) → lt x y ≡ true → lt (inf true) y ≡ true
unfolding lt
lt_lowest nan y h = absurd (false≢true h)
lt_lowest (inf s) nan h = h
lt_lowest (inf true) (inf t) h = h
lt_lowest (inf false) (inf t) h = absurd (false≢true h)
lt_lowest (inf s) (fin t n d) h = refl
lt_lowest (fin s m e) nan h = h
lt_lowest (fin s m e) (inf t) h = h
lt_lowest (fin s m e) (fin t n d) h = refl
