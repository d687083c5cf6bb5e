-- Tests: what `search` is handed where a function follows its definition test by test, and how a law goes by a test. Assumes nothing.
use mathlib.Core.Path.{◌≡◌, refl}
use mathlib.Core.Bool.{Bool, true, false, cond, ◌&&◌, false≢true}
use Prim.Native.Nat.{ℕ, ◌≤◌}
use lib.Dec.{leb}
use borrow.Author.Tests.{eq-eqb, ne_eqb, lt-ltb, le-ltb, le-leb, lt-leb, leb-true}

-- the value of each test from the fact that its branch gives
pub ruleset tested = (eq-eqb, ne_eqb, lt-ltb, le-ltb, le-leb, lt-leb)

pub either : {P : Type 0} (t : Bool) → (t ≡ true → P) → (t ≡ false → P) → P
either true f g = f refl
either false f g = g refl

pub cond_same : {A : Type 0} (t : Bool) (a : A) → cond t a a ≡ a
cond_same true a = refl
cond_same false a = refl

pub within : (a c b : ℕ) → (leb a b && leb b c) ≡ true → (a ≤ b) × (b ≤ c)
within a c b h = either (leb a b) (λ l. (leb-true a b l, leb-true b c (rw l at h))) (λ l. absurd (false≢true (rw l at h)))
