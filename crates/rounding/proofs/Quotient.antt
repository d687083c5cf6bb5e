-- The whole number nearest to n / d, where twice the remainder is below d. Assumes nothing.
use Rattle.std.proofs.Common.{◌≡◌, ℕ, ◌*◌, ◌/◌, ◌%◌, ◌<◌, true, false, refl, ap, ◌∙◌, true≢false, le_of_lt, mod-eq_of_lt, ne_of_lt, arith, ne_eqb, le-leb}
use mathlib.Core.Bool.{false≢true}
use Prim.Native.Nat.{compare, Ordering}
use native.Mathlib.Nat.{div-eq_of_lt}
use lib.Dec.{is_le, compare_is_eq}
use lib.Ieee.{nearest}
use lib.Ieee.Nearest.{closest}

is_lt : (o : Ordering) → is_le o ≡ true → compare_is_eq o ≡ false → o ≡ Ordering.lt
is_lt Ordering.lt p q = refl
is_lt Ordering.eq p q = absurd (true≢false q)
is_lt Ordering.gt p q = absurd (false≢true p)

module _ (n d : ℕ) where
  pub closest_down : n % d * 2 < d → closest n d ≡ n / d
  closest_down h = ap (nearest (n / d)) (is_lt (compare (n % d * 2) d) (le-leb _ _ (le_of_lt h)) (ne_eqb _ _ (ne_of_lt h)))

  pub closest_zero : n * 2 < d → closest n d ≡ 0
  closest_zero h =
      let l : n < d = omega arith in
      closest_down (rw (mod-eq_of_lt l) h) ∙ div-eq_of_lt l
