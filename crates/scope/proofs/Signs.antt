-- "NaN can't arise from finite cells": a finite float and a numeric one have a numeric sum, and finite ones a numeric difference, whose square is
-- +0, above 0 or +infinity, and so is a sum of such, a squared distance; and a quotient by a whole number above 0 is numeric. Assumes nothing.
use mathlib.Core.Path.{◌≡◌, refl, ◌∙◌}
use mathlib.Core.Bool.{Bool, true, false, not, cond, ◌&&◌, beq, false≢true}
use mathlib.Core.List.{List, [], ◌∷◌}
use Prim.Native.Nat.{ℕ, zero, suc, ◌+◌, ◌*◌, ◌^◌, ◌-◌, ◌/◌, ◌%◌, ◌≤◌, ◌<◌, compare}
use native.Mathlib.Decide.{dec_lt}
use native.Mathlib.Nat.{add-mul, mul-pos, mul-le-mul_right}
use native.Mathlib.Omega.{arith}
use borrow.Author.Tests.{ne_eqb}
use lib.Dec.{ltb}
use lib.IntN.{ℤ, pos}
use lib.Count.{count_trailing_zeros}
use lib.Ieee.{Float, nan, inf, fin, Format, binary64, low, emax, prec, size, nearest, minus, odd, units, round, sum, neg, add, sub, mul, div, of_int, unlike, up, down}
use lib.Ieee.Exact.{HasValue}
use lib.Ieee.Back.{round_whole}
use lib.Ieee.Fits.{down_pos}
use lib.Ieee.Positive.{first_pos}
use lib.ListN.{length, get_or, length-append, get_or-append}
use lib.Seq.{get_or_at}
use Rattle.scope.specs.Floats.{is_finite}
use Rattle.scope.specs.Greatest.{numeric}
use Rattle.scope.specs.Lists.{at, every}
use Rattle.scope.specs.Neighbours.{difference, squares, distances}
use Rattle.scope.proofs.Members.{at_in, every_of}

-- without a sign: +0, above 0 or +infinity
abbrev pub unsigned : Float → Bool
unsigned nan = false
unsigned (inf s) = not s
unsigned (fin s m e) = not s

pub unsigned_numeric : (x : Float) → unsigned x ≡ true → numeric x ≡ true
unsigned_numeric nan h = h
unsigned_numeric (inf s) h = refl
unsigned_numeric (fin s m e) h = refl

-- what rounding gives: a finite float or an infinity, of the sign that it is told
module _ (P : Float → Type 0) (f : Format) (s : Bool) (finitely : (m : ℕ) (e : ℤ) → P (fin s m e)) (infinitely : P (inf s)) where
  odd_any : (d q k l : ℕ) → P (odd d s q k l)
  unfolding odd
  odd_any d zero k l = finitely 0 (pos 0)
  odd_any d (suc q) k l = let t = count_trailing_zeros d (suc q) in finitely (suc q / 2 ^ t) (minus (k + t) l)

  pick_any : (b : Bool) (x y : Float) → P x → P y → P (cond b x y)
  pick_any true x y h k = h
  pick_any false x y h k = k

  units_any : (q k : ℕ) → P (units f s q k)
  unfolding units
  units_any q k = pick_any (ltb (q * 2 ^ k) (2 ^ (low f + suc (emax f)))) (odd (suc (prec f)) s q k (low f)) (inf s) (odd_any (suc (prec f)) q k (low f)) infinitely

  round_any : (a c : ℕ) → P (round f s a c)
  unfolding round
  round_any a c =
      let n = a * 2 ^ low f in
      let k = size (n / c) - prec f in
      let u = c * 2 ^ k in
      units_any (nearest (n / u) (compare (n % u * 2) u)) k

module _ (f : Format) where
  round_unsigned : (a c : ℕ) → unsigned (round f false a c) ≡ true
  round_unsigned a c = round_any (λ x. unsigned x ≡ true) f false (λ m e. refl) refl a c

  round_numeric : (s : Bool) (a c : ℕ) → numeric (round f s a c) ≡ true
  round_numeric s a c = round_any (λ x. numeric x ≡ true) f s (λ m e. refl) refl a c

  sum_numeric : (s : Bool) (a : ℕ) (t : Bool) (b c : ℕ) → numeric (sum f s a t b c) ≡ true
  unfolding sum
  sum_numeric s a t b c =
      pick (beq s t) (round f s (a + b) c) (cond (ltb a b) (round f t (b - a) c) (round f (s && ltb b a) (a - b) c)) (round_numeric s (a + b) c)
      (pick (ltb a b) (round f t (b - a) c) (round f (s && ltb b a) (a - b) c) (round_numeric t (b - a) c) (round_numeric (s && ltb b a) (a - b) c))
    where
      pick : (b : Bool) (x y : Float) → numeric x ≡ true → numeric y ≡ true → numeric (cond b x y) ≡ true
      pick true x y h k = h
      pick false x y h k = k

  pub add_numeric : (x y : Float) → is_finite x ≡ true → numeric y ≡ true → numeric (add f x y) ≡ true
  unfolding add
  add_numeric nan y h k = absurd (false≢true h)
  add_numeric (inf s) y h k = absurd (false≢true h)
  add_numeric (fin s m e) nan h k = k
  add_numeric (fin s m e) (inf t) h k = refl
  add_numeric (fin s m e) (fin t n d) h k = sum_numeric s (m * up e * down d) t (n * up d * down e) (down e * down d)

  neg_numeric : (x : Float) → is_finite x ≡ true → numeric (neg x) ≡ true
  unfolding neg
  neg_numeric nan h = h
  neg_numeric (inf s) h = refl
  neg_numeric (fin s m e) h = refl

  pub difference_numeric : (x y : Float) → is_finite x ≡ true → is_finite y ≡ true → numeric (sub f x y) ≡ true
  unfolding sub
  difference_numeric x y h k = add_numeric x (neg y) h (neg_numeric y k)

  -- y is the whole number b, above 0
  div_numeric : (x y : Float) (b : ℕ) → numeric x ≡ true → HasValue y false b 1 → 0 < b → numeric (div f x y) ≡ true
  unfolding div
  div_numeric x nan b h v p = absurd v
  div_numeric x (inf t) b h v p = absurd v
  div_numeric nan (fin t n d) b h v p = h
  div_numeric (inf s) (fin t n d) b h v p = refl
  div_numeric (fin s m e) (fin t n d) b h v p =
      let above : 0 < n * up d = omega (arith, v.1, mul-pos p (down_pos d)) in
      let at = first_pos n (up d) above in
      rw (ne_eqb n 0 (λ z. omega arith)) (round_numeric (unlike s t) (m * up e * down d) (n * up d * down e))

  pub quotient_numeric : (a b : ℕ) → 0 < b → b ≤ 2 ^ prec f → numeric (div f (of_int f (pos a)) (of_int f (pos b))) ≡ true
  unfolding of_int
  quotient_numeric a b p l = div_numeric (round f false a 1) (round f false b 1) b (round_numeric false a 1) (round_whole f false b l) p

  pub square_unsigned : (x : Float) → numeric x ≡ true → unsigned (mul f x x) ≡ true
  unfolding mul
  square_unsigned nan h = h
  square_unsigned (inf true) h = refl
  square_unsigned (inf false) h = refl
  square_unsigned (fin true m e) h = round_unsigned (m * up e * (m * up e)) (down e * down e)
  square_unsigned (fin false m e) h = round_unsigned (m * up e * (m * up e)) (down e * down e)

  pub sum_unsigned : (x y : Float) → unsigned x ≡ true → unsigned y ≡ true → unsigned (add f x y) ≡ true
  unfolding add sum
  sum_unsigned nan y h k = absurd (false≢true h)
  sum_unsigned (inf true) y h k = absurd (false≢true h)
  sum_unsigned (inf false) nan h k = k
  sum_unsigned (inf false) (inf true) h k = absurd (false≢true k)
  sum_unsigned (inf false) (inf false) h k = refl
  sum_unsigned (inf false) (fin t n d) h k = refl
  sum_unsigned (fin true m e) y h k = absurd (false≢true h)
  sum_unsigned (fin false m e) nan h k = k
  sum_unsigned (fin false m e) (inf t) h k = k
  sum_unsigned (fin false m e) (fin true n d) h k = absurd (false≢true k)
  sum_unsigned (fin false m e) (fin false n d) h k = round_unsigned (m * up e * down d + n * up d * down e) (down e * down d)

-- ---- the squared distances of row i, by the row they lead to
module _ (cells : List Float) (d i : ℕ) where
  pub length_distances : (k : ℕ) → length (distances cells d i k) ≡ k
  unfolding distances
  length_distances zero = refl
  length_distances (suc k) = length-append (distances cells d i k) (squares cells d i k d ∷ []) ∙ rw (length_distances k) (omega arith)

  pub distance_at : (k j : ℕ) (x : Float) → j < k → get_or (distances cells d i k) j x ≡ squares cells d i j d
  unfolding distances
  distance_at zero j x h = absurd (omega arith)
  distance_at (suc k) j x h = go (distance_at k j x) (dec_lt j k)
    where
      go : (j < k → get_or (distances cells d i k) j x ≡ squares cells d i j d) → Dec (j < k) → get_or (distances cells d i (suc k)) j x ≡ squares cells d i j d
      go earlier (yes l) = get_or-append (distances cells d i k) (squares cells d i k d ∷ []) x j (omega (arith, length_distances k)) ∙ earlier l
      go earlier (no l) =
          let e : j ≡ k = omega arith in
          rw e (get_or_at (distances cells d i k) (squares cells d i k d) [] x k (length_distances k))

module _ (cells : List Float) (n d : ℕ) (finite : every is_finite cells ≡ true) (sized : length cells ≡ n * d) where
  pub cell_finite : (i c : ℕ) → i < n → c < d → is_finite (at cells (i * d + c)) ≡ true
  cell_finite i c h k = every_of is_finite cells finite _ (at_in cells (i * d + c) nan (omega (arith, mul-le-mul_right d h, add-mul i 1 d)))

  -- a squared distance, over the first c columns
  pub squares_unsigned : (i j c : ℕ) → i < n → j < n → c ≤ d → unsigned (squares cells d i j c) ≡ true
  unfolding squares difference
  squares_unsigned i j zero h k l = refl
  squares_unsigned i j (suc c) h k l =
      sum_unsigned binary64 (squares cells d i j c) _ (squares_unsigned i j c h k (omega arith))
      (square_unsigned binary64 _ (difference_numeric binary64 _ _ (cell_finite i c h (omega arith)) (cell_finite j c k (omega arith))))

  pub distance_numeric : (i j : ℕ) → i < n → j < n → numeric (squares cells d i j d) ≡ true
  distance_numeric i j h k = unsigned_numeric (squares cells d i j d) (squares_unsigned i j d h k (omega arith))
