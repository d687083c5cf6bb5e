-- What the walk makes of a number's and of a cell's bytes. Assumes nothing.
use mathlib.Core.Path.{◌≡◌, refl, sym, ◌∙◌, ap}
use mathlib.Core.Bool.{true, false, cond, ◌&&◌, and-true, and-false}
use mathlib.Core.List.{List, [], ◌∷◌}
use Rattle.std.specs.List.{fold}
use mathlib.Core.Option.{none, some}
use Prim.Native.Nat.{ℕ, suc, ◌+◌, ◌-◌, ◌*◌, ◌^◌, ◌≤◌, ◌<◌}
use native.Mathlib.Nat.{pow-suc, pow-le-pow_right}
use native.Mathlib.Numerals.{add-one}
use native.Mathlib.Omega.{arith}
use lib.Dec.{eqb, ltb, leb}
use lib.ListN.{length}
use borrow.Author.Tests.{ne_eqb, le-leb, lt-leb, ltb-true, ltb-false, eqb-true, eqb-false}
use Rattle.scope.specs.Lists.{every}
use Rattle.scope.specs.Text.{is_digit, has_leading_zero, value_of, number, positive, cell}
use Rattle.token.specs.Walk.{digit_of, digit_more, cell_more, as_plain, as_number, as_cell}
use Rattle.token.specs.declared.Digits.{Digits}
use Rattle.token.specs.declared.Digits.TheVariants.{Empty, Value, Wrong}
use Rattle.token.specs.declared.Cell.{Cell}
use Rattle.token.specs.declared.Cell.TheVariants.{Plain, Minus}
use Rattle.token.proofs.Tested.{either, within, cond_same}

stays : (bs : List ℕ) → fold digit_more Wrong bs ≡ Wrong
stays [] = refl
stays (b ∷ bs) = ap (λ (g : Digits). fold digit_more g bs) (cond_same (is_digit b) Wrong) ∙ stays bs

-- a walk goes on from an equal place, and ends in nothing once it is wrong
onward : (bs : List ℕ) {g g' : Digits} → g ≡ g' → as_number (fold digit_more g bs) ≡ as_number (fold digit_more g' bs)
onward bs e = ap (λ (g : Digits). as_number (fold digit_more g bs)) e

lost : (bs : List ℕ) {g : Digits} → g ≡ Wrong → as_number (fold digit_more g bs) ≡ none
lost bs e = onward bs e ∙ ap as_number (stays bs)

-- the value v has k digits, the first of which is not 0
module _ (k v : ℕ) (least : 10 ^ k ≤ v * 10) (most : v < 10 ^ k) where
  few : v < 1000000000 → k + 1 ≤ 10
  few h =
      either (ltb k 10) (λ t. omega (arith, ltb-true k 10 t))
      (λ t. let w : 10 ^ 10 ≤ 10 ^ k = pow-le-pow_right (omega arith) {i = 10} {j = k} (ltb-false k 10 t) in absurd (omega arith))

  many : 1000000000 ≤ v → 9 < k
  many h =
      either (ltb 9 k) (λ t. ltb-true 9 k t)
      (λ t. let w : 10 ^ k ≤ 10 ^ 9 = pow-le-pow_right (omega arith) {i = k} {j = 9} (ltb-false 9 k t) in absurd (omega arith))

  room : v < 1000000000 → (d : ℕ) → digit_of (Value v) d ≡ Value (v * 10 + d)
  room h d = rw (ne_eqb v 0 (λ e. omega arith), lt-leb 1000000000 v h)

  full : 1000000000 ≤ v → (d : ℕ) → digit_of (Value v) d ≡ Wrong
  full h d = rw (ne_eqb v 0 (λ e. omega arith), le-leb 1000000000 v h)

  next_least : (d : ℕ) → 10 ^ (k + 1) ≤ (v * 10 + d) * 10
  next_least d = rw (add-one, pow-suc) (omega arith)

  next_most : (d : ℕ) → d < 10 → v * 10 + d < 10 ^ (k + 1)
  next_most d h = rw (add-one, pow-suc) (omega arith)

-- the digits after the first
run : (bs : List ℕ) (k v : ℕ) → k ≤ 10 → 10 ^ k ≤ v * 10 → v < 10 ^ k → as_number (fold digit_more (Value v) bs) ≡ cond (leb (k + length bs) 10 && every is_digit bs) (some (value_of v bs)) none
unfolding every value_of
run [] k v h p q = rw (le-leb (k + 0) 10 (omega arith))
run (b ∷ bs) k v h p q =
    either (is_digit b)
    (λ d.
    let small = within 48 57 b d in
    let e : k + suc (length bs) ≡ (k + 1) + length bs = omega arith in
    either (ltb v 1000000000)
    (λ l.
    let w : v < 1000000000 = ltb-true v 1000000000 l in
    onward bs (rw d (room k v p q w (b - 48)))
    ∙ run bs (k + 1) (v * 10 + (b - 48)) (few k v p q w) (next_least k v p q (b - 48)) (next_most k v p q (b - 48) (omega arith))
    ∙ rw (d, e))
    (λ l.
    let w : 1000000000 ≤ v = ltb-false v 1000000000 l in
    lost bs (rw d (full k v p q w (b - 48)))
    ∙ rw (lt-leb (k + suc (length bs)) 10 (omega (arith, many k v p q w)))))
    (λ d. lost bs (rw d) ∙ rw (d, and-false (leb (k + suc (length bs)) 10)))

-- ---- a whole field as a number
module _ (b : ℕ) (bs : List ℕ) where
  abbrev n : ℕ
  n = suc (length bs)

  some_digits : leb 1 n ≡ true
  some_digits = le-leb 1 n (omega arith)

  no_digit : is_digit b ≡ false → number (b ∷ bs) ≡ none
  unfolding number every
  no_digit d = rw (some_digits, d, and-false (leb n 10))

  leading : has_leading_zero (b ∷ bs) ≡ true → number (b ∷ bs) ≡ none
  unfolding number every
  leading z = rw (z, and-false (leb 1 n && leb n 10 && (is_digit b && every is_digit bs)))

  led : is_digit b ≡ true → has_leading_zero (b ∷ bs) ≡ false → number (b ∷ bs) ≡ cond (leb n 10 && every is_digit bs) (some (value_of (b - 48) bs)) none
  unfolding number every value_of
  led d z = let e : 0 * 10 + (b - 48) ≡ b - 48 = omega arith in rw (z, and-true (leb 1 n && leb n 10 && (is_digit b && every is_digit bs)), some_digits, d, e)

zero_first : (bs : List ℕ) → as_number (fold digit_more (Value 0) bs) ≡ number (48 ∷ bs)
unfolding number every value_of
zero_first [] = refl
zero_first (c ∷ bs) = lost bs (cond_same (is_digit c) Wrong) ∙ sym (leading 48 (c ∷ bs) refl)

not_zero : (b : ℕ) (bs : List ℕ) → eqb b 48 ≡ false → has_leading_zero (b ∷ bs) ≡ false
not_zero b [] z = refl
not_zero b (c ∷ bs) z = z

no_bytes : none ≡ number []
unfolding number
no_bytes = refl

pub walked_number : (f : List ℕ) → as_number (fold digit_more Empty f) ≡ number f
walked_number [] = no_bytes
walked_number (b ∷ bs) =
    either (is_digit b)
    (λ d. either (eqb b 48)
    (λ z. rw (eqb-true b 48 z) (zero_first bs))
    (λ z.
    let small = within 48 57 b d in
    let e : 1 + length bs ≡ suc (length bs) = omega arith in
    onward bs (rw d)
    ∙ run bs 1 (b - 48) (omega arith) (omega (arith, eqb-false b 48 z)) (omega arith)
    ∙ rw (e, led b bs d (not_zero b bs z))))
    (λ d. lost bs (rw d) ∙ sym (no_digit b bs d))

-- ---- a whole field as a cell, and as a number that has no minus
plain_walk : (bs : List ℕ) (g : Digits) → fold cell_more (Plain g) bs ≡ Plain (fold digit_more g bs)
plain_walk [] g = refl
plain_walk (b ∷ bs) g = plain_walk bs (digit_more g b)

minus_walk : (bs : List ℕ) (g : Digits) → fold cell_more (Minus g) bs ≡ Minus (fold digit_more g bs)
minus_walk [] g = refl
minus_walk (b ∷ bs) g = minus_walk bs (digit_more g b)

pub walked_cell : (f : List ℕ) → as_cell (fold cell_more Cell.Empty f) ≡ cell f
unfolding cell
walked_cell [] = refl
walked_cell (b ∷ bs) =
    either (eqb b 45)
    (λ e. rw (e, minus_walk bs Empty, walked_number bs))
    (λ e. rw (e, plain_walk bs (digit_more Empty b)) (ap positive (walked_number (b ∷ bs))))

pub walked_plain : (f : List ℕ) → as_number (as_plain (fold cell_more Cell.Empty f)) ≡ number f
walked_plain [] = no_bytes
walked_plain (b ∷ bs) =
    either (eqb b 45)
    (λ e. rw (e, minus_walk bs Empty) (sym (no_digit b bs (rw (eqb-true b 45 e) refl))))
    (λ e. rw (e, plain_walk bs (digit_more Empty b)) (walked_number (b ∷ bs)))
