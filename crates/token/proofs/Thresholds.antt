-- What the walk makes of a threshold's bytes. Assumes nothing.
use mathlib.Core.Path.{◌≡◌, refl, ◌∙◌, ap}
use mathlib.Core.Bool.{true, false, cond, ◌&&◌, and-true, and-false}
use mathlib.Core.List.{List, [], ◌∷◌}
use Rattle.std.specs.List.{fold}
use mathlib.Core.Option.{none, some}
use Rattle.std.specs.Prelude.{Option, Some, None}
use Prim.Native.Nat.{ℕ, suc, ◌+◌, ◌-◌, ◌*◌, ◌^◌, ◌≤◌, ◌<◌}
use native.Mathlib.Nat.{pow-suc, pow-le-pow_right}
use native.Mathlib.Numerals.{add-one}
use native.Mathlib.Omega.{arith}
use lib.Dec.{eqb, ltb, leb}
use lib.ListN.{length}
use borrow.Author.Tests.{ne_eqb, le-leb, lt-leb, ltb-true, ltb-false}
use Rattle.scope.specs.Lists.{every}
use Rattle.scope.specs.Text.{is_digit, is_hex_digit, hex_value, hex_value_of, threshold}
use Rattle.token.specs.Walk.{hex_digit, place_more, hex_more, as_bits}
use Rattle.token.specs.declared.Places.{Places}
use Rattle.token.proofs.Tested.{either, within}

-- a byte is a digit, of the value that the definitions give it, or it is none
data Sort (b : ℕ) : Type 0 where
  digit : is_hex_digit b ≡ true → hex_digit b ≡ Some (hex_value b) → hex_value b < 16 → Sort b
  other : is_hex_digit b ≡ false → hex_digit b ≡ None → Sort b

sort : (b : ℕ) → Sort b
sort b =
    either (is_digit b)
    (λ d. let w = within 48 57 b d in digit (rw d) (rw d) (rw d (omega arith)))
    (λ d. either (leb 97 b && leb b 102)
    (λ l.
    let w = within 97 102 b l in
    let e : b - 97 + 10 ≡ b - 87 = omega arith in
    digit (rw (d, l)) (rw (d, l, e)) (rw d (omega arith)))
    (λ l. other (rw (d, l)) (rw (d, l))))

stays : (bs : List ℕ) → fold hex_more None bs ≡ None
stays [] = refl
stays (b ∷ bs) = stays bs

onward : (bs : List ℕ) {h h' : Option Places} → h ≡ h' → as_bits (fold hex_more h bs) ≡ as_bits (fold hex_more h' bs)
onward bs e = ap (λ (h : Option Places). as_bits (fold hex_more h bs)) e

lost : (bs : List ℕ) {h : Option Places} → h ≡ None → as_bits (fold hex_more h bs) ≡ none
lost bs e = onward bs e ∙ ap as_bits (stays bs)

abbrev places : ℕ → ℕ → Places
places k v = record { count = k; bits = v }

-- the bits v have k places
module _ (k v d : ℕ) (h : k < 16) (q : v < 16 ^ k) (s : d < 16) where
  small : v < 0x1000_0000_0000_0000
  small = let w : 16 ^ k ≤ 16 ^ 15 = pow-le-pow_right (omega arith) {i = k} {j = 15} (omega arith) in omega arith

  room : place_more (places k v) d ≡ Some (places (k + 1) (v * 16 + d))
  room = rw (lt-leb 16 k h, lt-leb 0x1000_0000_0000_0000 v small)

  next : v * 16 + d < 16 ^ (k + 1)
  next = rw (add-one, pow-suc) (omega arith)

-- k places that give v, and then the bytes bs
abbrev Comes : List ℕ → ℕ → ℕ → Type 0
Comes bs k v = as_bits (fold hex_more (Some (places k v)) bs) ≡ cond (eqb (k + length bs) 16 && every is_hex_digit bs) (some (hex_value_of v bs)) none

one_more : (b : ℕ) (bs : List ℕ) (k v : ℕ) → k ≤ 16 → v < 16 ^ k → Sort b → ((v' : ℕ) → k + 1 ≤ 16 → v' < 16 ^ (k + 1) → Comes bs (k + 1) v') → Comes (b ∷ bs) k v
unfolding every hex_value_of
one_more b bs k v h q (digit i e s) ih =
    let n : k + suc (length bs) ≡ (k + 1) + length bs = omega arith in
    either (ltb k 16)
    (λ t.
    let w : k < 16 = ltb-true k 16 t in
    onward bs (rw e (room k v (hex_value b) w q s)) ∙ ih (v * 16 + hex_value b) (omega arith) (next k v (hex_value b) w q s) ∙ rw (i, n))
    (λ t.
    let w : 16 ≤ k = ltb-false k 16 t in
    lost bs (rw (e, le-leb 16 k w)) ∙ rw (ne_eqb (k + suc (length bs)) 16 (λ z. omega arith)))
one_more b bs k v h q (other i e) ih = lost bs (rw e) ∙ rw (i, and-false (eqb (k + suc (length bs)) 16))

run : (bs : List ℕ) (k v : ℕ) → k ≤ 16 → v < 16 ^ k → Comes bs k v
unfolding every hex_value_of
run [] k v h q = let e : k + 0 ≡ k = omega arith in rw (e, and-true (eqb k 16))
run (b ∷ bs) k v h q = one_more b bs k v h q (sort b) (run bs (k + 1))

-- a whole field
pub walked_threshold : (f : List ℕ) → as_bits (fold hex_more (Some (places 0 0)) f) ≡ threshold f
unfolding threshold
walked_threshold f = let e : 0 + length f ≡ length f = omega arith in run f 0 0 (omega arith) (omega arith) ∙ rw e
