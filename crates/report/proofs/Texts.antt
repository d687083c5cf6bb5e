-- Texts written one after another, the digits of a number, the most bytes that a number and an origin take, and the fewest of a line. Assumes nothing.
use mathlib.Core.Path.{◌≡◌, refl, sym, ◌∙◌, ap}
use mathlib.Core.Logic.{inr}
use mathlib.Core.List.{List, [], ◌∷◌, ◌++◌, append_assoc}
use Prim.Native.Nat.{ℕ, zero, suc, ◌+◌, ◌-◌, ◌*◌, ◌/◌, ◌%◌, ◌^◌, ◌≤◌, ◌<◌}
use native.Mathlib.Nat.{pow-suc, pow-le-pow_right}
use native.Mathlib.Decide.{dec_le}
use native.Mathlib.Omega.{arith}
use lib.ListN.{length, take, drop, length-append}
use lib.Seq.{length-sets, sets-eq, take_at}
use borrow.Author.Tests.{lt-ltb, le-ltb}
use Rattle.io.specs.Digits.{last_digits, IsDigitCount}
use Rattle.rows.proofs.Stored.{sets_append}
use Rattle.scope.specs.Lists.{holding}
use Rattle.scope.specs.Text.{bytes, decimal_of, decimal, hex_of, line}
use Rattle.scope.specs.Origin.{Origin, direct, layer, draw, origin_text}
use Rattle.scope.specs.Program.{or_refused}
use Rattle.scope.proofs.Digits.{digits_few}
use Rattle.report.specs.Written.{Written}

-- one text after another
pub written_then : {l xs m ys n : List ℕ} {at e f : ℕ} → Written l at xs m e → Written m e ys n f → Written l at (xs ++ ys) n f
written_then {l} {xs} {m} {ys} {at = at} p q =
    record {
      end_is = q.end_is ∙ rw (p.end_is, length-append xs ys) (omega arith);
      after_is = q.after_is ∙ rw (p.after_is, p.end_is) (sym (sets_append l at xs ys));
    }

-- the slice keeps its length
pub written_length : {l xs m : List ℕ} {at e : ℕ} → Written l at xs m e → length m ≡ length l
written_length {l} {xs} {at = at} p = ap length p.after_is ∙ length-sets l at xs

-- a text from the start of a slice on
written_whole : {l xs m : List ℕ} {e : ℕ} → Written l 0 xs m e → length xs ≤ length l → m ≡ holding xs l
written_whole {l} {xs} p h = let e : 0 + length xs ≡ length xs = omega arith in p.after_is ∙ sets-eq xs l 0 (omega arith) ∙ rw e

-- what is so of it is so of what stands there
pub written_so : (P : List ℕ → Type 0) {l xs m : List ℕ} {e : ℕ} → P xs → Written l 0 xs m e → e ≤ length l → Written l 0 xs m e × (P (take e m) × (e ≤ length m))
written_so P {l} {xs} {m} {e} so w h =
    let long : length xs ≡ e = omega (arith, w.end_is) in
    let is : take e m ≡ xs = ap (take e) (written_whole w (omega arith)) ∙ take_at xs (drop (length xs) l) e long in
    (w, (rw is so, omega (arith, written_length w)))

-- a field and its tab, before the rest of a line
pub written_field : (f : List ℕ) {l m rest n : List ℕ} {at e k : ℕ} → Written l at (f ++ (9 ∷ [])) m e → Written m e rest n k → Written l at (f ++ (9 ∷ rest)) n k
written_field f p q = rw append_assoc at (written_then p q)

-- ---- digits
pub hex_digits : (k n : ℕ) → last_digits 16 k n ≡ hex_of k n
unfolding hex_of
hex_digits zero n = refl
hex_digits (suc k) n = rw (hex_digits k (n / 16))

-- n has k + 1 digits, and m are allowed
decimal_digits : (k m n : ℕ) → k < m → n < 10 ^ suc k → (0 < k → 10 ^ k ≤ n) → last_digits 10 (suc k) n ≡ decimal_of m n
unfolding decimal_of
decimal_digits k zero n h p q = absurd (omega arith)
decimal_digits zero (suc m) n h p q = let e : n % 10 ≡ n = omega arith in rw (e, lt-ltb n 10 (omega arith))
decimal_digits (suc k) (suc m) n h p q =
    let one : 10 ^ 0 ≤ 10 ^ k = pow-le-pow_right (omega arith) {i = 0} {j = k} (omega arith) in
    let most : n < 10 ^ k * 10 * 10 = rw (pow-suc, pow-suc) at p in
    let least : 10 ^ k * 10 ≤ n = rw pow-suc at (q (omega arith)) in
    rw (le-ltb n 10 (omega arith)) (rw (decimal_digits k m (n / 10) (omega arith) (rw pow-suc (omega arith)) (λ z. omega arith)))

-- no more digits than a bound on n asks: 20 for 2^64, and 16 in hex
fewest_most : (b least top k n : ℕ) → 1 ≤ b → least ≤ top → n < b ^ top → IsDigitCount b least n k → k ≤ top
fewest_most b least top k n h l p f = go (dec_le k top)
  where
    go : Dec (k ≤ top) → k ≤ top
    go (yes w) = w
    go (no w) =
        let r : b ^ top ≤ b ^ (k - 1) = pow-le-pow_right h {i = top} {j = k - 1} (omega arith) in
        absurd (omega (arith, f.2 (omega arith)))

pub hex_most : (k n : ℕ) → IsDigitCount 16 16 n k → n < 2 ^ 64 → k ≡ 16
hex_most k n f h = omega (arith, f.0, fewest_most 16 16 16 k n (omega arith) (omega arith) (omega arith) f)

-- the fewest digits that hold n
pub decimal_fewest : (k n : ℕ) → IsDigitCount 10 1 n k → n < 2 ^ 64 → last_digits 10 k n ≡ decimal n
decimal_fewest zero n f h = absurd (omega (arith, f.0))
decimal_fewest (suc k) n f h =
    let most : suc k ≤ 20 = fewest_most 10 1 20 (suc k) n (omega arith) (omega arith) (omega arith) f in
    let e : suc k - 1 ≡ k = omega arith in
    decimal_digits k 20 n (omega arith) f.1 (λ z. rw e at (f.2 (omega arith)))

-- ---- the most bytes of a number, and of an origin
pub decimal_most : (n : ℕ) → length (decimal n) ≤ 20
decimal_most n = digits_few 19 20 n (inr (omega arith))

pub origin_most : (o : Origin) → length (origin_text o) ≤ 26
unfolding origin_text bytes
origin_most direct = omega arith
origin_most (layer k) = omega (arith, decimal_most k)
origin_most (draw k) = omega (arith, decimal_most k)

-- ---- a line has its LF at least, also behind others, and a refusal is a line
pub line_some : (fs : List (List ℕ)) → 1 ≤ length (line fs)
unfolding line
line_some [] = omega arith
line_some (f ∷ []) = omega (arith, length-append f (10 ∷ []))
line_some (f ∷ g ∷ fs) = omega (arith, length-append f (9 ∷ line (g ∷ fs)))

pub lines_some : (before : List ℕ) (fs : List (List ℕ)) → 1 ≤ length (before ++ line fs)
lines_some before fs = omega (arith, length-append before (line fs), line_some fs)

pub refused_some : (no : ℕ) (text : List ℕ) → 1 ≤ length text → 1 ≤ length (or_refused no text)
refused_some zero text h = h
refused_some (suc k) text h = line_some _
