-- What holds where a size is not refused, and what is told where a number is. Assumes nothing.
use mathlib.Core.Path.{◌≡◌, refl}
use mathlib.Core.Bool.{false, not}
use mathlib.Core.List.{List, []}
use Prim.Native.Nat.{ℕ, zero, suc, ◌*◌, ◌^◌, ◌≤◌}
use native.Mathlib.Nat.{mul-le-mul}
use native.Mathlib.Omega.{arith}
use borrow.Author.Tests.{ltb-false, eqb-true, not-false}
use lib.Dec.{T, ltb, eqb, le→leb}
use lib.IntN.{pos}
use lib.Ieee.{Float, in_float, binary64}
use lib.ListN.{length}
use Rattle.scope.specs.Refusals.{refused, unless, told_unless, left_unless, outside, wrong_sizes, wrong_matrix, wrong_segment, wrong_split}
use Rattle.scope.proofs.Candidates.{or_false, not_outside}

pub product_small : (n d : ℕ) → n ≤ 4097 → d ≤ 64 → n * d ≤ 262208
product_small n d a b = mul-le-mul a b

-- sizes that are not refused
pub record Sizes (most n d : ℕ) : Type 0 where
  pub rows : (1 ≤ n) × (n ≤ most)
  pub columns : (1 ≤ d) × (d ≤ 64)

pub sizes : (most n d : ℕ) → wrong_sizes most n d ≡ false → Sizes most n d
sizes most n d e = let (i, j) = or_false (outside most n) (outside 64 d) e in record { rows = not_outside most n i; columns = not_outside 64 d j }

-- a matrix that is not refused
pub record Matrix (most : ℕ) (cells : List Float) (n d : ℕ) : Type 0 where
  pub rows : (1 ≤ n) × (n ≤ most)
  pub columns : (1 ≤ d) × (d ≤ 64)
  pub long : length cells ≡ n * d

pub matrix : (most : ℕ) (cells : List Float) (n d : ℕ) → wrong_matrix most cells n d ≡ false → Matrix most cells n d
unfolding wrong_matrix
matrix most cells n d e =
    let (a, b) = or_false (wrong_sizes most n d) (not (eqb (length cells) (n * d))) e in
    let s = sizes most n d a in
    record { rows = s.rows; columns = s.columns; long = eqb-true (length cells) (n * d) (not-false _ b) }

pub segment : (n start stop : ℕ) → wrong_segment n start stop ≡ false → (start ≤ stop) × (stop ≤ n)
unfolding wrong_segment
segment n start stop e = let (a, b) = or_false (ltb stop start) (ltb n stop) e in (ltb-false stop start a, ltb-false n stop b)

pub split_in : (start stop split : ℕ) → wrong_split start stop split ≡ false → (start ≤ split) × (split ≤ stop)
unfolding wrong_split
split_in start stop x e = let (a, b) = or_false (ltb x start) (ltb stop x) e in (ltb-false x start a, ltb-false stop x b)

-- ---- a number above 0 is the answer, and nothing is told
pub unless_refused : {A : Type 0} (k : ℕ) (a : A) → (k ≡ 0 → ⊥) → unless k a ≡ refused k
unless_refused zero a h = absurd (h refl)
unless_refused (suc k) a h = refl

pub told_nothing : {A : Type 0} (k : ℕ) (l : List A) → (k ≡ 0 → ⊥) → told_unless k l ≡ []
told_nothing zero l h = absurd (h refl)
told_nothing (suc k) l h = refl

pub left_alone : {A : Type 0} (k : ℕ) (before after : List A) → (k ≡ 0 → ⊥) → left_unless k before after ≡ before
left_alone zero before after h = absurd (h refl)
left_alone (suc k) before after h = refl

-- a whole number that is small is a float
pub small : (n : ℕ) → n ≤ 4096 → T (in_float binary64 (pos n))
unfolding in_float
small n h = le→leb n (2 ^ 53) (omega arith)
