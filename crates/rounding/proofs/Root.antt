-- The whole square root: its bounds, and that no other number has them. Assumes nothing.
use Rattle.std.proofs.Common.{◌≡◌, ℕ, zero, suc, ◌+◌, ◌*◌, ◌<◌, ◌≤◌, Bool, true, false, cond, leb, refl, add-mul, mul-le-mul, le_antisymm, mul-add, le-mul_of_pos_right, arith, leb-false, leb-true}
use native.Mathlib.Decide.{dec_lt}
use Rattle.scope.specs.Rounding.{whole_root}

pub square_ge : (k : ℕ) → k ≤ k * k
square_ge zero = omega arith
square_ge (suc k) = le-mul_of_pos_right (suc k) (omega arith)

-- k is the root of l
abbrev pub IsRoot : ℕ → ℕ → Type 0
IsRoot l k = (k * k ≤ l) × (l < (k + 1) * (k + 1))

-- the next l has the next root, if its square is not above it
step : (l k : ℕ) (t : Bool) → leb ((k + 1) * (k + 1)) (suc l) ≡ t → IsRoot l k → IsRoot (suc l) (cond t (k + 1) k)
step l k true h r = omega (arith, leb-true, mul-add (k + 1 + 1) (k + 1) 1, add-mul (k + 1) 1 (k + 1))
step l k false h r = omega (arith, leb-false)

pub root_is : (l : ℕ) → (whole_root l * whole_root l ≤ l) × (l < (whole_root l + 1) * (whole_root l + 1))
unfolding whole_root
root_is zero = omega arith
root_is (suc l) = step l (whole_root l) (leb ((whole_root l + 1) * (whole_root l + 1)) (suc l)) refl (root_is l)

at_most : (a b : ℕ) → a * a < (b + 1) * (b + 1) → a ≤ b
at_most a b h = elim (dec_lt b a) [ yes l ↦ absurd (let m : (b + 1) * (b + 1) ≤ a * a = mul-le-mul (omega arith) (omega arith) in omega arith) | no g ↦ omega arith ]

pub root_only : (l k : ℕ) → k * k ≤ l → l < (k + 1) * (k + 1) → k ≡ whole_root l
root_only l k low high =
    let r = root_is l in
    le_antisymm (at_most k (whole_root l) (omega arith)) (at_most (whole_root l) k (omega arith))
