-- The pairs of a forbidden list from the front: the first that bars the row. Assumes nothing.
use Rattle.std.proofs.Common.{◌≡◌, ℕ, ◌<◌, List, [], ◌∷◌, ◌++◌, length, get_or, ltb, leb, cond, ◌&&◌, refl, arith}
use Rattle.scope.specs.Why.{by, free, first_barring}

-- the pair in front, and the pairs behind it
pub pair_in_front : (p ps : List ℕ) (x : ℕ) → length p ≡ 2
    → first_barring (p ++ ps) x ≡ cond (ltb (get_or p 0 0) x && leb x (get_or p 1 0)) (by (get_or p 0 0) (get_or p 1 0)) (first_barring ps x)
unfolding first_barring
pair_in_front [] ps x h = absurd (omega arith)
pair_in_front (a ∷ []) ps x h = absurd (omega arith)
pair_in_front (a ∷ b ∷ []) ps x h = refl
pair_in_front (a ∷ b ∷ c ∷ p) ps x h = absurd (omega arith)

-- a list without a pair
pub short : (l : List ℕ) (x : ℕ) → length l < 2 → first_barring l x ≡ free
unfolding first_barring
short [] x h = refl
short (a ∷ []) x h = refl
short (a ∷ b ∷ l) x h = absurd (omega arith)
