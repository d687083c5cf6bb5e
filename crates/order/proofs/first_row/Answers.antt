-- `order::first_row` meets its contract. Assumes nothing.
use Rattle.std.proofs.Common.{◌≡◌, Bool, true, false, List, [], ◌∷◌, ℕ, ◌<◌, cond, refl, arith, length, get_or}
use lib.Ieee.{Float}
use Rattle.scope.specs.Neighbours.{is_nearer}
use Rattle.order.specs.Rows.{merged}
use Rattle.order.proofs.first_row.Goals as goal

-- the first list has no row
second_only : (ds : List Float) (a b : List ℕ) → length a ≡ 0 → get_or b 0 0 ≡ get_or (merged ds a b) 0 0
unfolding merged
second_only ds [] b h = refl
second_only ds (x ∷ a) b h = absurd (omega arith)

-- both lists have a row
nearer_one : (ds : List Float) (a b : List ℕ) (t : Bool) (x : ℕ) → 0 < length a → 0 < length b → t ≡ is_nearer ds (get_or b 0 0) (get_or a 0 0) → x ≡ cond t (get_or b 0 0) (get_or a 0 0)
    → x ≡ get_or (merged ds a b) 0 0
unfolding merged
nearer_one ds [] b t x h k e f = absurd (omega arith)
nearer_one ds (y ∷ a) [] t x h k e f = absurd (omega arith)
nearer_one ds (y ∷ a) (z ∷ b) true x h k e f = rw (← e) f
nearer_one ds (y ∷ a) (z ∷ b) false x h k e f = rw (← e) f

pub returns-then-is_empty : goal.returns-then-is_empty
returns-then-is_empty c = second_only c.args.ds.now c.args.a.now c.args.b.now (grind (arith, c.is_empty.ensures, c.if-is_empty.true))

pub returns : goal.returns
returns c =
    nearer_one c.args.ds.now c.args.a.now c.args.b.now _ _ (grind (arith, c.is_empty.ensures, c.if-is_empty.false)) c.requires.3 c.compare-compared.ensures.second_value c.compare-compared.ensures.near_value.0
