-- Forbidden pairs, read from the front. Assumes nothing.
use mathlib.Core.Path.{◌≡◌, refl}
use mathlib.Core.Bool.{◌&&◌}
use mathlib.Core.List.{List, [], ◌∷◌, ◌++◌}
use Prim.Native.Nat.{ℕ, ◌<◌, ◌%◌}
use native.Mathlib.Omega.{arith}
use lib.Dec.{leb, eqb}
use lib.ListN.{length, get_or}
use Rattle.rows.proofs.Pairs.{pair_turn}
use Rattle.scope.specs.Refusals.{well_paired}

-- the pair that comes next, and those left after it
pub paired_turn : (p left next : List ℕ) → left ≡ p ++ next → length p ≡ 2 → well_paired left ≡ (leb (get_or p 0 0) (get_or p 1 0) && well_paired next)
unfolding well_paired
paired_turn p left next e h = rw (pair_turn p left next 0 e h)

-- no whole pair is left
pub paired_end : (left : List ℕ) → length left < 2 → eqb (length left % 2) 0 ≡ well_paired left
unfolding well_paired
paired_end [] h = refl
paired_end (a ∷ []) h = refl
paired_end (a ∷ b ∷ l) h = absurd (omega arith)
