-- Whether a draw stops past the run, pair by pair. Assumes nothing.
use Rattle.std.proofs.Common.{◌≡◌, Bool, true, false, not, ◌&&◌, ◌||◌, List, [], ◌∷◌, ◌++◌, ℕ, ◌<◌, refl, arith, length, get_or}
use Rattle.rows.proofs.Pairs.{pair_turn}
use Rattle.scope.specs.Lists.{every}
use Rattle.scope.specs.Draws.{pairs_of, is_past, any_past}

module _ (n : ℕ) where
  -- the pair that comes next, and those left after it
  pub past_turn : (p left next : List ℕ) → left ≡ p ++ next → length p ≡ 2 → any_past n left ≡ (is_past n (record { start = get_or p 0 0; stop = get_or p 1 0 }) || any_past n next)
  unfolding any_past pairs_of every
  past_turn p left next e h = rw (pair_turn p left next 0 e h) (go (is_past n (record { start = get_or p 0 0; stop = get_or p 1 0 })) (every (λ s. not (is_past n s)) (pairs_of next)))
    where
      go : (a b : Bool) → not (not a && b) ≡ (a || not b)
      go true b = refl
      go false b = refl

  -- no whole pair is left
  pub past_end : (left : List ℕ) → length left < 2 → any_past n left ≡ false
  unfolding any_past pairs_of every
  past_end [] h = refl
  past_end (a ∷ []) h = refl
  past_end (a ∷ b ∷ l) h = absurd (omega arith)
