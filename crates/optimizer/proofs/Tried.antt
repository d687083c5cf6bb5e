-- A search goes on from a record over the candidates that are left. Assumes nothing.
use Rattle.std.proofs.Common.{◌≡◌, ℕ, List, ◌∷◌, map, Float}
use Rattle.scope.specs.Grid.{Record, better, best, trial}
use Rattle.optimizer.specs.Records.{tried}

-- the first of them, tried
pub tried_first : (gain : ℕ → ℕ → ℕ → Float) (a e x : ℕ) (xs : List ℕ) (r : Record) (v : Float) → r.start ≡ a → r.stop ≡ e → v ≡ gain a e x
    → best r (map (trial gain a e) (x ∷ xs)) ≡ best (better r (tried r x v)) (map (trial gain a e) xs)
unfolding best
tried_first gain a e x xs r v h k l = rw (h, k, l)
