-- How small T is. Assumes nothing.
use mathlib.Core.Path.{◌≡◌}
use mathlib.Core.Bool.{false}
use mathlib.Core.List.{List, [], ◌∷◌}
use Prim.Native.Nat.{ℕ, ◌≤◌}
use native.Mathlib.Omega.{arith}
use Rattle.scope.specs.Asked.{Source}
use Rattle.scope.specs.Refusals.{wrong_layers}
use Rattle.scope.specs.Layers.{layers_total}
use Rattle.scope.specs.Draws.{by_draws, most_stored}
use Rattle.layers.proofs.Layered.{total_most}

-- T is small where nothing is refused
pub stored_most : (s : Source) → wrong_layers s.layers ≡ false → s.W ≤ 4096 → most_stored s ≤ 524288
stored_most s right small = go s.draws
  where
    go : (draws : List ℕ) → by_draws draws (layers_total s.layers) s.W ≤ 524288
    go [] = omega (arith, total_most s.layers right)
    go (d ∷ ds) = omega arith
