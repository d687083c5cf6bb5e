-- Sizes that are not refused are small.
use Rattle.std.proofs.Common.{◌≡◌, ℕ, ◌≤◌, false}
use Rattle.scope.specs.Refusals.{wrong_sizes}
use Rattle.control.proofs.Sizes.{sizes}

pub small : (n d : ℕ) → wrong_sizes 4096 n d ≡ false → (n ≤ 4096) × (d ≤ 64)
small n d e = let w = sizes 4096 n d e in (w.rows.1, w.columns.1)
