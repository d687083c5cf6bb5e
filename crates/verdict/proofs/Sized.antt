-- The sizes that a segment's search asks. Assumes nothing.
use Prim.Native.Nat.{ℕ, ◌≤◌}
use native.Mathlib.Nat.{le_trans, mul-le-mul_right}
use native.Mathlib.Omega.{arith}
use Rattle.verdict.specs.declared.Asked.{Asked}
use Rattle.verdict.specs.Rules.{Sized}

-- an earlier stop asks no more
pub sized_within : (s : Asked) (c stop : ℕ) → c ≤ stop → Sized s stop → Sized s c
sized_within s c stop h k = (k.0, omega (arith, k.1), le_trans (mul-le-mul_right s.gain.d (omega arith)) k.2)
