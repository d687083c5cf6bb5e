-- What a call leaves: its answer, and what each lent slice holds.
use Rattle.std.specs.Prelude.{◌≡◌, List, ℕ, Float, length}
use Rattle.scope.specs.Lists.{holding}
use Rattle.scope.specs.Calls.{CurveAsked, curve_call}

-- what `gain_from_likelihoods` is asked: two rows, and the room of a slice that holds `curve₀`
abbrev pub curve_asked : List Float → List Float → List Float → CurveAsked
curve_asked l0 l1 curve₀ = record { l0 = l0; l1 = l1; room = length curve₀ }

-- what it leaves: 0 and the curve, or a number and the slice as it was
pub record CurveLeft (l0 l1 : List Float) (r : ℕ) (curve₀ curve₁ : List Float) : Type 0 where
  pub answer : r ≡ (curve_call (curve_asked l0 l1 curve₀)).answer
  pub curve : curve₁ ≡ holding (curve_call (curve_asked l0 l1 curve₀)).curve curve₀
