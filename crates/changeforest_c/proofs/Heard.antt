-- What is told of a row tells its text, and one thing alone is told. Assumes nothing.
use mathlib.Core.Path.{◌≡◌, ap}
use Prim.Native.Nat.{ℕ, zero, suc}
use Rattle.scope.specs.Refusals.{given, unless, told_unless}
use Rattle.scope.specs.Calls.{run_of}
use Rattle.scope.specs.Why as scope
use Rattle.scope.proofs.Never.{never}

pub text_told : (a : scope.WhyAsked) (w : scope.Why) → given w ≡ (scope.why_call a).answer → (scope.why_call a).text ≡ scope.text_of w
unfolding scope.why_call
text_told a w e = go (scope.why_refusal a) e
  where
    v : scope.Why
    v = scope.why_of (run_of a.matrix a.settings) a.row

    go : (no : ℕ) → given w ≡ unless no v → told_unless no (scope.text_of v) ≡ scope.text_of w
    go zero e = let is : v ≡ w = cc in ap scope.text_of is
    go (suc k) e = never (cc)
