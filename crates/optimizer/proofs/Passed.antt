-- What holds where tests pass. Assumes nothing.
use mathlib.Core.Path.{◌≡◌, sym}
use mathlib.Core.List.{List, [], ◌∷◌}
use Prim.Native.Nat.{ℕ, ◌≤◌}
use Rattle.scope.specs.Asked.{Shortest}
use Rattle.scope.specs.Refusals.{first_of, no1_rows, no2, no5}
use Rattle.scope.proofs.Candidates.{not_outside}
use Rattle.control.proofs.Clean.{passed}

-- rows and shortest part have their sizes
pub rows_passed : (n : ℕ) (s : Shortest) (forbidden : List ℕ) → 0 ≡ first_of (no1_rows n ∷ no2 s ∷ no5 forbidden ∷ []) → (n ≤ 4096) × (1 ≤ s.m) × (s.m ≤ 4096)
rows_passed n s forbidden e =
    let p = passed (no1_rows n ∷ no2 s ∷ no5 forbidden ∷ []) tt (sym e) in
    let m = not_outside 4096 s.m p.1.0 in
    ((not_outside 4096 n p.0).1, m.0, m.1)
