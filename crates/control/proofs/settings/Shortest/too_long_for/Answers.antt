-- `too_long_for` meets its contract: fewer rows than can be split.
use mathlib.Core.Path.{◌≡◌, refl, sym}
use mathlib.Core.Bool.{Bool, true, false}
use Prim.Native.Nat.{ℕ, ◌+◌, ◌*◌}
use native.Mathlib.Omega.{arith}
use borrow.Author.Tests.{ltb-true, ltb-false, le-leb, lt-leb}
use lib.Dec.{ltb, leb}
use Rattle.scope.specs.Asked.{one_more}
use Rattle.control.specs.Settings.{shortest_of}
use Rattle.control.proofs.settings.Shortest.too_long_for.Goals as goal

same_test : (rows least more twice : ℕ) → least + more ≡ twice + 1 → ltb rows least ≡ leb (rows + more) twice
same_test rows least more twice e = go (ltb rows least) refl
  where
    go : (b : Bool) → ltb rows least ≡ b → b ≡ leb (rows + more) twice
    go true h = sym (le-leb (rows + more) twice (omega (arith, ltb-true rows least h)))
    go false h = sym (lt-leb (rows + more) twice (omega (arith, ltb-false rows least h)))

pub returns : goal.returns
returns c = let a = c.args in same_test a.rows c.fewest_rows.result (one_more (shortest_of a.self)) (2 * a.self.m) c.fewest_rows.ensures
