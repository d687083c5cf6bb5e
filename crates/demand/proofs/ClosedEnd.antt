-- Gaps, levels and rows too near an end, with the closed end and without. Assumes nothing.
use mathlib.Core.Logic.{◌↔◌, ◌⊎◌, inl, inr}
use Prim.Native.Nat.{ℕ, ◌+◌, ◌≤◌, ◌<◌}
use native.Mathlib.Decide.{dec_le}
use native.Mathlib.Omega.{arith}
use Rattle.scope.specs.Asked.{Shortest, off, on, one_more, end_of}
use Rattle.scope.specs.Layers.{Segment}
use Rattle.scope.proofs.ClosedEnd.{off_end, on_end, on_end_less}
use Rattle.demand.specs.ClosedEnd.{GapsAndLevels}
use Rattle.demand.specs.Because.{Near}

-- the right end in other words
near_is : (s : Shortest) (g : Segment) (x : ℕ) (past : Type 0) → (end_of s g.stop ≤ x + s.m → past) → (past → end_of s g.stop ≤ x + s.m) → Near s g x ↔ ((x < g.start + s.m) ⊎ past)
near_is s g x past said meant = (to, from)
  where
    beyond : (x + s.m < end_of s g.stop → ⊥) → Dec (end_of s g.stop ≤ x + s.m) → end_of s g.stop ≤ x + s.m
    beyond f (yes w) = w
    beyond f (no w) = absurd (f (omega arith))

    to : Near s g x → (x < g.start + s.m) ⊎ past
    to (inl l) = inl l
    to (inr f) = inr (said (beyond f (dec_le (end_of s g.stop) (x + s.m))))

    from : (x < g.start + s.m) ⊎ past → Near s g x
    from (inl l) = inl l
    from (inr h) = inr (λ k. omega (arith, meant h))

pub gaps_and_levels : (m : ℕ) → GapsAndLevels m
unfolding one_more
gaps_and_levels m =
    record {
      gap_off = omega arith;
      gap_on = omega arith;
      levels_off = λ n. rw (off_end m n);
      levels_on = λ n. rw (on_end_less m n);
      near_off = λ g x. near_is (off m) g x (g.stop ≤ x + m) (λ h. omega (arith, off_end m g.stop)) (λ h. omega (arith, off_end m g.stop));
      near_on = λ g x. near_is (on m) g x (g.stop < x + m) (λ h. omega (arith, on_end m g.stop)) (λ h. omega (arith, on_end m g.stop));
    }
