-- Why a row is not on the sheet: what is told of a row as a relation between the run, the row and the reason, with no tree. "The reason named must be true of the
-- data and every earlier one false." proofs/Because.antt has `Justified` for every run with m and n at least 1. Assumes nothing.
use Rattle.std.specs.Prelude.{◌≡◌, ◌↔◌, ◌⊎◌, true, false, List, ◌∷◌, ℕ, ◌+◌, ◌≤◌, ◌<◌}
use Rattle.std.specs.Float.Ieee.{lt, is_nan}
use Rattle.scope.specs.Lists.{◌∈◌}
use Rattle.scope.specs.Asked.{Shortest, end_of}
use Rattle.scope.specs.Origin.{Origin}
use Rattle.scope.specs.Grid.{Record}
use Rattle.scope.specs.Layers.{Segment}
use Rattle.scope.specs.Tree.{Run, cut, tree_of, sheet}
use Rattle.scope.specs.ClosedEnd.{Free}
use Rattle.scope.specs.Why.{Why, too_near, barred, no_number, not_above, why_of}
use Rattle.demand.specs.Reached.{ruling, is_cut, Reached, CutAt}

-- ---- the segment
-- "it is a cut, and of which reached segment": the reached segment g is cut at x, by a record of the origin o
pub record CutOf (q : Run) (x : ℕ) (g : Segment) (o : Origin) : Type 0 where
  pub by : Record
  pub reached : Reached q g.start g.stop
  pub is : ruling q g.start g.stop ≡ cut by
  pub at : x ≡ by.split
  pub from : o ≡ by.origin

-- "the uncut segment that holds it": no reached segment is cut at x, and g is reached, uncut, and holds x
pub record HeldBy (q : Run) (x : ℕ) (g : Segment) : Type 0 where
  pub no_cut : CutAt q x → ⊥
  pub reached : Reached q g.start g.stop
  pub uncut : is_cut (ruling q g.start g.stop) ≡ false
  pub low : g.start ≤ x
  pub high : x < g.stop

-- ---- the reasons
-- "too near an end": x < start+m, or not x+m < stop, with the closed end not x+m <= stop
abbrev pub Near : Shortest → Segment → ℕ → Type 0
Near s g x = (x < g.start + s.m) ⊎ (x + s.m < end_of s g.stop → ⊥)

-- "the first listed pair that bars it": (a, b) bars x, and no pair before it does
pub data FirstBarring (x a b : ℕ) : List ℕ → Type 0 where
  here : {ps : List ℕ} → a < x → x ≤ b → FirstBarring x a b (a ∷ b ∷ ps)
  later : {c d : ℕ} {ps : List ℕ} → (c < x → x ≤ d → ⊥) → FirstBarring x a b ps → FirstBarring x a b (c ∷ d ∷ ps)

-- x is told w: the segment is its own, the reason true, and every earlier one false
abbrev pub Because : Run → ℕ → Why → Type 0
Because q x (Why.cut g o) = CutOf q x g o
Because q x (too_near g) = HeldBy q x g × Near q.shortest g x
Because q x (barred a b g) = HeldBy q x g × (Near q.shortest g x → ⊥) × FirstBarring x a b q.forbidden
Because q x (no_number g) =
    HeldBy q x g × (Near q.shortest g x → ⊥) × Free q.forbidden x × (is_nan (q.gain g.start g.stop x) ≡ true)
Because q x (not_above gain g) =
    HeldBy q x g
    × (Near q.shortest g x → ⊥)
    × Free q.forbidden x
    × (gain ≡ q.gain g.start g.stop x)
    × (is_nan gain ≡ false)
    × (lt q.threshold gain ≡ false)

-- ---- what holds of the answers
pub record Justified (q : Run) : Type 0 where
  -- of every row of the run what is told is so
  pub so : (x : ℕ) → x < q.n → Because q x (why_of q x)
  -- and nothing else is
  pub only : (x : ℕ) (w : Why) → Because q x w → w ≡ why_of q x
  -- a row is told to be a cut exactly if it is on the sheet
  pub cut_exactly : (x : ℕ) → x < q.n → ((g : Segment) × (o : Origin) × (why_of q x ≡ Why.cut g o)) ↔ (x ∈ sheet (tree_of q))
  -- "Row 0 is too near an end."
  pub row_0 : (g : Segment) × (why_of q 0 ≡ too_near g)
