-- What draws leave, pair by pair, as long as W records don't stand. Assumes nothing.
use mathlib.Core.Path.{◌≡◌, refl}
use mathlib.Core.Bool.{Bool, true, false, cond, ◌&&◌}
use mathlib.Core.List.{List, [], ◌∷◌, ◌++◌}
use mathlib.Core.Option.{Option, none, some}
use Prim.Native.Nat.{ℕ, zero, suc, ◌-◌, ◌≤◌, ◌<◌}
use native.Mathlib.Numerals.{unary_clauses}
use native.Mathlib.Omega.{arith}
use lib.Dec.{ltb}
use lib.ListN.{length, take}
use lib.Seq.{take-nil}
use Rattle.scope.specs.Lists.{keep, select}
use Rattle.scope.specs.Grid.{Record}
use Rattle.scope.specs.Origin.{draw}
use Rattle.scope.specs.Layers.{StoredSegment, ends_of, one, labelled, stored}
use Rattle.scope.specs.Draws.{pairs_of, numbered, is_searched, is_found, drawn}
use Rattle.segmentation.specs.Segments.{draw_record}

module _ (find : ℕ → ℕ → Option Record) where
  -- the draws that are stored until W are, their pairs numbered from k on
  abbrev answering : ℕ → List ℕ → List StoredSegment
  answering k ds = select (λ s. is_searched (ends_of s) && is_found (find s.start s.stop)) (numbered k (pairs_of ds))

  unfoldable pub drawn_from : ℕ → List ℕ → ℕ → List StoredSegment
  drawn_from k ds W = take W (answering k ds)

  pub drawn_first : (ds : List ℕ) (W : ℕ) → drawn find ds W ≡ drawn_from 0 ds W
  unfolding drawn drawn_from
  drawn_first ds W = refl

  -- what the pair number k leaves
  abbrev pub left : ℕ → ℕ → ℕ → List Record
  left k a b = one (labelled (draw k) (draw_record find (record { start = a; stop = b })))

  pub drawn_next : (k a b : ℕ) (ds : List ℕ) (W : ℕ) → 0 < W
      → stored find (drawn_from k (a ∷ b ∷ ds) W) ≡ left k a b ++ stored find (drawn_from (suc k) ds (W - length (left k a b)))
  unfolding drawn_from pairs_of numbered select stored
  drawn_next k a b ds zero h = absurd (omega arith)
  drawn_next k a b ds (suc W) h = go (ltb a b) (find a b) refl
    where
      go : (t : Bool) (o : Option Record) → find a b ≡ o
          → stored find (take (suc W) (keep (t && is_found o) (record { start = a; stop = b; origin = draw k }) (answering (suc k) ds)))
          ≡ one (labelled (draw k) (cond t o none)) ++ stored find (take (suc W - length (one (labelled (draw k) (cond t o none)))) (answering (suc k) ds))
      go false o e = simp unary_clauses
      go true none e = simp unary_clauses
      go true (some r) e = simp (unary_clauses, e)

  pub drawn_none : (k : ℕ) (draws : List ℕ) (W : ℕ) → length draws ≤ 1 → drawn_from k draws W ≡ []
  unfolding drawn_from pairs_of numbered select
  drawn_none k [] W h = take-nil W
  drawn_none k (a ∷ []) W h = take-nil W
  drawn_none k (a ∷ b ∷ ds) W h = absurd (omega arith)

  pub drawn_full : (k : ℕ) (draws : List ℕ) → drawn_from k draws 0 ≡ []
  unfolding drawn_from
  drawn_full k draws = refl
