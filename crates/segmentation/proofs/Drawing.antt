-- The loop over the draws: what it has stored, and what is left to store of the rest of the list. Assumes nothing.
use mathlib.Core.Path.{◌≡◌, refl, sym, ◌∙◌}
use mathlib.Core.List.Memᴰ
use mathlib.Core.List.{List, [], ◌∷◌, ◌++◌, append-nil, append_assoc}
use mathlib.Core.Option.{Option}
use Prim.Native.Nat.{ℕ, ◌+◌, ◌-◌, ◌≤◌, ◌<◌}
use native.Mathlib.Nat.{sub-zero}
use native.Mathlib.Numerals.{add-one}
use native.Mathlib.Omega.{arith}
use lib.Ieee.{Float}
use lib.ListN.{length, get_or}
use Rattle.rows.proofs.Pairs.{pair_turn}
use Rattle.scope.specs.Lists.{◌∈◌}
use Rattle.scope.specs.Grid.{Record}
use Rattle.scope.specs.Origin.{draw}
use Rattle.scope.specs.Layers.{Segment, one, labelled, stored}
use Rattle.scope.specs.Draws.{pairs_of, drawn}
use Rattle.scope.proofs.Stored.{one_few}
use Rattle.stored.specs.Flat.{Put}
use Rattle.stored.proofs.Flat.{put_none, put_more}
use Rattle.segmentation.specs.Segments.{draw_record}
use Rattle.segmentation.proofs.Drawn.{drawn_from, drawn_first, drawn_next, drawn_none, drawn_full}

-- before the pair number k, with the first count records stored: what draws leave in all is those, and what the rest of the list leaves until w stand
pub record Drawing (find : ℕ → ℕ → Option Record) (draws : List ℕ) (w : ℕ) (rows₀ : List ℕ) (gains₀ : List Float) (rows : List ℕ) (gains : List Float) (count k : ℕ) (rest : List ℕ) : Type 0 where
  pub made : List Record
  pub put : Put made 0 rows₀ gains₀ rows gains count
  pub few : count ≤ w
  -- the pairs of the rest are pairs of the list
  pub ours : (s : Segment) → s ∈ pairs_of rest → s ∈ pairs_of draws
  pub left : stored find (drawn find draws w) ≡ made ++ stored find (drawn_from find k rest (w - count))

module _ (find : ℕ → ℕ → Option Record) (draws : List ℕ) (w : ℕ) {rows₀ : List ℕ} {gains₀ : List Float} where
  pub drawing_none : Drawing find draws w rows₀ gains₀ rows₀ gains₀ 0 0 draws
  drawing_none = record { made = []; put = put_none 0 rows₀ gains₀; few = omega arith; ours = λ s j. j; left = rw (drawn_first, sub-zero w) }

  module _ {rows : List ℕ} {gains : List Float} {count k : ℕ} {rest : List ℕ} (at : Drawing find draws w rows₀ gains₀ rows gains count k rest) where
    -- p stands first in the rest, and next is left
    module _ (p next : List ℕ) (e : rest ≡ p ++ next) (two : length p ≡ 2) where
      abbrev pair : Segment
      pair = record { start = get_or p 0 0; stop = get_or p 1 0 }

      rest_is : pairs_of rest ≡ pair ∷ pairs_of next
      unfolding pairs_of
      rest_is = rw (pair_turn p rest next 0 e two)

      pub drawing_pair : pair ∈ pairs_of draws
      drawing_pair = at.ours _ (rw rest_is (Memᴰ.head refl))

      -- what the pair leaves
      abbrev leaves : Segment → List Record
      leaves s = one (labelled (draw k) (draw_record find s))

      -- one draw more
      following : count < w → {s : Segment} → s ≡ pair → {rows₁ : List ℕ} {gains₁ : List Float} {after : ℕ} → Put (leaves s) count rows gains rows₁ gains₁ after
          → stored find (drawn_from find k rest (w - count)) ≡ leaves s ++ stored find (drawn_from find (k + 1) next (w - after))
      following l {s} is {after = after} put =
          let left : w - after ≡ w - count - length (leaves s) = omega (arith, put.told) in
          rw (pair_turn p rest next 0 e two, left, is, add-one) (drawn_next find k (get_or p 0 0) (get_or p 1 0) next (w - count) (omega arith))

      pub drawing_next : count < w → {number : ℕ} → number ≡ k → {s : Segment} → s ≡ pair → {rows₁ : List ℕ} {gains₁ : List Float} {after : ℕ}
          → Put (one (labelled (draw number) (draw_record find s))) count rows gains rows₁ gains₁ after → Drawing find draws w rows₀ gains₀ rows₁ gains₁ after (k + 1) next
      drawing_next l numbered {s} is {rows₁} {gains₁} {after} stored_one =
          let put : Put (leaves s) count rows gains rows₁ gains₁ after = rw numbered at stored_one in
          let more = leaves s in
          let then : stored find (drawn_from find k rest (w - count)) ≡ more ++ stored find (drawn_from find (k + 1) next (w - after)) = following l is put in
          record {
            made = at.made ++ more;
            put = put_more at.put put;
            few = omega (arith, put.told, one_few (labelled (draw k) (draw_record find s)));
            ours = λ t j. at.ours t (rw rest_is (Memᴰ.tail j));
            left = at.left ∙ rw then (sym (append_assoc at.made more _));
          }

    -- the list has ended, or w stand: nothing is left
    ended : stored find (drawn_from find k rest (w - count)) ≡ [] → Put (stored find (drawn find draws w)) 0 rows₀ gains₀ rows gains count
    ended e = rw (at.left, e, append-nil) at.put

    pub drawing_ends : length rest < 2 → Put (stored find (drawn find draws w)) 0 rows₀ gains₀ rows gains count
    unfolding stored
    drawing_ends h = ended (rw (drawn_none find k rest (w - count) (omega arith)))

    pub drawing_full : w ≤ count → Put (stored find (drawn find draws w)) 0 rows₀ gains₀ rows gains count
    unfolding stored
    drawing_full h = let none : w - count ≡ 0 = omega arith in ended (rw (none, drawn_full))
