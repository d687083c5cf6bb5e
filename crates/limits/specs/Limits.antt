-- The refusals of a deck, from what is kept of it.
use Rattle.std.specs.Prelude.{◌≡◌, Bool, not, ◌||◌, List, [], ◌∷◌, ℕ, ◌*◌, ◌≤◌, ltb, eqb, Float, length, take}
use Rattle.std.specs.Float.Ieee.{of_bits}
use Rattle.std.specs.Float.{binary64}
use Rattle.scope.specs.Asked.{off}
use Rattle.scope.specs.Refusals.{test, first_of, outside, most_columns, well_paired, no2, no3}
use Rattle.scope.specs.Program.{Reading, deck_refusal}
use Rattle.deck.specs.Meaning.{Told}
use Rattle.line.specs.declared.Given.{Given}

unfoldable pub wrong_given : Given → Bool
wrong_given g = outside 256 g.n || outside most_columns g.d || ltb 2048 (g.n * g.d) || not (eqb g.cells (g.n * g.d))

-- so many pairs stand first in the slice
unfoldable pub wrong_held : ℕ → List ℕ → Bool
wrong_held pairs forbidden = ltb 64 pairs || not (well_paired (take (2 * pairs) forbidden))

unfoldable pub given_refusal : Given → List ℕ → ℕ
given_refusal g forbidden =
    first_of (test (wrong_given g) 1 ∷ no2 (off g.m) ∷ no3 (of_bits binary64 g.threshold) ∷ test g.wide 4 ∷ test (wrong_held g.pairs forbidden) 5 ∷ [])

-- a number is that of whichever deck was read so, into a slice that has room
abbrev pub Judged : Given → List ℕ → ℕ → Type 0
Judged g forbidden number =
    (cells₀ : List Float) (forbidden₀ : List ℕ) (cells : List Float) (r : Reading) → 128 ≤ length forbidden₀ → (told : Told cells₀ forbidden₀ g cells forbidden r) → number ≡ deck_refusal told.deck
