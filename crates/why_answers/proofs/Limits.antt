-- What is refused of a row where its deck is not refused: a row at or past n. Assumes nothing.
use mathlib.Core.Path.{◌≡◌, refl, ◌∙◌}
use mathlib.Core.List.{[], ◌∷◌}
use Prim.Native.Nat.{ℕ, zero, suc, ◌<◌}
use native.Mathlib.Omega.{arith}
use borrow.Author.Tests.{leb-false}
use Rattle.scope.specs.Lists.{every}
use Rattle.scope.specs.Asked.{nothing}
use Rattle.scope.specs.Refusals.{first_of, no7}
use Rattle.scope.specs.Layers.{layers_total}
use Rattle.scope.specs.Draws.{any_past, pairs_of, no8_draws}
use Rattle.scope.specs.Program.{Deck, deck_tests, deck_refusal, deck_matrix, deck_settings}
use Rattle.scope.specs.Why.{no8_row, why_refusal}
use Rattle.scope.specs.WhyText.{asked_refusal}
use Rattle.control.proofs.Clean.{passed}
use Rattle.limits.specs.Held.{or_else}
use Rattle.limits.proofs.Held.{first_else}
use Rattle.limits.proofs.Clean.{DeckClean, run_passes}
use Rattle.why_answers.specs.Answered.{asked_held}

module _ (deck : Deck) (x : ℕ) where
  -- the row's own number
  abbrev pub past : ℕ
  past = first_of (no8_row deck.n x ∷ [])

  -- what the deck's own limits leave, the call takes, but for the row
  pub row_left : DeckClean deck → why_refusal (asked_held x (deck_matrix deck) (deck_settings deck)) ≡ past
  unfolding why_refusal layers_total every any_past pairs_of
  row_left clean = run_passes deck clean (no7 0 0 ∷ no7 25 25 ∷ no8_draws deck.n nothing ∷ no8_row deck.n x ∷ [])

  pub asked_is : or_else (deck_refusal deck) past ≡ asked_refusal deck x
  unfolding deck_refusal asked_refusal
  asked_is = first_else (deck_tests deck) (no8_row deck.n x ∷ []) tt

  pub asked_free : asked_refusal deck x ≡ 0 → (deck_refusal deck ≡ 0) × (x < deck.n)
  asked_free e = go (deck_refusal deck) (asked_is ∙ e)
    where
      go : (k : ℕ) → or_else k past ≡ 0 → (k ≡ 0) × (x < deck.n)
      go zero h = (refl, leb-false deck.n x (passed (no8_row deck.n x ∷ []) tt h).0)
      go (suc k) h = absurd (omega arith)
