-- What is held of a deck that is not refused is the deck's, and its refusal is written before its run's. Assumes nothing.
use mathlib.Core.Path.{◌≡◌, refl, sym, ◌∙◌, ap₂}
use mathlib.Core.List.{List, [], ◌∷◌, ◌++◌, map}
use Prim.Native.Nat.{ℕ, zero, suc, ◌*◌, ◌≤◌}
use native.Mathlib.Omega.{arith}
use lib.Dec.{T}
use lib.IntN.{ℤ}
use lib.Ieee.{Float, of_int, of_bits, binary64}
use lib.ListN.{length, take, drop, length-map}
use lib.Seq.{take_all, take_at}
use Rattle.scope.specs.Lists.{holding}
use Rattle.scope.specs.Asked.{Matrix, Settings, off, nothing}
use Rattle.scope.specs.Refusals.{Test, first_of}
use Rattle.scope.specs.Text.{bytes, decimal, line}
use Rattle.scope.specs.Program.{Reading, Deck, deck_refusal, deck_matrix, deck_settings, or_refused}
use Rattle.control.proofs.Clean.{Numbered, stops, passes}
use Rattle.line.specs.declared.Given.{Given}
use Rattle.deck.specs.Meaning.{Told}
use Rattle.limits.specs.Limits.{given_refusal}
use Rattle.limits.specs.Held.{matrix_held, settings_held, or_else}
use Rattle.limits.proofs.Refused.{held, refusal_right}
use Rattle.limits.proofs.Clean.{DeckClean, deck_clean}

held_cells : (zs : List ℤ) (cells₀ cells : List Float) (k : ℕ) → cells ≡ holding (take 2048 (map (of_int binary64) zs)) cells₀ → length zs ≡ k → k ≤ 2048 → take k cells ≡ map (of_int binary64) zs
held_cells zs cells₀ cells k h l s =
    let vs = map (of_int binary64) zs in
    let long : length vs ≡ k = length-map zs (of_int binary64) ∙ l in
    rw (h, take_all 2048 vs (omega arith)) (take_at vs (drop (length vs) cells₀) k long)

-- ---- the deck's own refusal, or else another
-- of two lists of tests
pub first_else : (xs ys : List Test) → T (Numbered xs) → or_else (first_of xs) (first_of ys) ≡ first_of (xs ++ ys)
first_else xs ys h = go (first_of xs) refl
  where
    go : (k : ℕ) → first_of xs ≡ k → or_else k (first_of ys) ≡ first_of (xs ++ ys)
    go zero e = sym (passes xs ys h e)
    go (suc k) e = sym e ∙ stops xs ys (λ z. omega arith)

-- it is written, or what follows where it has none
pub refused_first : (no k : ℕ) (text : List ℕ) → (no ≡ 0 → ⊥) → line (bytes "refused" ∷ decimal no ∷ []) ≡ or_refused (or_else no k) text
refused_first zero k text h = absurd (h refl)
refused_first (suc j) k text h = refl

follows : (no j k : ℕ) (text text' : List ℕ) → (no ≡ 0 → (j ≡ k) × (text ≡ text')) → or_refused (or_else no j) text ≡ or_refused (or_else no k) text'
follows zero j k text text' h = let e = h refl in rw (e.0, e.1)
follows (suc n) j k text text' h = refl

module _ (cells₀ : List Float) (forbidden₀ : List ℕ) (room : 128 ≤ length forbidden₀) (g : Given) (cells : List Float) (forbidden : List ℕ) (r : Reading)
    (told : Told cells₀ forbidden₀ g cells forbidden r) where
  abbrev deck : Deck
  deck = told.deck

  number_same : given_refusal g forbidden ≡ deck_refusal deck
  number_same = refusal_right g forbidden (given_refusal g forbidden) refl cells₀ forbidden₀ cells r room told

  module _ (clean : DeckClean deck) where
    cells_same : (matrix_held g cells).cells ≡ map (of_int binary64) deck.cells
    cells_same =
        let size : g.n * g.d ≡ deck.n * deck.d = ap₂ ◌*◌ told.n_is told.d_is in
        held_cells deck.cells cells₀ cells (g.n * g.d) told.kept.cells_held (omega (arith, clean.sizes.filled)) (omega (arith, clean.sizes.size))

    pairs_same : (settings_held g forbidden).forbidden ≡ deck.forbidden
    pairs_same = held cells₀ forbidden₀ g cells forbidden r room told (omega (arith, told.kept.flat, clean.few))

    matrix_same : matrix_held g cells ≡ deck_matrix deck
    matrix_same = let a = cells_same in let n = told.n_is in let d = told.d_is in λ i. record { cells = a i; n = n i; d = d i }

    settings_same : settings_held g forbidden ≡ deck_settings deck
    settings_same =
        let b = pairs_same in
        let m = told.m_is in
        let t = told.threshold_is in
        λ i. record { shortest = off (m i); threshold = of_bits binary64 (t i); forbidden = b i; source = nothing }

  -- THE LAW: a number and a text of a deck's matrix and settings, behind the deck's own refusal, may be taken of what is held
  module _ (no : Matrix → Settings → ℕ) (text : Matrix → Settings → List ℕ) where
    pub text_same : (k : ℕ) → (DeckClean deck → no (deck_matrix deck) (deck_settings deck) ≡ k)
        → or_refused (or_else (given_refusal g forbidden) (no (matrix_held g cells) (settings_held g forbidden))) (text (matrix_held g cells) (settings_held g forbidden)) ≡ or_refused (or_else (deck_refusal deck) k) (text (deck_matrix deck) (deck_settings deck))
    text_same k is =
        rw number_same
        (follows (deck_refusal deck) _ _ _ _
        (λ e. let clean = deck_clean deck e in (ap₂ no (matrix_same clean) (settings_same clean) ∙ is clean, ap₂ text (matrix_same clean) (settings_same clean))))
