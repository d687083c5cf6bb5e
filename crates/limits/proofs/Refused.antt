-- The refusal that is judged from what is kept of a deck is the deck's. Assumes nothing.
use mathlib.Core.Path.{◌≡◌, sym, ◌∙◌}
use mathlib.Core.Bool.{◌||◌, or-true}
use mathlib.Core.List.{List}
use Prim.Native.Nat.{ℕ, ◌*◌, ◌≤◌, ◌<◌, min}
use native.Mathlib.Omega.{arith}
use lib.Dec.{ltb, eqb}
use lib.Ieee.{Float}
use lib.ListN.{length, take, drop}
use lib.Seq.{take_all, take_at}
use borrow.Author.Tests.{eq-eqb, ne_eqb, lt-ltb, le-ltb, ltb-true, ltb-false, eqb-true, eqb-false}
use Rattle.scope.specs.Refusals.{outside, most_columns}
use Rattle.scope.specs.Program.{Reading, wrong_deck, wrong_pairs, deck_refusal}
use Rattle.token.proofs.Tested.{either}
use Rattle.deck.specs.Meaning.{Told}
use Rattle.limits.specs.Limits.{wrong_given, wrong_held, given_refusal, Judged}
use Rattle.line.specs.declared.Given.{Given}

-- a count of up to 2,048 is exact
count_same : (n all : ℕ) → n ≤ 2048 → eqb (min all 2049) n ≡ eqb all n
count_same n all h =
    either (eqb all n)
    (λ t. let e = eqb-true all n t in eq-eqb (min all 2049) n (omega arith) ∙ sym t)
    (λ t. ne_eqb (min all 2049) n (λ (e : min all 2049 ≡ n). eqb-false all n t (omega arith)) ∙ sym t)

module _ (cells₀ : List Float) (forbidden₀ : List ℕ) (g : Given) (cells : List Float) (forbidden : List ℕ) (r : Reading) (room : 128 ≤ length forbidden₀) (told : Told cells₀ forbidden₀ g cells forbidden r) where
  sizes_same : wrong_given g ≡ wrong_deck told.deck
  unfolding wrong_given wrong_deck
  sizes_same =
      let e = told.deck in
      let sizes = outside 256 e.n || outside most_columns e.d in
      rw (told.n_is, told.d_is, told.kept.cells_counted)
      (either (ltb 2048 (e.n * e.d))
      (λ t. rw (t, or-true sizes))
      (λ t. rw (t, count_same (e.n * e.d) (length e.cells) (ltb-false 2048 (e.n * e.d) t))))

  -- all of up to 64 pairs are held
  pub held : told.kept.count ≤ 64 → take (2 * g.pairs) forbidden ≡ told.deck.forbidden
  held h =
      let ps = told.deck.forbidden in
      let long : length ps ≡ 2 * g.pairs = omega (arith, told.kept.flat, told.kept.pairs_counted) in
      rw (told.kept.forbidden_held, take_all 128 ps (omega (arith, told.kept.flat))) (take_at ps (drop (length ps) forbidden₀) (2 * g.pairs) long)

  pairs_same : wrong_held g.pairs forbidden ≡ wrong_pairs told.deck.forbidden
  unfolding wrong_held wrong_pairs
  pairs_same =
      let k = told.kept in
      either (ltb 64 k.count)
      (λ t.
      let w : 64 < k.count = ltb-true 64 k.count t in
      rw (lt-ltb 64 g.pairs (omega (arith, k.pairs_counted)), lt-ltb 128 (length told.deck.forbidden) (omega (arith, k.flat))))
      (λ t.
      let w : k.count ≤ 64 = ltb-false 64 k.count t in
      rw (le-ltb 64 g.pairs (omega (arith, k.pairs_counted)), le-ltb 128 (length told.deck.forbidden) (omega (arith, k.flat)), held w))

  refusal_same : given_refusal g forbidden ≡ deck_refusal told.deck
  unfolding given_refusal deck_refusal
  refusal_same = rw (sizes_same, told.m_is, told.threshold_is, told.kept.wide_is, pairs_same)

-- what `refusal` answers is right
pub refusal_right : (g : Given) (forbidden : List ℕ) (n : ℕ) → n ≡ given_refusal g forbidden → Judged g forbidden n
refusal_right g forbidden n e cells₀ forbidden₀ cells r room told = e ∙ refusal_same cells₀ forbidden₀ g cells forbidden r room told
