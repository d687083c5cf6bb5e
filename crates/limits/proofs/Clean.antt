-- What holds of a deck that is not refused, and that its run passes the tests that every run has to pass. Assumes nothing.
use mathlib.Core.Path.{◌≡◌, refl, ◌∙◌}
use mathlib.Core.Bool.{Bool, true, false, not, ◌||◌}
use mathlib.Core.List.{List, [], ◌∷◌, ◌++◌, map}
use Prim.Native.Nat.{ℕ, suc, ◌+◌, ◌*◌, ◌≤◌}
use native.Mathlib.Nat.{add-mul}
use native.Mathlib.Omega.{arith}
use borrow.Author.Tests.{ltb-false, le-ltb, eqb-true, eq-eqb, not-false, leb-true}
use lib.Dec.{ltb, eqb}
use lib.IntN.{ℤ, pos, negsuc}
use lib.Ieee.{Float, nan, inf, fin, binary64, round, of_int, of_bits, is_nan}
use lib.Ieee.Exact.{HasValue}
use lib.Ieee.Back.{round_whole}
use lib.ListN.{length, take, length-map}
use Rattle.scope.specs.Floats.{is_finite}
use Rattle.scope.specs.Lists.{every}
use Rattle.scope.specs.Refusals.{Test, test, first_of, outside, most_columns, well_paired, wrong_matrix, wrong_layers, no2, no3, no7}
use Rattle.scope.specs.Layers.{seeded_from}
use Rattle.scope.specs.Draws.{is_odd, both_given}
use Rattle.scope.specs.Calls.{sums_room, run_tests}
use Rattle.scope.specs.Asked.{off}
use Rattle.scope.specs.Program.{Deck, deck_tests, deck_refusal, wrong_deck, wrong_pairs, is_reading, deck_matrix, deck_settings, deck_run}
use Rattle.scope.proofs.Members.{first_of_lem, second_of}
use Rattle.scope.proofs.Candidates.{or_false, not_outside}
use Rattle.control.proofs.Clean.{passed, passes}
use Rattle.line.specs.declared.Given.{Given}
use Rattle.limits.specs.Limits.{wrong_given, wrong_held, given_refusal}

-- ---- the sizes
pub record Sized (n d count : ℕ) : Type 0 where
  pub rows : (1 ≤ n) × (n ≤ 256)
  pub columns : (1 ≤ d) × (d ≤ 64)
  pub size : n * d ≤ 2048
  pub filled : count ≡ n * d

sized : (n d count : ℕ) → (outside 256 n || outside most_columns d || ltb 2048 (n * d) || not (eqb count (n * d))) ≡ false → Sized n d count
sized n d count e =
    let (below, exact) = or_false (outside 256 n || outside most_columns d || ltb 2048 (n * d)) (not (eqb count (n * d))) e in
    let (both, product) = or_false (outside 256 n || outside most_columns d) (ltb 2048 (n * d)) below in
    let (r, c) = or_false (outside 256 n) (outside most_columns d) both in
    record { rows = not_outside 256 n r; columns = not_outside most_columns d c; size = ltb-false 2048 (n * d) product; filled = eqb-true count (n * d) (not-false _ exact) }

-- ---- what is kept of a deck
pub record GivenClean (g : Given) : Type 0 where
  pub sizes : Sized g.n g.d g.cells
  pub least : 1 ≤ g.m
  pub pairs : g.pairs ≤ 64

pub given_clean : (g : Given) (forbidden : List ℕ) → given_refusal g forbidden ≡ 0 → GivenClean g
unfolding given_refusal wrong_given wrong_held
given_clean g forbidden e =
    let p = passed (test (wrong_given g) 1 ∷ no2 (off g.m) ∷ no3 (of_bits binary64 g.threshold) ∷ test g.wide 4 ∷ test (wrong_held g.pairs forbidden) 5 ∷ []) tt e in
    let held = or_false (ltb 64 g.pairs) (not (well_paired (take (2 * g.pairs) forbidden))) p.1.1.1.1.0 in
    record { sizes = sized g.n g.d g.cells p.0; least = (not_outside 4096 g.m p.1.0).0; pairs = ltb-false 64 g.pairs held.0 }

-- ---- a cell is finite
valued_finite : (x : Float) (s : Bool) (n : ℕ) → HasValue x s n 1 → is_finite x ≡ true
valued_finite nan s n h = absurd h
valued_finite (inf t) s n h = absurd h
valued_finite (fin t m e) s n h = refl

reading_finite : (z : ℤ) → is_reading z ≡ true → is_finite (of_int binary64 z) ≡ true
unfolding of_int
reading_finite (pos n) h = valued_finite (round binary64 false n 1) false n (round_whole binary64 false n (omega (arith, leb-true n 32767 h)))
reading_finite (negsuc n) h = valued_finite (round binary64 true (suc n) 1) true (suc n) (round_whole binary64 true (suc n) (omega (arith, leb-true n 32767 h)))

readings_finite : (zs : List ℤ) → every is_reading zs ≡ true → every is_finite (map (of_int binary64) zs) ≡ true
unfolding every
readings_finite [] h = refl
readings_finite (z ∷ zs) h = rw (reading_finite z (first_of_lem (is_reading z) (every is_reading zs) h), readings_finite zs (second_of (is_reading z) (every is_reading zs) h))

-- ---- a deck
pub record DeckClean (deck : Deck) : Type 0 where
  pub sizes : Sized deck.n deck.d (length deck.cells)
  pub length_fits : (1 ≤ deck.m) × (deck.m ≤ 4096)
  pub number : is_nan (of_bits binary64 deck.threshold) ≡ false
  pub narrow : every is_reading deck.cells ≡ true
  pub few : length deck.forbidden ≤ 128
  pub paired : well_paired deck.forbidden ≡ true

pub deck_clean : (deck : Deck) → deck_refusal deck ≡ 0 → DeckClean deck
unfolding deck_refusal wrong_deck wrong_pairs
deck_clean deck e =
    let p = passed (deck_tests deck) tt e in
    let pairs = or_false (ltb (2 * 64) (length deck.forbidden)) (not (well_paired deck.forbidden)) p.1.1.1.1.0 in
    record {
      sizes = sized deck.n deck.d (length deck.cells) p.0;
      length_fits = not_outside 4096 deck.m p.1.0;
      number = p.1.1.0;
      narrow = not-false _ p.1.1.1.0;
      few = ltb-false 128 (length deck.forbidden) pairs.0;
      paired = not-false _ pairs.1;
    }

-- ---- its run
within : (most v : ℕ) → 1 ≤ v → v ≤ most → outside most v ≡ false
unfolding outside
within most v l h = rw (le-ltb v 1 l, le-ltb most v h)

module _ (deck : Deck) (clean : DeckClean deck) where
  abbrev values : List Float
  values = (deck_matrix deck).cells

  right_matrix : wrong_matrix 4096 values deck.n deck.d ≡ false
  unfolding wrong_matrix
  right_matrix =
      rw (within 4096 deck.n clean.sizes.rows.0 (omega arith), within 64 deck.d clean.sizes.columns.0 clean.sizes.columns.1, eq-eqb (length values) (deck.n * deck.d) (length-map deck.cells (of_int binary64) ∙ clean.sizes.filled))

  run_clean : first_of (run_tests (deck_matrix deck) (deck_settings deck)) ≡ 0
  unfolding wrong_layers every is_odd both_given
  run_clean =
      rw (right_matrix, within 4096 deck.m clean.length_fits.0 clean.length_fits.1, clean.number, readings_finite deck.cells clean.narrow, clean.paired)

  -- what the deck's own limits leave, its run takes, in room for the prefix sums of 2,048 cells and one row more; so what is refused is refused by the tests that follow
  pub run_passes : (ts : List Test) → first_of (run_tests (deck_matrix deck) (deck_settings deck) ++ (no7 (sums_room (deck_matrix deck)) 2112 ∷ ts)) ≡ first_of ts
  run_passes ts =
      passes (run_tests (deck_matrix deck) (deck_settings deck)) (no7 (sums_room (deck_matrix deck)) 2112 ∷ ts) tt run_clean
      ∙ rw (le-ltb 2112 ((deck.n + 1) * deck.d) (omega (arith, add-mul deck.n 1 deck.d, clean.sizes.size, clean.sizes.columns.1)))

-- a deck has no stored segments
pub nothing_stored : (deck : Deck) → (deck_run deck).segments ≡ []
unfolding seeded_from
nothing_stored deck = refl
