-- "The lowest number that applies is given": of tests in number order, `first_of` gives the lowest whose test holds, and 0 exactly if none does. Assumes nothing.
use mathlib.Core.Path.{◌≡◌, refl}
use mathlib.Core.Logic.{⊎_elim}
use mathlib.Core.Bool.{Bool, true, false, ◌&&◌, false≢true}
use mathlib.Core.List.Memᴰ
use mathlib.Core.List.{List, [], ◌∷◌, Memᴰ}
use Prim.Native.Nat.{ℕ, zero, suc, ◌≤◌, ◌<◌}
use native.Mathlib.Omega.{arith}
use borrow.Author.Tests.{leb-true}
use lib.Dec.{leb}
use lib.Ieee.{Float}
use lib.ListN.{length, get_or}
use Rattle.scope.specs.Refusals.{Test, test, first_of, given, unless}
use Rattle.scope.specs.Asked.{Settings}
use Rattle.scope.specs.Calls.{Room, length_tests, CandidatesAsked, candidates_tests, GainAsked, gain_tests, SearchAsked, search_tests, StoredAsked, stored_tests, TreeAsked, tree_tests, counted_tests, OrderingAsked, ordering_tests, PredictAsked, predict_tests, CurveAsked, curve_tests, PickAsked, pick_tests, GuessesAsked, guesses_tests, PermutationAsked, permutation_tests}
use Rattle.scope.specs.Feed.{State, OpenAsked, open_tests, feed_tests, close_tests, fed_tests, fed_counted_tests}
use Rattle.scope.specs.Why.{WhyAsked, why_tests}
use Rattle.scope.specs.Program.{Deck, deck_tests}
use Rattle.scope.specs.WhyText.{asked_tests}
use Rattle.scope.proofs.Never.{never}
use Rattle.scope.proofs.Members.{first_of_lem, second_of, at_in}

-- the numbers never fall, from lo on
abbrev pub in_order : ℕ → List Test → Bool
in_order lo [] = true
in_order lo (test b k ∷ ts) = leb lo k && in_order k ts

-- k is the lowest number whose test holds, or 0 for none
pub record Lowest (ts : List Test) (k : ℕ) : Type 0 where
  pub clean : k ≡ 0 → (j : ℕ) → Memᴰ (test true j) ts → ⊥
  pub applies : 0 < k → Memᴰ (test true k) ts
  pub least : (j : ℕ) → Memᴰ (test true j) ts → k ≤ j

above : (ts : List Test) (lo : ℕ) → in_order lo ts ≡ true → (j : ℕ) → Memᴰ (test true j) ts → lo ≤ j
above [] lo h j i = absurd (Memᴰ.not-nil i)
above (test b k ∷ ts) lo h j i =
    let l = first_of_lem (leb lo k) (in_order k ts) h in
    let r = second_of (leb lo k) (in_order k ts) h in
    let lk = leb-true lo k l in
    ⊎_elim (λ (w : test true j ≡ test b k). let e : j ≡ k = cc in omega arith) (λ w. omega (arith, above ts k r j w)) (Memᴰ.cases_cons i)

lowest_from : (ts : List Test) (lo : ℕ) → in_order lo ts ≡ true → 0 < lo → Lowest ts (first_of ts)
lowest_from [] lo h p = record { clean = λ e j i. Memᴰ.not-nil i; applies = λ q. absurd (omega arith); least = λ j i. absurd (Memᴰ.not-nil i) }
lowest_from (test true k ∷ ts) lo h p =
    let l = first_of_lem (leb lo k) (in_order k ts) h in
    let r = second_of (leb lo k) (in_order k ts) h in
    let lk = leb-true lo k l in
    record {
      clean = λ e j i. omega arith;
      applies = λ q. Memᴰ.head refl;
      least = λ j i. ⊎_elim (λ (w : test true j ≡ test true k). let e : j ≡ k = cc in omega arith) (above ts k r j) (Memᴰ.cases_cons i);
    }
lowest_from (test false k ∷ ts) lo h p =
    let l = first_of_lem (leb lo k) (in_order k ts) h in
    let r = second_of (leb lo k) (in_order k ts) h in
    let lk = leb-true lo k l in
    let rest = lowest_from ts k r (omega arith) in
    record {
      clean = λ e j i. ⊎_elim (other j k) (rest.clean e j) (Memᴰ.cases_cons i);
      applies = λ q. Memᴰ.tail (rest.applies q);
      least = λ j i. ⊎_elim (λ w. absurd (other j k w)) (rest.least j) (Memᴰ.cases_cons i);
    }
  where
    other : (j k : ℕ) → test true j ≡ test false k → ⊥
    other j k w = let z : ◌≡◌ {A = Bool} true false = cc in absurd (false≢true (cc))

pub lowest : (ts : List Test) → in_order 1 ts ≡ true → Lowest ts (first_of ts)
lowest ts h = lowest_from ts 1 h (omega arith)

-- where no number is given, the test number i does not hold
abbrev pub holds : Test → Bool
holds (test b k) = b

pub not_held : (ts : List Test) → in_order 1 ts ≡ true → first_of ts ≡ 0 → (i : ℕ) → i < length ts → holds (get_or ts i (test false 0)) ≡ false
not_held ts h z i l = go (get_or ts i (test false 0)) (at_in ts i (test false 0) l)
  where
    go : (t : Test) → Memᴰ t ts → holds t ≡ false
    go (test true k) i = absurd ((lowest ts h).clean z k i)
    go (test false k) i = refl

-- a call gives its value where the number is 0, and only there
pub given_is : {A : Type 0} (k : ℕ) (v l : A) → unless k v ≡ given l → (k ≡ 0) × (v ≡ l)
given_is zero v l e = (refl, cc)
given_is (suc k) v l e = never (cc)

-- ---- every call's tests are in number order, whatever its input is
pub record InOrder : Type 0 where
  pub length : (r : Float) (n : ℕ) → in_order 1 (length_tests r n) ≡ true
  pub candidates : (a : CandidatesAsked) → in_order 1 (candidates_tests a) ≡ true
  pub gain : (a : GainAsked) → in_order 1 (gain_tests a) ≡ true
  pub search : (a : SearchAsked) → in_order 1 (search_tests a) ≡ true
  pub stored : (a : StoredAsked) → in_order 1 (stored_tests a) ≡ true
  pub tree : (a : TreeAsked) → in_order 1 (tree_tests a) ≡ true
  pub counted : (a : TreeAsked) (counts : ℕ) → in_order 1 (counted_tests a counts) ≡ true
  pub opening : (a : OpenAsked) → in_order 1 (open_tests a) ≡ true
  pub lot : (s : State) (cells : List Float) (room : ℕ) → in_order 1 (feed_tests s cells room) ≡ true
  pub closing : (s : State) → in_order 1 (close_tests s) ≡ true
  pub later : (st : State) (s : Settings) (room : Room) → in_order 1 (fed_tests st s room) ≡ true
  pub later_counted : (st : State) (s : Settings) (room : Room) (counts : ℕ) → in_order 1 (fed_counted_tests st s room counts) ≡ true
  pub why : (a : WhyAsked) → in_order 1 (why_tests a) ≡ true
  pub ordering : (a : OrderingAsked) → in_order 1 (ordering_tests a) ≡ true
  pub predict : (a : PredictAsked) → in_order 1 (predict_tests a) ≡ true
  pub curve : (a : CurveAsked) → in_order 1 (curve_tests a) ≡ true
  pub pick : (a : PickAsked) → in_order 1 (pick_tests a) ≡ true
  pub guesses : (a : GuessesAsked) → in_order 1 (guesses_tests a) ≡ true
  pub permutation : (a : PermutationAsked) → in_order 1 (permutation_tests a) ≡ true
  pub deck : (deck : Deck) → in_order 1 (deck_tests deck) ≡ true
  pub asked : (deck : Deck) (x : ℕ) → in_order 1 (asked_tests deck x) ≡ true

pub all_in_order : InOrder
all_in_order =
    record {
      length = λ r n. refl;
      candidates = λ a. refl;
      gain = λ a. refl;
      search = λ a. refl;
      stored = λ a. refl;
      tree = λ a. refl;
      counted = λ a counts. refl;
      opening = λ a. refl;
      lot = λ s cells room. refl;
      closing = λ s. refl;
      later = λ st s room. refl;
      later_counted = λ st s room counts. refl;
      why = λ a. refl;
      ordering = λ a. refl;
      predict = λ a. refl;
      curve = λ a. refl;
      pick = λ a. refl;
      guesses = λ a. refl;
      permutation = λ a. refl;
      deck = λ deck. refl;
      asked = λ deck x. refl;
    }
